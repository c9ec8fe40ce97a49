-- The precedence of the expressions that a rule of C99 6.5 names: an expression of at least this precedence is one of
-- the rule. From the comma (1) over assignment, `?`, ten rows of operators between two operands, casts, and operators
-- before and behind one operand, to the primary expressions (17).
use Rattle.std.specs.Prelude.{ℕ}

-- any expression, with commas too (6.5.17)
abbrev pub comma : ℕ
comma = 1

-- an assignment expression (6.5.16)
abbrev pub assignment : ℕ
assignment = 2

-- a conditional expression, which a constant expression is too (6.5.15, 6.6)
abbrev pub conditional : ℕ
conditional = 3

-- a logical OR expression (6.5.14)
abbrev pub logical_or : ℕ
logical_or = 4

-- a cast expression (6.5.4)
abbrev pub cast : ℕ
cast = 14

-- a unary expression (6.5.3)
abbrev pub unary : ℕ
unary = 15

-- a postfix expression (6.5.2)
abbrev pub postfix : ℕ
postfix = 16
