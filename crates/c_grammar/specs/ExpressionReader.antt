-- Reading expressions (C99 6.5): an operand, and operators with their other operands as long as they bind tightly
-- enough.
use Rattle.std.specs.Prelude.{ℕ, zero, suc, nat_le, nat_lt, Bool, ◌&&◌, if◌then◌else◌, List, [], ◌∷◌, Ok, Err, Option}
use Rattle.std.specs.Prelude.{Some, None, length}
use Rattle.c_lexer.specs.declared.keyword.Keyword.TheVariants as k
use Rattle.c_lexer.specs.declared.punctuator.Punctuator.{Punctuator}
use Rattle.c_lexer.specs.declared.punctuator.Punctuator.TheVariants as p
use Rattle.c_lexer.specs.declared.token.TokenKind.{TokenKind}
use Rattle.c_lexer.specs.declared.token.TokenKind.TheVariants as kinds
use Rattle.c_syntax.specs.declared.position.Position.{Position}
use Rattle.c_syntax.specs.Tree.{Expression, Arguments}
use Rattle.c_syntax.specs.Tree as t
use Rattle.c_syntax.specs.View.{more_arguments_of}
use Rattle.c_syntax.specs.Levels.{expression_levels}
use Rattle.c_syntax.specs.Words.{Words, word_at}
use Rattle.c_syntax.specs.Formed.{binary_precedence, operand_precedence, is_assignment, is_member_operator}
use Rattle.c_syntax.specs.Formed.{is_postfix_operator, precedence}
use Rattle.c_grammar.specs.Reader.{Outcome, ◌>>=◌, is_punctuator, is_same, next_is_punctuator, expect, identifier_from}
use Rattle.c_grammar.specs.Reader.{ordinary_by, strings_from, behind_commas}
use Rattle.c_grammar.specs.Readers.{Readers, begins_specifiers, typed_from}
use Rattle.c_grammar.specs.declared.declarator_kind.DeclaratorKind.TheVariants as kind
use Rattle.c_grammar.specs.declared.operation.Operation.{Operation}
use Rattle.c_grammar.specs.declared.operation.Operation.TheVariants as op
use Rattle.c_grammar.specs.LeastPrecedence as least

-- of the punctuators that are no operators of one word between or behind operands
abbrev pub bracket_operation : Punctuator → Option Operation
bracket_operation p.Question = Some op.Conditional
bracket_operation p.LeftBracket = Some op.Subscript
bracket_operation p.LeftParenthesis = Some op.Call
bracket_operation _ = None

-- the operation that has its first operand before the punctuator (C99 6.5.2, 6.5.5 to 6.5.17)
unfoldable pub operation : Punctuator → Option Operation
operation x =
    if nat_le 1 (binary_precedence x) then Some op.Binary
    else (if is_assignment x then Some op.Assignment
    else (if is_member_operator x then Some op.Member
    else (if is_postfix_operator x then Some op.Postfix
    else bracket_operation x)))

-- how tightly an operation binds its first operand; 0: there is none
abbrev pub operation_binds : Punctuator → Option Operation → ℕ
operation_binds x None = 0
operation_binds x (Some op.Binary) = binary_precedence x
operation_binds x (Some op.Assignment) = least.assignment
operation_binds x (Some op.Conditional) = least.conditional
operation_binds x (Some _) = least.postfix

-- the least precedence of its first operand
abbrev pub operation_needs : Punctuator → Option Operation → ℕ
operation_needs x None = 0
operation_needs x (Some op.Binary) = binary_precedence x
operation_needs x (Some op.Assignment) = least.unary
operation_needs x (Some op.Conditional) = least.logical_or
operation_needs x (Some _) = least.postfix

-- how tightly a word binds what stands before it; 0: no operation goes on with it
abbrev pub binds : TokenKind → ℕ
binds (kinds.Punctuator x) = operation_binds x (operation x)
binds _ = 0

-- the least precedence of what stands before it
abbrev pub needs : TokenKind → ℕ
needs (kinds.Punctuator x) = operation_needs x (operation x)
needs _ = 0

module _ (names : List (List ℕ)) (deeper : Readers) (levels : ℕ) where
  -- a type name in parentheses, behind the `(` (C99 6.7.6)
  abbrev pub type_name_from : {A : Type 0} → (t.TypedDeclarator → Position → Words → Outcome A) → Words → Outcome A
  type_name_from f i = typed_from deeper kind.Abstract i >>= λ x i. expect p.RightParenthesis i >>= λ r i. f x r i

  -- behind the `(` of a cast (C99 6.5.4)
  unfoldable pub cast_from : Position → Words → Outcome Expression
  cast_from l i = type_name_from (λ x r i. deeper.expression None least.cast i >>= λ e i. Ok (t.cast l x r e, i)) i

  -- behind the `(` of an expression in parentheses (C99 6.5.1)
  unfoldable pub parenthesized_from : Position → Words → Outcome Expression
  parenthesized_from l i = deeper.expression None least.comma i >>= λ e i. expect p.RightParenthesis i
      >>= λ r i. Ok (t.parenthesized l e r, i)

  -- behind a `(` that begins a cast or an expression in parentheses
  unfoldable pub parenthesis_from : ℕ → Position → Words → Outcome Expression
  parenthesis_from m l i = if begins_specifiers names i then (if nat_le m least.cast then cast_from l i else Err i) else
      parenthesized_from l i

  -- behind `sizeof (` (C99 6.5.3.4)
  unfoldable pub sizeof_parenthesis_from : Position → Position → Words → Outcome Expression
  sizeof_parenthesis_from at l i =
      if begins_specifiers names i
      then type_name_from (λ x r i. Ok (t.sizeof_type at l x r, i)) i
      else (deeper.expression (Some l) least.unary i >>= λ e i. Ok (t.sizeof_expression at e, i))

  -- behind `sizeof` (C99 6.5.3.4)
  unfoldable pub sizeof_from : Position → Words → Outcome Expression
  sizeof_from at [] = Err []
  sizeof_from at (first ∷ i) =
      if is_punctuator p.LeftParenthesis first.kind
      then sizeof_parenthesis_from at first.position i
      else (deeper.expression None least.unary (first ∷ i) >>= λ e i. Ok (t.sizeof_expression at e, i))

  -- behind a punctuator that begins an operand
  unfoldable pub operand_by_punctuator : ℕ → Punctuator → Position → Words → Outcome Expression
  operand_by_punctuator m x at i =
      if nat_le 1 (operand_precedence x) && nat_le 1 levels
      then (deeper.expression None (operand_precedence x) i >>= λ e i. Ok (t.unary x at e, i))
      else (if is_same p.LeftParenthesis x && nat_le 1 levels
      then parenthesis_from m at i
      else Err (word_at (kinds.Punctuator x) at ∷ i))

  -- an operand by its first word
  abbrev pub operand_by : ℕ → TokenKind → Position → Words → Outcome Expression
  operand_by m (kinds.Identifier s) at i = ordinary_by names (kinds.Identifier s) at i >>= λ x i. Ok (t.identifier x, i)
  operand_by m (kinds.Integer s) at i = Ok (t.integer (record { spelling = s; position = at }), i)
  operand_by m (kinds.Character s) at i = Ok (t.character (record { spelling = s; position = at }), i)
  operand_by m (kinds.StringLiteral s) at i = strings_from i >>= λ z i.
      Ok (t.strings (record { spelling = s; position = at }) z, i)
  operand_by m (kinds.Punctuator x) at i = operand_by_punctuator m x at i
  operand_by m (kinds.Keyword k.Sizeof) at i = if nat_le 1 levels then sizeof_from at i else Err
      (word_at (kinds.Keyword k.Sizeof) at ∷ i)
  operand_by m w at i = Err (word_at w at ∷ i)

  -- an operand that is no operation on what stands before an operator (C99 6.5.1, 6.5.3, 6.5.4)
  unfoldable pub operand_from : ℕ → Words → Outcome Expression
  operand_from m [] = Err []
  operand_from m (first ∷ i) = operand_by m first.kind first.position i

  -- what stands between the parentheses of a call (C99 6.5.2.2)
  unfoldable pub arguments_from : Words → Outcome Arguments
  arguments_from i =
      if next_is_punctuator p.RightParenthesis i
      then Ok (t.no_arguments, i)
      else (deeper.expression None least.assignment i
      >>= λ e i. behind_commas (deeper.expression None least.assignment) (length i) i
      >>= λ z i. Ok (t.arguments e (more_arguments_of z), i))

  -- an operation on this first operand, behind its punctuator
  unfoldable pub operation_from : Expression → Punctuator → Position → Option Operation → Words → Outcome Expression
  operation_from l x at None i = Err i
  operation_from l x at (Some op.Binary) i = deeper.expression None (suc (binary_precedence x)) i
      >>= λ e i. Ok (t.binary l x at e, i)
  operation_from l x at (Some op.Assignment) i = deeper.expression None least.assignment i
      >>= λ e i. Ok (t.assignment l x at e, i)
  operation_from l x at (Some op.Conditional) i =
      deeper.expression None least.comma i >>= λ a i. expect p.Colon i
      >>= λ colon i. deeper.expression None least.conditional i >>= λ b i. Ok (t.conditional l at a colon b, i)
  operation_from l x at (Some op.Subscript) i = deeper.expression None least.comma i >>= λ e i. expect p.RightBracket i
      >>= λ r i. Ok (t.subscript l at e r, i)
  operation_from l x at (Some op.Call) i = arguments_from i >>= λ a i. expect p.RightParenthesis i
      >>= λ r i. Ok (t.call l at a r, i)
  operation_from l x at (Some op.Member) i = identifier_from i >>= λ y i. Ok (t.member l x at y, i)
  operation_from l x at (Some op.Postfix) i = Ok (t.postfix l x at, i)

  -- the same by the word that stands behind the operand
  abbrev pub operation_by : Expression → TokenKind → Position → Words → Outcome Expression
  operation_by l (kinds.Punctuator x) at i = operation_from l x at (operation x) i
  operation_by l w at i = Err i

  -- the word goes on with this operand as an expression of at least this precedence
  abbrev pub goes_on : ℕ → Expression → TokenKind → Bool
  goes_on m l w = nat_le m (binds w) && (nat_le (needs w) (precedence l) && nat_lt (expression_levels l) levels)

  -- the operations of at least this precedence on a first operand, one on another; the number bounds how many
  unfoldable pub operations_from : ℕ → ℕ → Expression → Words → Outcome Expression
  operations_from zero m l i = Ok (l, i)
  operations_from (suc n) m l [] = Ok (l, [])
  operations_from (suc n) m l (first ∷ i) =
      if goes_on m l first.kind
      then (operation_by l first.kind first.position i >>= λ e i. operations_from n m e i)
      else Ok (l, first ∷ i)

  -- the first operand, whose `(` may have been taken
  abbrev pub first_operand : Option Position → ℕ → Words → Outcome Expression
  first_operand None m i = operand_from m i
  first_operand (Some l) m i = if nat_le 1 levels then parenthesized_from l i else Err i

  -- an expression of at least this precedence with at most this number of levels
  unfoldable pub expression_at : Option Position → ℕ → Words → Outcome Expression
  expression_at opened m i = first_operand opened m i >>= λ l i. operations_from levels m l i
