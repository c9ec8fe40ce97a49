-- Small facts on words, operations and first words.
use Rattle.std.proofs.Common.{◌≡◌, ℕ, ◌<◌, ◌≤◌, true, [], ◌∷◌, Ok, Option, Some, None, refl, arith}
use Rattle.std.proofs.lemmas.Bool.{le-leb}
use Rattle.std.proofs.lemmas.Slice.Eq.{bytes_eq-Decides}
use Rattle.c_lexer.specs.Spellings.{punctuator_spelling}
use Rattle.c_lexer.specs.declared.punctuator.Punctuator.{Punctuator}
use Rattle.c_lexer.specs.declared.punctuator.Punctuator.TheVariants as p
use Rattle.c_lexer.specs.declared.token.TokenKind.{TokenKind}
use Rattle.c_lexer.specs.declared.token.TokenKind.TheVariants as kinds
use Rattle.c_syntax.specs.declared.position.Position.{Position}
use Rattle.c_syntax.specs.Words.{Words, punctuator}
use Rattle.c_syntax.specs.Formed.{binary_precedence, operand_precedence, is_assignment, is_member_operator}
use Rattle.c_syntax.specs.Formed.{is_postfix_operator}
use Rattle.c_grammar.specs.declared.operation.Operation.{Operation}
use Rattle.c_grammar.specs.declared.operation.Operation.TheVariants as op
use Rattle.c_grammar.specs.Reader.{is_same, expect}
use Rattle.c_grammar.specs.ExpressionReader.{operation, operation_binds, binds}
use Rattle.c_grammar.proofs.Known.{word_binds, next_binds}

-- ---- punctuators

pub same : (a : Punctuator) → is_same a a ≡ true
unfolding is_same
same a = (bytes_eq-Decides (punctuator_spelling a) (punctuator_spelling a)).1 refl

pub expected : (a : Punctuator) (at : Position) (i : Words) → expect a (punctuator a at ∷ i) ≡ Ok (at, i)
unfolding expect
expected a at i = rw (same a)

pub precedence_below : (w : Punctuator) → binary_precedence w < 14
unfolding binary_precedence
precedence_below p.Comma = omega arith
precedence_below p.Or = omega arith
precedence_below p.And = omega arith
precedence_below p.Bar = omega arith
precedence_below p.Caret = omega arith
precedence_below p.Ampersand = omega arith
precedence_below p.Equal = omega arith
precedence_below p.NotEqual = omega arith
precedence_below p.Less = omega arith
precedence_below p.Greater = omega arith
precedence_below p.LessOrEqual = omega arith
precedence_below p.GreaterOrEqual = omega arith
precedence_below p.ShiftLeft = omega arith
precedence_below p.ShiftRight = omega arith
precedence_below p.Plus = omega arith
precedence_below p.Minus = omega arith
precedence_below p.Star = omega arith
precedence_below p.Slash = omega arith
precedence_below p.Percent = omega arith
precedence_below _ = omega arith

-- no binary operator binds as an assignment or a conditional expression does
pub precedence_apart : (w : Punctuator) → binary_precedence w ≤ 3 → binary_precedence w ≤ 1
unfolding binary_precedence
precedence_apart p.Comma h = omega arith
precedence_apart p.Or h = absurd (omega arith)
precedence_apart p.And h = absurd (omega arith)
precedence_apart p.Bar h = absurd (omega arith)
precedence_apart p.Caret h = absurd (omega arith)
precedence_apart p.Ampersand h = absurd (omega arith)
precedence_apart p.Equal h = absurd (omega arith)
precedence_apart p.NotEqual h = absurd (omega arith)
precedence_apart p.Less h = absurd (omega arith)
precedence_apart p.Greater h = absurd (omega arith)
precedence_apart p.LessOrEqual h = absurd (omega arith)
precedence_apart p.GreaterOrEqual h = absurd (omega arith)
precedence_apart p.ShiftLeft h = absurd (omega arith)
precedence_apart p.ShiftRight h = absurd (omega arith)
precedence_apart p.Plus h = absurd (omega arith)
precedence_apart p.Minus h = absurd (omega arith)
precedence_apart p.Star h = absurd (omega arith)
precedence_apart p.Slash h = absurd (omega arith)
precedence_apart p.Percent h = absurd (omega arith)
precedence_apart _ h = omega arith

-- what stands behind a unary operator is at least a cast expression, and at most a unary one
pub operand_least : (w : Punctuator) → 1 ≤ operand_precedence w → 14 ≤ operand_precedence w
unfolding operand_precedence
operand_least p.Increment h = omega arith
operand_least p.Decrement h = omega arith
operand_least p.Ampersand h = omega arith
operand_least p.Star h = omega arith
operand_least p.Plus h = omega arith
operand_least p.Minus h = omega arith
operand_least p.Tilde h = omega arith
operand_least p.Exclamation h = omega arith
operand_least _ h = absurd (omega arith)

pub operand_most : (w : Punctuator) → operand_precedence w < 16
unfolding operand_precedence
operand_most p.Increment = omega arith
operand_most p.Decrement = omega arith
operand_most p.Ampersand = omega arith
operand_most p.Star = omega arith
operand_most p.Plus = omega arith
operand_most p.Minus = omega arith
operand_most p.Tilde = omega arith
operand_most p.Exclamation = omega arith
operand_most _ = omega arith

-- ---- operations

pub binary_operation : (w : Punctuator) → 1 ≤ binary_precedence w → operation w ≡ Some op.Binary
unfolding operation
binary_operation w h = rw (le-leb 1 (binary_precedence w) h)

pub assignment_operation : (w : Punctuator) → is_assignment w ≡ true → operation w ≡ Some op.Assignment
unfolding operation binary_precedence is_assignment
assignment_operation p.Assign h = refl
assignment_operation p.MultiplyAssign h = refl
assignment_operation p.DivideAssign h = refl
assignment_operation p.RemainderAssign h = refl
assignment_operation p.AddAssign h = refl
assignment_operation p.SubtractAssign h = refl
assignment_operation p.ShiftLeftAssign h = refl
assignment_operation p.ShiftRightAssign h = refl
assignment_operation p.AndAssign h = refl
assignment_operation p.XorAssign h = refl
assignment_operation p.OrAssign h = refl
assignment_operation _ h = cc

pub member_operation : (w : Punctuator) → is_member_operator w ≡ true → operation w ≡ Some op.Member
unfolding operation binary_precedence is_assignment is_member_operator
member_operation p.Dot h = refl
member_operation p.Arrow h = refl
member_operation _ h = cc

pub postfix_operation : (w : Punctuator) → is_postfix_operator w ≡ true → operation w ≡ Some op.Postfix
unfolding operation binary_precedence is_assignment is_member_operator is_postfix_operator
postfix_operation p.Increment h = refl
postfix_operation p.Decrement h = refl
postfix_operation _ h = cc

pub question_operation : operation p.Question ≡ Some op.Conditional
unfolding operation binary_precedence is_assignment is_member_operator is_postfix_operator
question_operation = refl

pub bracket_operation : operation p.LeftBracket ≡ Some op.Subscript
unfolding operation binary_precedence is_assignment is_member_operator is_postfix_operator
bracket_operation = refl

pub parenthesis_operation : operation p.LeftParenthesis ≡ Some op.Call
unfolding operation binary_precedence is_assignment is_member_operator is_postfix_operator
parenthesis_operation = refl

-- ---- how tightly the next word binds

operation_apart : (x : Punctuator) (o : Option Operation) → operation_binds x o < 16 → operation_binds x o < 14
operation_apart x None h = omega arith
operation_apart x (Some op.Binary) h = precedence_below x
operation_apart x (Some op.Assignment) h = omega arith
operation_apart x (Some op.Conditional) h = omega arith
operation_apart x (Some op.Subscript) h = absurd (omega arith)
operation_apart x (Some op.Call) h = absurd (omega arith)
operation_apart x (Some op.Member) h = absurd (omega arith)
operation_apart x (Some op.Postfix) h = absurd (omega arith)

-- no word binds at 14 or 15
word_apart : (w : TokenKind) → word_binds w < 16 → word_binds w < 14
word_apart (kinds.Punctuator x) h = operation_apart x (operation x) h
word_apart (kinds.StringLiteral s) h = absurd (omega arith)
word_apart _ h = omega arith

pub next_apart : (i : Words) → next_binds i < 16 → next_binds i < 14
next_apart [] h = omega arith
next_apart (first ∷ i) h = word_apart first.kind h

-- a word that ends an expression ends its operations
pub binds_below : (w : TokenKind) (m : ℕ) → word_binds w < m → binds w < m
binds_below (kinds.StringLiteral s) m h = omega arith
binds_below (kinds.Punctuator x) m h = h
binds_below (kinds.Keyword x) m h = h
binds_below (kinds.Identifier s) m h = h
binds_below (kinds.Integer s) m h = h
binds_below (kinds.Character s) m h = h
binds_below (kinds.Wide s) m h = h

-- ---- punctuators that end an expression

pub parenthesis_binds : (at : Position) (i : Words) → next_binds (punctuator p.RightParenthesis at ∷ i) ≡ 0
unfolding operation binary_precedence is_assignment is_member_operator is_postfix_operator
parenthesis_binds at i = refl

pub bracket_binds : (at : Position) (i : Words) → next_binds (punctuator p.RightBracket at ∷ i) ≡ 0
unfolding operation binary_precedence is_assignment is_member_operator is_postfix_operator
bracket_binds at i = refl

pub brace_binds : (at : Position) (i : Words) → next_binds (punctuator p.RightBrace at ∷ i) ≡ 0
unfolding operation binary_precedence is_assignment is_member_operator is_postfix_operator
brace_binds at i = refl

pub colon_binds : (at : Position) (i : Words) → next_binds (punctuator p.Colon at ∷ i) ≡ 0
unfolding operation binary_precedence is_assignment is_member_operator is_postfix_operator
colon_binds at i = refl

pub semicolon_binds : (at : Position) (i : Words) → next_binds (punctuator p.Semicolon at ∷ i) ≡ 0
unfolding operation binary_precedence is_assignment is_member_operator is_postfix_operator
semicolon_binds at i = refl

pub comma_binds : (at : Position) (i : Words) → next_binds (punctuator p.Comma at ∷ i) ≡ 1
unfolding operation binary_precedence
comma_binds at i = refl
