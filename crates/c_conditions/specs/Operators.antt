-- The operators of conditions (C99 6.5.3.3, 6.5.5 to 6.5.14).
use Rattle.std.specs.Prelude.{Option, Some, None}
use Rattle.c_lexer.specs.declared.punctuator.Punctuator.{Punctuator}
use Rattle.c_lexer.specs.declared.punctuator.Punctuator.TheVariants as p
use Rattle.obj_memory.specs.declared.operator.UnaryOperator.{UnaryOperator}
use Rattle.obj_memory.specs.declared.operator.UnaryOperator.TheVariants as prefix
use Rattle.obj_memory.specs.declared.operator.BinaryOperator.TheVariants as op
use Rattle.c_conditions.specs.declared.operator.Operator.{Operator}
use Rattle.c_conditions.specs.declared.operator.Operator.TheVariants.{Arithmetic, Shift, Comparison, And, Or}

-- an operator between two operands
abbrev pub operator_of : Punctuator → Option Operator
operator_of p.Star = Some (Arithmetic op.Multiply)
operator_of p.Slash = Some (Arithmetic op.Divide)
operator_of p.Percent = Some (Arithmetic op.Remainder)
operator_of p.Plus = Some (Arithmetic op.Add)
operator_of p.Minus = Some (Arithmetic op.Subtract)
operator_of p.ShiftLeft = Some (Shift op.ShiftLeft)
operator_of p.ShiftRight = Some (Shift op.ShiftRight)
operator_of p.Less = Some (Comparison op.Less)
operator_of p.Greater = Some (Comparison op.Greater)
operator_of p.LessOrEqual = Some (Comparison op.LessOrEqual)
operator_of p.GreaterOrEqual = Some (Comparison op.GreaterOrEqual)
operator_of p.Equal = Some (Comparison op.Equal)
operator_of p.NotEqual = Some (Comparison op.NotEqual)
operator_of p.Ampersand = Some (Arithmetic op.BitAnd)
operator_of p.Caret = Some (Arithmetic op.BitXor)
operator_of p.Bar = Some (Arithmetic op.BitOr)
operator_of p.And = Some And
operator_of p.Or = Some Or
operator_of _ = None

-- an operator before an operand
abbrev pub prefix_of : Punctuator → Option UnaryOperator
prefix_of p.Plus = Some prefix.Plus
prefix_of p.Minus = Some prefix.Negate
prefix_of p.Tilde = Some prefix.Complement
prefix_of p.Exclamation = Some prefix.Not
prefix_of _ = None
