-- The operators on integers, on words (C99 6.5.3.3, 6.5.5 to 6.5.12): each is an operation on words of 64 bits, then
-- `fit` to the type. What C99 leaves open is settled so: numbers wrap in two's complement, a shift goes by the amount
-- modulo the width, a right shift keeps the sign, and the least number divided by -1 is itself, with remainder 0.
use Rattle.std.specs.Prelude.{ℕ, ◌/◌, ◌%◌, ◌^◌, Bool, true, false, not, ◌==◌, nat_lt, if◌then◌else◌, Option, Some}
use Rattle.std.specs.Prelude.{None, bit_and, bit_or, bit_xor}
use Rattle.obj_memory.specs.declared.int_type.IntType.{IntType}
use Rattle.obj_memory.specs.declared.operator.UnaryOperator.{UnaryOperator}
use Rattle.obj_memory.specs.declared.operator.UnaryOperator.TheVariants.{Plus, Negate, Complement, Not}
use Rattle.obj_memory.specs.declared.operator.BinaryOperator.{BinaryOperator}
use Rattle.obj_memory.specs.declared.operator.BinaryOperator.TheVariants.{Add, Subtract, Multiply, Divide, Remainder}
use Rattle.obj_memory.specs.declared.operator.BinaryOperator.TheVariants.{ShiftLeft, ShiftRight, BitAnd, BitXor}
use Rattle.obj_memory.specs.declared.operator.BinaryOperator.TheVariants.{BitOr, Less, Greater, LessOrEqual}
use Rattle.obj_memory.specs.declared.operator.BinaryOperator.TheVariants.{GreaterOrEqual, Equal, NotEqual}
use Rattle.obj_memory.specs.Integers.{fit, is_signed, size_of}
use Rattle.words.specs.TwosComplement as words
use Rattle.words.specs.Operations.{sum, difference, product, complement, shifted_left, shifted_right_signed}
use Rattle.words.specs.Operations.{is_less_signed, signed_quotient, signed_remainder}

-- the word of the negative
abbrev pub negated : ℕ → ℕ
negated x = words.negated 64 x

-- truth as an int (6.5.8 paragraph 6)
abbrev pub one_if : Bool → ℕ
one_if b = if b then 1 else 0

-- whether x is below y
abbrev pub is_less : (has_sign : Bool) → (x y : ℕ) → Bool
is_less true x y = is_less_signed 64 x y
is_less false x y = nat_lt x y

-- the quotient without its fraction, and its remainder (6.5.5 paragraph 6)
abbrev pub quotient : (has_sign : Bool) → (x y : ℕ) → ℕ
quotient true x y = signed_quotient 64 x y
quotient false x y = x / y

abbrev pub remainder : (has_sign : Bool) → (x y : ℕ) → ℕ
remainder true x y = signed_remainder 64 x y
remainder false x y = x % y

-- by how many bits a shift goes: modulo the width of the promoted left operand
unfoldable pub shift_amount : IntType → ℕ → ℕ
shift_amount t y = if size_of t == 8 then y % 64 else y % 32

-- a shift to the right
abbrev pub shift_right : (has_sign : Bool) → (x bits : ℕ) → ℕ
shift_right true x bits = shifted_right_signed 64 x bits
shift_right false x bits = x / 2 ^ bits

-- the value of a unary operator at an operand of a promoted type
unfoldable pub unary_value : UnaryOperator → IntType → ℕ → ℕ
unary_value Plus t x = fit t x
unary_value Negate t x = fit t (negated x)
unary_value Complement t x = fit t (complement 64 x)
unary_value Not t x = one_if (x == 0)

-- the value of a binary operator at operands of one type, of a shift at a left operand of this type, or none where the
-- divisor is zero
unfoldable pub binary_value : BinaryOperator → IntType → (x y : ℕ) → Option ℕ
binary_value Add t x y = Some (fit t (sum 64 x y))
binary_value Subtract t x y = Some (fit t (difference 64 x y))
binary_value Multiply t x y = Some (fit t (product 64 x y))
binary_value Divide t x y = if y == 0 then None else Some (fit t (quotient (is_signed t) x y))
binary_value Remainder t x y = if y == 0 then None else Some (fit t (remainder (is_signed t) x y))
binary_value ShiftLeft t x y = Some (fit t (shifted_left 64 x (shift_amount t y)))
binary_value ShiftRight t x y = Some (shift_right (is_signed t) x (shift_amount t y))
binary_value BitAnd t x y = Some (bit_and x y)
binary_value BitXor t x y = Some (bit_xor x y)
binary_value BitOr t x y = Some (bit_or x y)
binary_value Less t x y = Some (one_if (is_less (is_signed t) x y))
binary_value Greater t x y = Some (one_if (is_less (is_signed t) y x))
binary_value LessOrEqual t x y = Some (one_if (not (is_less (is_signed t) y x)))
binary_value GreaterOrEqual t x y = Some (one_if (not (is_less (is_signed t) x y)))
binary_value Equal t x y = Some (one_if (x == y))
binary_value NotEqual t x y = Some (one_if (not (x == y)))
