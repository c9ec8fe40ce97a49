-- Laws of conversions and operators on words.
use Rattle.std.proofs.Common.{◌≡◌, ℕ, ◌*◌, ◌%◌, ◌^◌, ◌<◌, Bool, true, false, ◌==◌, if◌then◌else◌, Some, None, refl}
use Rattle.std.proofs.Common.{arith}
use Rattle.std.specs.Prelude.{IfSome}
use Rattle.std.specs.Int.Bits.{and_lt, or_lt, xor_lt}
use Rattle.obj_memory.specs.declared.int_type.IntType.{IntType}
use Rattle.obj_memory.specs.declared.int_type.IntType.TheVariants.{Char, SignedChar, UnsignedChar, Short}
use Rattle.obj_memory.specs.declared.int_type.IntType.TheVariants.{UnsignedShort, Int, UnsignedInt, Long}
use Rattle.obj_memory.specs.declared.int_type.IntType.TheVariants.{UnsignedLong, LongLong, UnsignedLongLong}
use Rattle.obj_memory.specs.declared.operator.UnaryOperator.{UnaryOperator}
use Rattle.obj_memory.specs.declared.operator.UnaryOperator.TheVariants.{Plus, Negate, Complement, Not}
use Rattle.obj_memory.specs.declared.operator.BinaryOperator.{BinaryOperator}
use Rattle.obj_memory.specs.declared.operator.BinaryOperator.TheVariants.{Add, Subtract, Multiply, Divide, Remainder}
use Rattle.obj_memory.specs.declared.operator.BinaryOperator.TheVariants.{ShiftLeft, ShiftRight, BitAnd, BitXor}
use Rattle.obj_memory.specs.declared.operator.BinaryOperator.TheVariants.{BitOr, Less, Greater, LessOrEqual}
use Rattle.obj_memory.specs.declared.operator.BinaryOperator.TheVariants.{GreaterOrEqual, Equal, NotEqual}
use Rattle.obj_memory.specs.Integers.{fit, size_of, is_signed}
use Rattle.obj_memory.specs.Operators.{one_if, quotient, remainder, shift_right, shift_amount, unary_value}
use Rattle.obj_memory.specs.Operators.{binary_value}

pub fit_word : (t : IntType) (x : ℕ) → fit t (x % 2 ^ 64) ≡ fit t x
unfolding fit
fit_word Char x = grind arith
fit_word SignedChar x = grind arith
fit_word UnsignedChar x = grind arith
fit_word Short x = grind arith
fit_word UnsignedShort x = grind arith
fit_word Int x = grind arith
fit_word UnsignedInt x = grind arith
fit_word Long x = grind arith
fit_word UnsignedLong x = grind arith
fit_word LongLong x = grind arith
fit_word UnsignedLongLong x = grind arith

pub fit_below : (t : IntType) (x : ℕ) → fit t x < 2 ^ 64
unfolding fit
fit_below Char x = grind arith
fit_below SignedChar x = grind arith
fit_below UnsignedChar x = grind arith
fit_below Short x = grind arith
fit_below UnsignedShort x = grind arith
fit_below Int x = grind arith
fit_below UnsignedInt x = grind arith
fit_below Long x = grind arith
fit_below UnsignedLong x = grind arith
fit_below LongLong x = grind arith
fit_below UnsignedLongLong x = grind arith

pub fit_twice : (t : IntType) (x : ℕ) → fit t (fit t x) ≡ fit t x
unfolding fit
fit_twice Char x = grind arith
fit_twice SignedChar x = grind arith
fit_twice UnsignedChar x = grind arith
fit_twice Short x = grind arith
fit_twice UnsignedShort x = grind arith
fit_twice Int x = grind arith
fit_twice UnsignedInt x = grind arith
fit_twice Long x = grind arith
fit_twice UnsignedLong x = grind arith
fit_twice LongLong x = grind arith
fit_twice UnsignedLongLong x = grind arith

-- a conversion reads no more than the bytes of its type
pub fit_bytes : (t : IntType) (x : ℕ) → fit t (x % 2 ^ (8 * size_of t)) ≡ fit t x
unfolding fit size_of
fit_bytes Char x = grind arith
fit_bytes SignedChar x = grind arith
fit_bytes UnsignedChar x = grind arith
fit_bytes Short x = grind arith
fit_bytes UnsignedShort x = grind arith
fit_bytes Int x = grind arith
fit_bytes UnsignedInt x = grind arith
fit_bytes Long x = grind arith
fit_bytes UnsignedLong x = grind arith
fit_bytes LongLong x = grind arith
fit_bytes UnsignedLongLong x = grind arith

pub one_if_below : (b : Bool) → one_if b < 2 ^ 64
one_if_below true = omega arith
one_if_below false = omega arith

pub unary_below : (op : UnaryOperator) (t : IntType) (x : ℕ) → unary_value op t x < 2 ^ 64
unfolding unary_value
unary_below Plus t x = fit_below t x
unary_below Negate t x = fit_below t _
unary_below Complement t x = fit_below t _
unary_below Not t x = one_if_below _

pub shift_below : (b : Bool) (x k : ℕ) → x < 2 ^ 64 → shift_right b x k < 2 ^ 64
shift_below b x k h = grind arith

pub binary_below : (op : BinaryOperator) (t : IntType) (x y : ℕ) → x < 2 ^ 64 → y < 2 ^ 64
    → IfSome (binary_value op t x y) (λ z. z < 2 ^ 64)
unfolding binary_value
binary_below Add t x y p q = fit_below t _
binary_below Subtract t x y p q = fit_below t _
binary_below Multiply t x y p q = fit_below t _
binary_below Divide t x y p q = elim (y == 0) as (λ b. IfSome
    (if b then None else Some (fit t (quotient (is_signed t) x y)))
    (λ z. z < 2 ^ 64)) [ true ↦ tt | false ↦ fit_below t _ ]
binary_below Remainder t x y p q = elim (y == 0) as (λ b. IfSome
    (if b then None else Some (fit t (remainder (is_signed t) x y)))
    (λ z. z < 2 ^ 64)) [ true ↦ tt | false ↦ fit_below t _ ]
binary_below ShiftLeft t x y p q = fit_below t _
binary_below ShiftRight t x y p q = shift_below (is_signed t) x (shift_amount t y) p
binary_below BitAnd t x y p q = and_lt 64 x y p q
binary_below BitXor t x y p q = xor_lt 64 x y p q
binary_below BitOr t x y p q = or_lt 64 x y p q
binary_below Less t x y p q = one_if_below _
binary_below Greater t x y p q = one_if_below _
binary_below LessOrEqual t x y p q = one_if_below _
binary_below GreaterOrEqual t x y p q = one_if_below _
binary_below Equal t x y p q = one_if_below _
binary_below NotEqual t x y p q = one_if_below _

pub fit_zero : (t : IntType) → fit t 0 ≡ 0
unfolding fit
fit_zero Char = refl
fit_zero SignedChar = refl
fit_zero UnsignedChar = refl
fit_zero Short = refl
fit_zero UnsignedShort = refl
fit_zero Int = refl
fit_zero UnsignedInt = refl
fit_zero Long = refl
fit_zero UnsignedLong = refl
fit_zero LongLong = refl
fit_zero UnsignedLongLong = refl
