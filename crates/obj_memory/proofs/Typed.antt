-- Words of a type: what operators give of them that convert nothing.
use Rattle.std.proofs.Common.{◌≡◌, ℕ, ◌/◌, ◌%◌, ◌^◌, ◌<◌, ◌≤◌, Bool, true, false, if◌then◌else◌, ◌==◌, Some}
use Rattle.std.proofs.Common.{None, refl, ap, ◌∙◌, sym, arith}
use Rattle.std.proofs.Math.Nat.{mod-eq_of_lt, div-le_self}
use Rattle.std.proofs.lemmas.Nat.{pow_pos, mod_below, and_mod, or_mod, xor_mod}
use Rattle.std.specs.Int.Bits.{and_lt, or_lt, xor_lt}
use Rattle.std.specs.Prelude.{IfSome, bit_and, bit_or, bit_xor}
use Rattle.words.specs.TwosComplement.{IsExtendable, low_bits, sign_extended}
use Rattle.words.specs.Operations.{shifted_right_signed}
use Rattle.words.proofs.Bits.{extended_and, extended_or, extended_xor}
use Rattle.words.proofs.Extended.{extended_low}
use Rattle.words.proofs.Shifts.{extended_shift, shift_fits}
use Rattle.obj_memory.specs.declared.int_type.IntType.{IntType}
use Rattle.obj_memory.specs.declared.int_type.IntType.TheVariants.{Char, SignedChar, UnsignedChar, Short}
use Rattle.obj_memory.specs.declared.int_type.IntType.TheVariants.{UnsignedShort, Int, UnsignedInt, Long}
use Rattle.obj_memory.specs.declared.int_type.IntType.TheVariants.{UnsignedLong, LongLong, UnsignedLongLong}
use Rattle.obj_memory.specs.declared.operator.BinaryOperator.{BinaryOperator}
use Rattle.obj_memory.specs.declared.operator.BinaryOperator.TheVariants.{Add, Subtract, Multiply, Divide, Remainder}
use Rattle.obj_memory.specs.declared.operator.BinaryOperator.TheVariants.{ShiftLeft, ShiftRight, BitAnd, BitXor}
use Rattle.obj_memory.specs.declared.operator.BinaryOperator.TheVariants.{BitOr, Less, Greater, LessOrEqual}
use Rattle.obj_memory.specs.declared.operator.BinaryOperator.TheVariants.{GreaterOrEqual, Equal, NotEqual}
use Rattle.obj_memory.specs.Integers.{fit, is_signed}
use Rattle.obj_memory.specs.Operators.{one_if, quotient, remainder, shift_right, binary_value}
use Rattle.obj_memory.proofs.Words.{fit_twice, fit_zero}

extendable : (k x : ℕ) → 0 < k → k ≤ 64 → IsExtendable k 64 (low_bits k x)
extendable k x some wide = record { some = some; wide = wide; fits = mod_below x (2 ^ k) (pow_pos k) }

-- what a word extended is converted to
extended_stays : (k z c : ℕ) → IsExtendable k 64 c → z ≡ sign_extended k 64 c → sign_extended k 64 (low_bits k z) ≡ z
extended_stays k z c w e =
    ap (λ n. sign_extended k 64 (low_bits k n)) e ∙ ap (sign_extended k 64) (extended_low k 64 c w) ∙ sym e

-- an operation bit by bit
record IsBitwise (f : ℕ → ℕ → ℕ) : Type 0 where
  extended : (k m x y : ℕ) → IsExtendable k m x → IsExtendable k m y
      → f (sign_extended k m x) (sign_extended k m y) ≡ sign_extended k m (f x y)
  lower : (a b k : ℕ) → f a b % 2 ^ k ≡ f (a % 2 ^ k) (b % 2 ^ k)
  fits : (k a b : ℕ) → a < 2 ^ k → b < 2 ^ k → f a b < 2 ^ k

signed_bitwise : (f : ℕ → ℕ → ℕ) → IsBitwise f → (k x y : ℕ) → 0 < k → k ≤ 64
    → sign_extended k 64 (low_bits k x) ≡ x → sign_extended k 64 (low_bits k y) ≡ y
    → sign_extended k 64 (low_bits k (f x y)) ≡ f x y
signed_bitwise f b k x y some wide g h =
    let v = extendable k x some wide in
    let w = extendable k y some wide in
    extended_stays k (f x y) (f (low_bits k x) (low_bits k y))
    (record { some = some; wide = wide; fits = b.fits k _ _ v.fits w.fits })
    (sym (ap (λ n. f n (sign_extended k 64 (low_bits k y))) g ∙ ap (f x) h) ∙ b.extended k 64 _ _ v w)

unsigned_bitwise : (f : ℕ → ℕ → ℕ) → IsBitwise f → (k x y : ℕ) → low_bits k x ≡ x → low_bits k y ≡ y
    → low_bits k (f x y) ≡ f x y
unsigned_bitwise f b k x y g h = b.lower x y k ∙ ap (λ n. f n (low_bits k y)) g ∙ ap (f x) h

bitwise_stays : (f : ℕ → ℕ → ℕ) → IsBitwise f → (t : IntType) (x y : ℕ) → fit t x ≡ x → fit t y ≡ y
    → fit t (f x y) ≡ f x y
unfolding fit
bitwise_stays f b Char x y g h = unsigned_bitwise f b 8 x y g h
bitwise_stays f b SignedChar x y g h = signed_bitwise f b 8 x y (omega arith) (omega arith) g h
bitwise_stays f b UnsignedChar x y g h = unsigned_bitwise f b 8 x y g h
bitwise_stays f b Short x y g h = signed_bitwise f b 16 x y (omega arith) (omega arith) g h
bitwise_stays f b UnsignedShort x y g h = unsigned_bitwise f b 16 x y g h
bitwise_stays f b Int x y g h = signed_bitwise f b 32 x y (omega arith) (omega arith) g h
bitwise_stays f b UnsignedInt x y g h = unsigned_bitwise f b 32 x y g h
bitwise_stays f b Long x y g h = unsigned_bitwise f b 64 x y g h
bitwise_stays f b UnsignedLong x y g h = unsigned_bitwise f b 64 x y g h
bitwise_stays f b LongLong x y g h = unsigned_bitwise f b 64 x y g h
bitwise_stays f b UnsignedLongLong x y g h = unsigned_bitwise f b 64 x y g h

-- shifts to the right
signed_shift : (k x by : ℕ) → 0 < k → k ≤ 64 → sign_extended k 64 (low_bits k x) ≡ x
    → sign_extended k 64 (low_bits k (shifted_right_signed 64 x by)) ≡ shifted_right_signed 64 x by
signed_shift k x by some wide g =
    let v = extendable k x some wide in
    extended_stays k (shifted_right_signed 64 x by) (shifted_right_signed k (low_bits k x) by)
    (record { some = some; wide = wide; fits = shift_fits k (low_bits k x) by v.fits })
    (sym (ap (λ n. shifted_right_signed 64 n by) g) ∙ extended_shift k 64 (low_bits k x) by v)

unsigned_shift : (k x by : ℕ) → low_bits k x ≡ x → low_bits k (x / 2 ^ by) ≡ x / 2 ^ by
unsigned_shift k x by g =
    let below = mod_below x (2 ^ k) (pow_pos k) in
    let fits : x / 2 ^ by < 2 ^ k = omega (arith, div-le_self x (2 ^ by), g) in
    mod-eq_of_lt fits

long_shift : (x by : ℕ) → low_bits 64 x ≡ x → low_bits 64 (shifted_right_signed 64 x by) ≡ shifted_right_signed 64 x by
long_shift x by g =
    let below = mod_below x (2 ^ 64) (pow_pos 64) in
    let fits : x < 2 ^ 64 = omega (arith, g) in
    mod-eq_of_lt (shift_fits 64 x by fits)

pub shift_stays : (t : IntType) (x by : ℕ) → fit t x ≡ x → fit t (shift_right (is_signed t) x by)
    ≡ shift_right (is_signed t) x by
unfolding fit is_signed
shift_stays Char x by g = unsigned_shift 8 x by g
shift_stays SignedChar x by g = signed_shift 8 x by (omega arith) (omega arith) g
shift_stays UnsignedChar x by g = unsigned_shift 8 x by g
shift_stays Short x by g = signed_shift 16 x by (omega arith) (omega arith) g
shift_stays UnsignedShort x by g = unsigned_shift 16 x by g
shift_stays Int x by g = signed_shift 32 x by (omega arith) (omega arith) g
shift_stays UnsignedInt x by g = unsigned_shift 32 x by g
shift_stays Long x by g = long_shift x by g
shift_stays UnsignedLong x by g = unsigned_shift 64 x by g
shift_stays LongLong x by g = long_shift x by g
shift_stays UnsignedLongLong x by g = unsigned_shift 64 x by g

-- truth
one_stays : (t : IntType) → fit t 1 ≡ 1
unfolding fit
one_stays Char = refl
one_stays SignedChar = refl
one_stays UnsignedChar = refl
one_stays Short = refl
one_stays UnsignedShort = refl
one_stays Int = refl
one_stays UnsignedInt = refl
one_stays Long = refl
one_stays UnsignedLong = refl
one_stays LongLong = refl
one_stays UnsignedLongLong = refl

pub truth_stays : (t : IntType) (b : Bool) → fit t (one_if b) ≡ one_if b
truth_stays t true = one_stays t
truth_stays t false = fit_zero t

pub binary_stays : (op : BinaryOperator) (t : IntType) (x y : ℕ) → fit t x ≡ x → fit t y ≡ y
    → IfSome (binary_value op t x y) (λ z. fit t z ≡ z)
unfolding binary_value
binary_stays Add t x y g h = fit_twice t _
binary_stays Subtract t x y g h = fit_twice t _
binary_stays Multiply t x y g h = fit_twice t _
binary_stays Divide t x y g h = elim (y == 0) as (λ b. IfSome
    (if b then None else Some (fit t (quotient (is_signed t) x y)))
    (λ z. fit t z ≡ z)) [ true ↦ tt | false ↦ fit_twice t _ ]
binary_stays Remainder t x y g h = elim (y == 0) as (λ b. IfSome
    (if b then None else Some (fit t (remainder (is_signed t) x y)))
    (λ z. fit t z ≡ z)) [ true ↦ tt | false ↦ fit_twice t _ ]
binary_stays ShiftLeft t x y g h = fit_twice t _
binary_stays ShiftRight t x y g h = shift_stays t x _ g
binary_stays BitAnd t x y g h = bitwise_stays bit_and (record {
  extended = extended_and;
  lower = and_mod;
  fits = and_lt;
}) t x y g h
binary_stays BitXor t x y g h = bitwise_stays bit_xor (record {
  extended = extended_xor;
  lower = xor_mod;
  fits = xor_lt;
}) t x y g h
binary_stays BitOr t x y g h = bitwise_stays bit_or (record {
  extended = extended_or;
  lower = or_mod;
  fits = or_lt;
}) t x y g h
binary_stays Less t x y g h = truth_stays t _
binary_stays Greater t x y g h = truth_stays t _
binary_stays LessOrEqual t x y g h = truth_stays t _
binary_stays GreaterOrEqual t x y g h = truth_stays t _
binary_stays Equal t x y g h = truth_stays t _
binary_stays NotEqual t x y g h = truth_stays t _
