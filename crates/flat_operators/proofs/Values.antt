-- What the machine's operators give is what those of C give, on words.
use Rattle.std.proofs.Common.{◌≡◌, ℕ, ◌-◌, ◌/◌, ◌%◌, ◌^◌, ◌<◌, ◌≤◌, Bool, true, false, not, ◌==◌, refl, sym}
use Rattle.std.proofs.Common.{ap, ◌∙◌, arith, if◌then◌else◌}
use Rattle.std.specs.Prelude.{nat_lt, bit_and, bit_or, bit_xor}
use Rattle.std.proofs.lemmas.Bool.{true≢false, false≢true, cond-true, cond-false, eqb-true, eqb-false, lt-ltb, le-ltb}
use Rattle.std.proofs.lemmas.Nat.{and_mask}
use Rattle.rv_isa.specs.declared.instruction.RegOp.TheVariants as op
use Rattle.rv_isa.specs.declared.instruction.RegOp32.TheVariants.{Addw, Subw, Mulw, Sllw}
use Rattle.rv_isa.specs.Results.{low_word, reg_result, reg32_result, bit_of}
use Rattle.rv_isa.proofs.Words.{reg32_fits}
use Rattle.words.specs.TwosComplement.{low_bits, sign_extended}
use Rattle.words.specs.Operations.{sum, difference, product, complement, shifted_left}
use Rattle.words.proofs.Extended.{extended_low}
use Rattle.words.proofs.Narrowing.{low_of_low, low_sum, low_difference, low_product, low_shift}
use Rattle.words.proofs.Shifts.{zero_extended_by_shifts, sign_extended_by_shifts}
use Rattle.obj_memory.specs.declared.int_type.IntType.{IntType}
use Rattle.obj_memory.specs.declared.int_type.IntType.TheVariants.{Char, SignedChar, UnsignedChar, Short}
use Rattle.obj_memory.specs.declared.int_type.IntType.TheVariants.{UnsignedShort, Int, UnsignedInt, Long}
use Rattle.obj_memory.specs.declared.int_type.IntType.TheVariants.{UnsignedLong, LongLong, UnsignedLongLong}
use Rattle.obj_memory.specs.Integers.{fit, is_signed, size_of}
use Rattle.obj_memory.specs.Operators.{one_if, is_less, quotient, remainder, shift_right, shift_amount}
use Rattle.obj_memory.specs.Operators.{negated}
use Rattle.flat_operators.specs.Operators.{less_op}

-- ---- conversions

-- two shifts by 64 - k extend k bits
pub zeros_by_shifts : (k v : ℕ) → k ≤ 64 → 0 < k
    → reg_result op.Srl (reg_result op.Sll v (64 - k)) (64 - k) ≡ low_bits k v
unfolding reg_result
zeros_by_shifts k v le some =
    let e : (64 - k) % 64 ≡ 64 - k = omega arith in
    ap (λ b. shifted_left 64 v b / 2 ^ b) e ∙ zero_extended_by_shifts k 64 v le

pub signs_by_shifts : (k v : ℕ) → k ≤ 64 → 0 < k
    → reg_result op.Sra (reg_result op.Sll v (64 - k)) (64 - k) ≡ sign_extended k 64 (low_bits k v)
unfolding reg_result
signs_by_shifts k v le some =
    let e : (64 - k) % 64 ≡ 64 - k = omega arith in
    rw e (sign_extended_by_shifts k 64 v some le)

-- an addition of 0 to the low 32 bits
pub int_by_word : (v : ℕ) → reg32_result Addw (low_word v) (low_word 0) ≡ fit Int v
unfolding reg32_result fit
int_by_word v =
    let e : sum 32 (low_word v) (low_word 0) ≡ low_bits 32 v = omega arith in
    ap (sign_extended 32 64) e

-- ---- operators that wrap

pub int_sum : (x y : ℕ) → reg32_result Addw (low_word x) (low_word y) ≡ fit Int (sum 64 x y)
unfolding reg32_result fit
int_sum x y = ap (sign_extended 32 64) (sym (low_sum 32 64 x y (omega arith)))

pub int_difference : (x y : ℕ) → y < 2 ^ 64 → reg32_result Subw (low_word x) (low_word y) ≡ fit Int (difference 64 x y)
unfolding reg32_result fit
int_difference x y fits = ap (sign_extended 32 64) (sym (low_difference 32 64 x y (omega arith) fits))

pub int_product : (x y : ℕ) → reg32_result Mulw (low_word x) (low_word y) ≡ fit Int (product 64 x y)
unfolding reg32_result fit
int_product x y = ap (sign_extended 32 64) (sym (low_product 32 64 x y (omega arith)))

-- ---- shifts

-- what fits a type of at most 32 bits depends on the low 32
pub fits_by_low_word : (t : IntType) (u v : ℕ) → (size_of t == 8) ≡ false → low_bits 32 u ≡ low_bits 32 v
    → fit t u ≡ fit t v
unfolding fit size_of
fits_by_low_word t u v small e = by t small
  where
    low : (k : ℕ) → k ≤ 32 → low_bits k u ≡ low_bits k v
    low k le = sym (low_of_low k 32 u le) ∙ ap (low_bits k) e ∙ low_of_low k 32 v le

    by : (t : IntType) → (size_of t == 8) ≡ false → fit t u ≡ fit t v
    by Char h = low 8 (omega arith)
    by SignedChar h = ap (sign_extended 8 64) (low 8 (omega arith))
    by UnsignedChar h = low 8 (omega arith)
    by Short h = ap (sign_extended 16 64) (low 16 (omega arith))
    by UnsignedShort h = low 16 (omega arith)
    by Int h = ap (sign_extended 32 64) e
    by UnsignedInt h = e
    by Long h = absurd (true≢false h)
    by UnsignedLong h = absurd (true≢false h)
    by LongLong h = absurd (true≢false h)
    by UnsignedLongLong h = absurd (true≢false h)

pub amount_of_whole : (t : IntType) (y : ℕ) → (size_of t == 8) ≡ true → shift_amount t y ≡ y % 64
unfolding shift_amount
amount_of_whole t y e = cond-true (size_of t == 8) (y % 64) (y % 32) e

pub amount_of_word : (t : IntType) (y : ℕ) → (size_of t == 8) ≡ false → shift_amount t y ≡ y % 32
unfolding shift_amount
amount_of_word t y e = cond-false (size_of t == 8) (y % 64) (y % 32) e

-- a shift of 32 bits and one of 64 bits have the same low 32
pub left_by_word : (t : IntType) (x y : ℕ) → (size_of t == 8) ≡ false
    → fit t (reg32_result Sllw (low_word x) (low_word y)) ≡ fit t (shifted_left 64 x (shift_amount t y))
unfolding reg32_result
left_by_word t x y small =
    let l = shifted_left 32 (low_word x) (low_word y % 32) in
    let a : low_word y % 32 ≡ shift_amount t y = omega arith ∙ sym (amount_of_word t y small) in
    let low : l < 2 ^ 32 = omega arith in
    let is : low_bits 32 (sign_extended 32 64 l) ≡ l =
    extended_low 32 64 l (record { some = omega arith; wide = omega arith; fits = low }) in
    let same : l ≡ low_bits 32 (shifted_left 64 x (shift_amount t y)) =
    ap (shifted_left 32 (low_word x)) a ∙ sym (low_shift 32 64 x (shift_amount t y) (omega arith)) in
    fits_by_low_word t (sign_extended 32 64 l) (shifted_left 64 x (shift_amount t y)) small (is ∙ same)

pub right_by : (t : IntType) (x y by : ℕ) → by % 64 ≡ shift_amount t y
    → reg_result (if is_signed t then op.Sra else op.Srl) x by ≡ shift_right (is_signed t) x (shift_amount t y)
unfolding reg_result
right_by t x y by e = cases (is_signed t)
  where
    cases : (b : Bool) → reg_result (if b then op.Sra else op.Srl) x by ≡ shift_right b x (shift_amount t y)
    cases true = ap (shift_right true x) e
    cases false = ap (shift_right false x) e

pub masked : (y : ℕ) → reg_result op.And y 31 ≡ y % 32
unfolding reg_result
masked y = and_mask y 5

-- ---- division

pub quotient_by : (b : Bool) (x y : ℕ) → (y == 0) ≡ false
    → reg_result (if b then op.Div else op.Divu) x y ≡ quotient b x y
unfolding reg_result
quotient_by true x y e = cond-false (y == 0) _ _ e
quotient_by false x y e = cond-false (y == 0) _ _ e

pub remainder_by : (b : Bool) (x y : ℕ) → (y == 0) ≡ false
    → reg_result (if b then op.Rem else op.Remu) x y ≡ remainder b x y
unfolding reg_result
remainder_by true x y e = cond-false (y == 0) _ _ e
remainder_by false x y e = cond-false (y == 0) _ _ e

-- ---- comparisons

pub less_by : (t : IntType) (x y : ℕ) → reg_result (less_op t) x y ≡ one_if (is_less (is_signed t) x y)
unfolding reg_result
less_by t x y = cases (is_signed t)
  where
    cases : (b : Bool) → reg_result (if b then op.Slt else op.Sltu) x y ≡ one_if (is_less b x y)
    cases true = refl
    cases false = refl

pub other_by : (b : Bool) → reg_result op.Xor (one_if b) 1 ≡ one_if (not b)
unfolding reg_result
other_by true = refl
other_by false = refl

-- a word is 0 where it is below 1
pub zero_by : (x : ℕ) → reg_result op.Sltu x 1 ≡ one_if (x == 0)
unfolding reg_result
zero_by x = cases (x == 0) refl
  where
    cases : (b : Bool) → (x == 0) ≡ b → bit_of (nat_lt x 1) ≡ one_if b
    cases true e = ap bit_of (lt-ltb x 1 (let z = eqb-true x 0 e in omega arith))
    cases false e = ap bit_of (le-ltb x 1 (let z = eqb-false x 0 e in omega arith))

pub equal_by : (x y : ℕ) → x < 2 ^ 64 → y < 2 ^ 64
    → reg_result op.Sltu (reg_result op.Sub x y) 1 ≡ one_if (x == y)
unfolding reg_result
equal_by x y wx wy = cases (x == y) refl
  where
    cases : (b : Bool) → (x == y) ≡ b → bit_of (nat_lt (difference 64 x y) 1) ≡ one_if b
    cases true e = ap bit_of (lt-ltb (difference 64 x y) 1 (let z = eqb-true x y e in omega arith))
    cases false e = ap bit_of (le-ltb (difference 64 x y) 1 (let z = eqb-false x y e in omega arith))

-- ---- shifts to the left

-- one of 64 bits needs no conversion
pub whole_shift : (t : IntType) (x y : ℕ) → (size_of t == 8) ≡ true
    → reg_result op.Sll x y ≡ fit t (shifted_left 64 x (shift_amount t y))
unfolding reg_result fit size_of
whole_shift t x y e = ap (shifted_left 64 x) (sym (amount_of_whole t y e)) ∙ by t e
  where
    z : ℕ
    z = shifted_left 64 x (shift_amount t y)

    same : z ≡ low_bits 64 z
    same = omega arith

    by : (t : IntType) → (size_of t == 8) ≡ true → z ≡ fit t z
    by Char h = absurd (false≢true h)
    by SignedChar h = absurd (false≢true h)
    by UnsignedChar h = absurd (false≢true h)
    by Short h = absurd (false≢true h)
    by UnsignedShort h = absurd (false≢true h)
    by Int h = absurd (false≢true h)
    by UnsignedInt h = absurd (false≢true h)
    by Long h = same
    by UnsignedLong h = same
    by LongLong h = same
    by UnsignedLongLong h = same

pub word_shift_fits : (x y : ℕ) → reg32_result Sllw (low_word x) (low_word y) < 2 ^ 64
word_shift_fits x y = reg32_fits Sllw (low_word x) (low_word y) (omega arith) (omega arith)

-- ---- operators on one value

pub negated_by : (x : ℕ) → reg_result op.Sub 0 x ≡ negated x
unfolding reg_result
negated_by x = omega arith

pub complement_by : (x : ℕ) → x < 2 ^ 64 → reg_result op.Sub (2 ^ 64 - 1) x ≡ complement 64 x
unfolding reg_result
complement_by x fits = omega arith

-- ---- operators that are the machine's own

pub sum_by : (x y : ℕ) → reg_result op.Add x y ≡ sum 64 x y
unfolding reg_result
sum_by x y = refl

pub difference_by : (x y : ℕ) → reg_result op.Sub x y ≡ difference 64 x y
unfolding reg_result
difference_by x y = refl

pub product_by : (x y : ℕ) → reg_result op.Mul x y ≡ product 64 x y
unfolding reg_result
product_by x y = refl

pub and_by : (x y : ℕ) → reg_result op.And x y ≡ bit_and x y
unfolding reg_result
and_by x y = refl

pub or_by : (x y : ℕ) → reg_result op.Or x y ≡ bit_or x y
unfolding reg_result
or_by x y = refl

pub xor_by : (x y : ℕ) → reg_result op.Xor x y ≡ bit_xor x y
unfolding reg_result
xor_by x y = refl
