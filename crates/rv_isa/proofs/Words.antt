-- What instructions compute fits a register.
use Rattle.std.proofs.Common.{◌≡◌, ℕ, ◌+◌, ◌-◌, ◌*◌, ◌/◌, ◌%◌, ◌^◌, ◌<◌, ◌≤◌, Bool, true, false, ◌==◌, if◌then◌else◌}
use Rattle.std.proofs.Common.{arith, refl, sym, subst}
use Rattle.std.proofs.Math.Nat.{div-le_self, mod-lt, mod-le}
use Rattle.std.proofs.lemmas.Bool.{leb-true}
use Rattle.std.proofs.lemmas.Nat.{or_lt, xor_lt}
use Rattle.std.specs.Int.Bits.{and_lt}
use Rattle.words.specs.TwosComplement.{is_negative, magnitude, negated}
use Rattle.words.specs.Operations.{shifted_right_signed, signed_quotient, signed_remainder}
use Rattle.rv_isa.specs.declared.instruction.RegOp.{RegOp}
use Rattle.rv_isa.specs.declared.instruction.RegOp.TheVariants.{Add, Sub, Sll, Slt, Sltu, Xor, Srl, Sra, Or, And, Mul}
use Rattle.rv_isa.specs.declared.instruction.RegOp.TheVariants.{Mulh, Mulhsu, Mulhu, Div, Divu, Rem, Remu}
use Rattle.rv_isa.specs.declared.instruction.RegOp32.{RegOp32}
use Rattle.rv_isa.specs.declared.instruction.RegOp32.TheVariants.{Addw, Subw, Sllw, Srlw, Sraw, Mulw, Divw, Divuw}
use Rattle.rv_isa.specs.declared.instruction.RegOp32.TheVariants.{Remw, Remuw}
use Rattle.rv_isa.specs.declared.instruction.LoadOp.{LoadOp}
use Rattle.rv_isa.specs.declared.instruction.LoadOp.TheVariants.{Lb, Lh, Lw, Ld, Lbu, Lhu, Lwu}
use Rattle.rv_isa.specs.Word.{sext}
use Rattle.rv_isa.specs.Results.{high_half, quotient_or_ones, remainder_or_dividend, reg_result, reg32_result}
use Rattle.rv_isa.specs.Results.{load_bytes, extended}

choice_fits : (b : Bool) (x y n : ℕ) → x < n → y < n → (if b then x else y) < n
choice_fits true x y n h k = h
choice_fits false x y n h k = k

quotient_below : (a d n : ℕ) → a < n → a / d < n
quotient_below a d n h = omega (arith, div-le_self a d)

remainder_below : (a d n : ℕ) → a < n → a % d < n
remainder_below a d n h = omega (arith, mod-le a d)

high_fits : (n : ℕ) → high_half n < 2 ^ 64
high_fits n = omega arith

-- the magnitude of a word is one
magnitude_fits : (k x : ℕ) → 0 < 2 ^ (k - 1) → x < 2 ^ k → magnitude k x < 2 ^ k
magnitude_fits k x some fits = by (is_negative k x) refl
  where
    by : (b : Bool) → is_negative k x ≡ b → magnitude k x < 2 ^ k
    by true e =
        let large : 2 ^ (k - 1) ≤ x = leb-true (2 ^ (k - 1)) x e in
        subst (λ b. (if b then 2 ^ k - x else x) < 2 ^ k) (sym e) (omega arith)
    by false e = subst (λ b. (if b then 2 ^ k - x else x) < 2 ^ k) (sym e) fits

negated_fits : (k x : ℕ) → 0 < 2 ^ k → negated k x < 2 ^ k
negated_fits k x some = mod-lt (2 ^ k - x) some

signed_quotient_fits : (k x y : ℕ) → 0 < 2 ^ (k - 1) → 0 < 2 ^ k → x < 2 ^ k → signed_quotient k x y < 2 ^ k
signed_quotient_fits k x y some whole fits =
    let q = quotient_below (magnitude k x) (magnitude k y) (2 ^ k) (magnitude_fits k x some fits) in
    let n = negated_fits k (magnitude k x / magnitude k y) whole in
    choice_fits (is_negative k x) _ _ (2 ^ k)
    (choice_fits (is_negative k y) _ _ (2 ^ k) q n) (choice_fits (is_negative k y) _ _ (2 ^ k) n q)

signed_remainder_fits : (k x y : ℕ) → 0 < 2 ^ (k - 1) → 0 < 2 ^ k → x < 2 ^ k → signed_remainder k x y < 2 ^ k
signed_remainder_fits k x y some whole fits =
    choice_fits (is_negative k x) _ _ (2 ^ k) (negated_fits k _ whole)
    (remainder_below (magnitude k x) (magnitude k y) (2 ^ k) (magnitude_fits k x some fits))

shifted_right_fits : (k x by : ℕ) → 0 < 2 ^ k → x < 2 ^ k → shifted_right_signed k x by < 2 ^ k
shifted_right_fits k x by some fits =
    choice_fits (is_negative k x) _ _ (2 ^ k) (omega arith) (quotient_below x (2 ^ by) (2 ^ k) fits)

bit_fits : (b : Bool) → (if b then 1 else 0) < 2 ^ 64
bit_fits b = choice_fits b 1 0 (2 ^ 64) (omega arith) (omega arith)

-- what is extended to 64 bits fits them
sext_fits : (k n : ℕ) → 2 ^ k ≤ 2 ^ 64 → n < 2 ^ k → sext k n < 2 ^ 64
sext_fits k n narrow fits = choice_fits (is_negative k n) _ _ (2 ^ 64) (omega arith) (omega arith)

-- what a division by zero gives fits as well
quotient_fits : (k b q : ℕ) → 0 < 2 ^ k → q < 2 ^ k → quotient_or_ones k b q < 2 ^ k
quotient_fits k b q some fits = choice_fits (b == 0) (2 ^ k - 1) q (2 ^ k) (omega arith) fits

remainder_fits : (a b r n : ℕ) → a < n → r < n → remainder_or_dividend a b r < n
remainder_fits a b r n h fits = choice_fits (b == 0) a r n h fits

pub reg_fits : (op : RegOp) (a b : ℕ) → a < 2 ^ 64 → b < 2 ^ 64 → reg_result op a b < 2 ^ 64
unfolding reg_result
reg_fits Add a b h k = omega arith
reg_fits Sub a b h k = omega arith
reg_fits Sll a b h k = mod-lt (a * 2 ^ (b % 64)) (omega arith)
reg_fits Slt a b h k = bit_fits _
reg_fits Sltu a b h k = bit_fits _
reg_fits Xor a b h k = xor_lt 64 a b h k
reg_fits Srl a b h k = quotient_below a (2 ^ (b % 64)) (2 ^ 64) h
reg_fits Sra a b h k = shifted_right_fits 64 a (b % 64) (omega arith) h
reg_fits Or a b h k = or_lt 64 a b h k
reg_fits And a b h k = and_lt 64 a b h k
reg_fits Mul a b h k = mod-lt (a * b) (omega arith)
reg_fits Mulh a b h k = high_fits _
reg_fits Mulhsu a b h k = high_fits _
reg_fits Mulhu a b h k = high_fits _
reg_fits Div a b h k = quotient_fits 64 b _ (omega arith) (signed_quotient_fits 64 a b (omega arith) (omega arith) h)
reg_fits Divu a b h k = quotient_fits 64 b _ (omega arith) (quotient_below a b (2 ^ 64) h)
reg_fits Rem a b h k = remainder_fits a b _ (2 ^ 64) h (signed_remainder_fits 64 a b (omega arith) (omega arith) h)
reg_fits Remu a b h k = remainder_fits a b _ (2 ^ 64) h (remainder_below a b (2 ^ 64) h)

pub reg32_fits : (op : RegOp32) (a b : ℕ) → a < 2 ^ 32 → b < 2 ^ 32 → reg32_result op a b < 2 ^ 64
unfolding reg32_result
reg32_fits Addw a b h k = sext_fits 32 ((a + b) % 2 ^ 32) (omega arith) (omega arith)
reg32_fits Subw a b h k = sext_fits 32 ((a + (2 ^ 32 - b)) % 2 ^ 32) (omega arith) (omega arith)
reg32_fits Sllw a b h k = sext_fits 32 _ (omega arith) (mod-lt (a * 2 ^ (b % 32)) (omega arith))
reg32_fits Srlw a b h k = sext_fits 32 _ (omega arith) (quotient_below a (2 ^ (b % 32)) (2 ^ 32) h)
reg32_fits Sraw a b h k = sext_fits 32 _ (omega arith) (shifted_right_fits 32 a (b % 32) (omega arith) h)
reg32_fits Mulw a b h k = sext_fits 32 _ (omega arith) (mod-lt (a * b) (omega arith))
reg32_fits Divw a b h k = sext_fits 32 _ (omega arith)
    (quotient_fits 32 b _ (omega arith) (signed_quotient_fits 32 a b (omega arith) (omega arith) h))
reg32_fits Divuw a b h k = sext_fits 32 _ (omega arith)
    (quotient_fits 32 b _ (omega arith) (quotient_below a b (2 ^ 32) h))
reg32_fits Remw a b h k = sext_fits 32 _ (omega arith)
    (remainder_fits a b _ (2 ^ 32) h (signed_remainder_fits 32 a b (omega arith) (omega arith) h))
reg32_fits Remuw a b h k = sext_fits 32 _ (omega arith)
    (remainder_fits a b _ (2 ^ 32) h (remainder_below a b (2 ^ 32) h))

pub load_fits : (op : LoadOp) (n : ℕ) → n < 256 ^ load_bytes op → extended op n < 2 ^ 64
unfolding extended
load_fits Lb n h = sext_fits 8 n (omega arith) h
load_fits Lh n h = sext_fits 16 n (omega arith) h
load_fits Lw n h = sext_fits 32 n (omega arith) h
load_fits Ld n h = h
load_fits Lbu n h = omega arith
load_fits Lhu n h = omega arith
load_fits Lwu n h = omega arith
