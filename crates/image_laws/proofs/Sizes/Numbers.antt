-- How many words numbers take.
use Rattle.std.proofs.Common.{◌≡◌, ℕ, ◌-◌, ◌^◌, ◌<◌, ◌≤◌, Bool, true, false, ⊎_elim, ap, arith}
use Rattle.std.specs.Prelude.{nat_lt, nat_le, if◌then◌else◌}
use Rattle.std.proofs.lemmas.Bool.{lt-ltb, le-leb, or_left, or_right}
use Rattle.words.specs.TwosComplement.{low_bits}
use Rattle.machine_laws.specs.Blocks.Blocks.{IsShort}
use Rattle.machine_laws.specs.Blocks.Immediates.{is_immediate}
use Rattle.image_laws.specs.CodeSizes.Sizes.{constant_words}

two_by : (a b : Bool) → b ≡ true → (if a then 1 else (if b then 2 else 11)) ≤ 2
two_by true b e = omega arith
two_by false b e = let h = ap {B = ℕ} (λ c. if c then 2 else 11) e in omega (arith, h)

-- a number of 32 bits with its sign
pub short_constant : (n : ℕ) → n < 2 ^ 31 - 2 ^ 11 → constant_words n ≤ 2
short_constant n lt =
    two_by (is_immediate n) _ (or_left (nat_lt n (2 ^ 31 - 2 ^ 11)) (nat_le (2 ^ 64 - 2 ^ 31) n)
    (lt-ltb n (2 ^ 31 - 2 ^ 11) lt))

pub few_constant : (n : ℕ) → n < 2 ^ 31 - 2 ^ 11 → constant_words (low_bits 64 n) ≤ 2
few_constant n lt = short_constant (low_bits 64 n) (omega (arith, lt))

pub low_constant : (n : ℕ) → 2 ^ 64 - 2 ^ 31 ≤ n → n < 2 ^ 64 → constant_words (low_bits 64 n) ≤ 2
low_constant n le lt =
    let high : 2 ^ 64 - 2 ^ 31 ≤ low_bits 64 n = omega (arith, le, lt) in
    two_by (is_immediate (low_bits 64 n)) _
    (or_right (nat_lt (low_bits 64 n) (2 ^ 31 - 2 ^ 11)) (nat_le (2 ^ 64 - 2 ^ 31) (low_bits 64 n))
    (le-leb (2 ^ 64 - 2 ^ 31) (low_bits 64 n) high))

-- and one that an instruction may have in itself
pub constant_short : (n : ℕ) → IsShort n → constant_words (low_bits 64 n) ≤ 2
constant_short n short = ⊎_elim (λ low. few_constant n low) (λ high. low_constant n high.0 high.1) short
