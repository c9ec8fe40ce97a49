-- How many instructions' weight a constant takes at most, by its word.
use Rattle.std.proofs.Common.{◌≡◌, ℕ, ◌+◌, ◌-◌, ◌^◌, ◌<◌, ◌≤◌, Bool, true, false, if◌then◌else◌, length, refl, arith}
use Rattle.std.proofs.Common.{ap, lt-ltb, ltb-true}
use Rattle.std.specs.Prelude.{nat_lt}
use Rattle.addr_map.specs.Places.{MapSizes}
use Rattle.flat_code.specs.declared.function.FlatProgram.{FlatProgram}
use Rattle.metadata_plan.specs.Operators.{OperatorCode, AreOperators, Position, Computes, IsHere}

-- one that an instruction holds takes no other
abbrev pub constant_most : (word : ℕ) → ℕ
constant_most w = if nat_lt w (2 ^ 31 - 2 ^ 11) then 1 else if nat_lt w (2 ^ 33) then 3 else 5

pub most_constant : (w : ℕ) → constant_most w ≤ 5
most_constant w = by (nat_lt w (2 ^ 31 - 2 ^ 11)) (nat_lt w (2 ^ 33))
  where
    by : (a b : Bool) → (if a then 1 else if b then 3 else 5) ≤ 5
    by true b = omega arith
    by false true = omega arith
    by false false = omega arith

pub short_constant : (w : ℕ) → w < 2 ^ 31 - 2 ^ 11 → constant_most w ≡ 1
short_constant w low = ap (λ b. if b then 1 else if nat_lt w (2 ^ 33) then 3 else 5) (lt-ltb w (2 ^ 31 - 2 ^ 11) low)

-- sizes of objects, offsets and sums of them
pub few_constant : (w : ℕ) → w < 2 ^ 33 → constant_most w ≤ 3
few_constant w low = by (nat_lt w (2 ^ 31 - 2 ^ 11)) (nat_lt w (2 ^ 33)) (lt-ltb w (2 ^ 33) low)
  where
    by : (a b : Bool) → b ≡ true → (if a then 1 else if b then 3 else 5) ≤ 3
    by true b e = omega arith
    by false true e = omega arith
    by false false e = cc

-- whatever the word
pub any_constant : (o : OperatorCode) → AreOperators o → (map : MapSizes) (p : FlatProgram) (x : Position)
    (into word scratch : ℕ) → into < scratch → word < 2 ^ 64 → IsHere p x (o.constant into word scratch)
    → Computes map p x (x.place + length (o.constant into word scratch)) into word scratch (constant_most word)
any_constant o ops map p x into word scratch below fits here =
    by (nat_lt word (2 ^ 31 - 2 ^ 11)) (nat_lt word (2 ^ 33)) refl refl
  where
    by : (a b : Bool) → nat_lt word (2 ^ 31 - 2 ^ 11) ≡ a → nat_lt word (2 ^ 33) ≡ b
        → Computes map p x (x.place + length (o.constant into word scratch)) into word scratch
        (if a then 1 else if b then 3 else 5)
    by true b e f = ops.short_constant map p x into word scratch below (ltb-true word (2 ^ 31 - 2 ^ 11) e) here
    by false true e f = ops.few_constant map p x into word scratch below (ltb-true word (2 ^ 33) f) here
    by false false e f = ops.constant map p x into word scratch below fits here
