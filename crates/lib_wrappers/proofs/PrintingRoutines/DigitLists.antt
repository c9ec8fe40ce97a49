-- The digits of a number from the highest on.
use Rattle.std.proofs.Common.{◌≡◌, ◌≢◌, ℕ, zero, suc, ◌+◌, ◌*◌, ◌/◌, ◌%◌, ◌^◌, ◌<◌, ◌≤◌, List, [], ◌∷◌, ◌++◌}
use Rattle.std.proofs.Common.{false, length, refl, sym, ap, ◌∙◌, subst, arith, ⊎_elim}
use Rattle.std.specs.Fmt.{digit_glyph, digits_onto, digits}
use Rattle.std.proofs.lemmas.Bool.{cases_lt, eq-eqb, ne_eqb, cond-true, cond-false}
use Rattle.std.proofs.Math.Nat.{pow-zero, pow-suc, mul_comm, suc-mul, div-div-eq-div-mul, div-eq_of_lt}
use Rattle.std.proofs.Math.Nat.{div-lt_iff_lt-mul, le-div_iff_mul-le}

-- those from the one that stands for a power of the base down to the last
abbrev pub digits_from : (base power value : ℕ) → List ℕ
digits_from base zero v = digit_glyph false (v % base) ∷ []
digits_from base (suc j) v = digit_glyph false (v / base ^ suc j % base) ∷ digits_from base j v

pub over_power : (base j v : ℕ) → v / base / base ^ j ≡ v / base ^ suc j
over_power base j v =
    div-div-eq-div-mul v base (base ^ j) ∙ ap (λ d. v / d) (mul_comm base (base ^ j) ∙ sym (pow-suc base j))

pub no_power : (base v : ℕ) → v / base ^ 0 ≡ v
no_power base v = ap (λ d. v / d) (pow-zero base) ∙ omega arith

pub one_power : (base v : ℕ) → v / base ^ 1 ≡ v / base
one_power base v = sym (over_power base 0 v) ∙ no_power base (v / base)

last_digit : (base j v : ℕ) → digits_from base (suc j) v
    ≡ digits_from base j (v / base) ++ digit_glyph false (v % base) ∷ []
last_digit base zero v = ap (λ d. digit_glyph false (d % base) ∷ digit_glyph false (v % base) ∷ []) (one_power base v)
last_digit base (suc j) v =
    ap (λ d. digit_glyph false (d % base) ∷ digits_from base (suc j) v) (sym (over_power base (suc j) v))
    ∙ ap (λ ds. digit_glyph false (v / base / base ^ suc j % base) ∷ ds) (last_digit base j v)

append_one : (ds : List ℕ) (d : ℕ) (acc : List ℕ) → (ds ++ d ∷ []) ++ acc ≡ ds ++ (d ∷ acc)
append_one [] d acc = refl
append_one (x ∷ ds) d acc = ap (λ z. x ∷ z) (append_one ds d acc)

-- the highest digit is not 0, unless it is the last
abbrev pub IsHighest : (base power value : ℕ) → Type 0
IsHighest base zero v = v < base
IsHighest base (suc j) v = (v / base ^ suc j < base) × (1 ≤ v / base ^ suc j)

lower : (base j v : ℕ) → IsHighest base (suc j) v → IsHighest base j (v / base)
lower base zero v h = subst (λ d. d < base) (one_power base v) h.0
lower base (suc j) v h =
    subst (λ d. (d < base) × (1 ≤ d)) (sym (over_power base (suc j) v)) h

some_left : (base j v : ℕ) → 2 ≤ base → 1 ≤ v / base ^ suc j → v / base ≢ 0
some_left base j v b h e =
    let z : v / base ^ suc j ≡ 0 / base ^ j = sym (over_power base j v) ∙ ap (λ d. d / base ^ j) e in
    let n : 0 / base ^ j ≡ 0 = nothing (base ^ j) in
    omega arith
  where
    nothing : (d : ℕ) → 0 / d ≡ 0
    nothing d = omega arith

digits_are : (base k j v : ℕ) (acc : List ℕ) → 2 ≤ base → j < k → IsHighest base j v
    → digits_onto k base false v acc ≡ digits_from base j v ++ acc
digits_are base zero j v acc b l h = absurd (omega arith)
digits_are base (suc k) zero v acc b l h =
    cond-true _ (digit_glyph false (v % base) ∷ acc) _ (eq-eqb (v / base) 0 (div-eq_of_lt h))
digits_are base (suc k) (suc j) v acc b l h =
    cond-false _ (digit_glyph false (v % base) ∷ acc) _ (ne_eqb (v / base) 0 (some_left base j v b h.1))
    ∙ digits_are base k j (v / base) (digit_glyph false (v % base) ∷ acc) b (omega arith) (lower base j v h)
    ∙ sym (append_one (digits_from base j (v / base)) (digit_glyph false (v % base)) acc)
    ∙ ap (λ ds. ds ++ acc) (sym (last_digit base j v))

pub are_digits : (base j v : ℕ) → 2 ≤ base → j < 64 → IsHighest base j v → digits base false v ≡ digits_from base j v
unfolding digits
are_digits base j v b l h = digits_are base 64 j v [] b l h ∙ append_none (digits_from base j v)
  where
    append_none : (ds : List ℕ) → ds ++ [] ≡ ds
    append_none [] = refl
    append_none (d ∷ ds) = ap (λ z. d ∷ z) (append_none ds)

pub digit_count : (base j v : ℕ) → length (digits_from base j v) ≡ suc j
digit_count base zero v = refl
digit_count base (suc j) v = ap suc (digit_count base j v)

-- ---- the highest power

pub divided_again : (base j v : ℕ) → v / base ^ j / base ≡ v / base ^ suc j
divided_again base j v = div-div-eq-div-mul v (base ^ j) base ∙ ap (λ d. v / d) (sym (pow-suc base j))

-- a quotient that is not 0 leaves one of at least the base below
pub base_left : (base j v : ℕ) → 2 ≤ base → 1 ≤ v / base ^ suc j → base ≤ v / base ^ j
base_left base j v b h =
    let e = divided_again base j v in
    at_least base (v / base ^ j) (λ l. absurd (let z = div-eq_of_lt l in omega arith))
  where
    at_least : (b q : ℕ) → (q < b → b ≤ q) → b ≤ q
    at_least b q h = ⊎_elim h (λ ge. ge) (cases_lt q b)

-- below the highest power the quotient is at least the base
pub still_left : (base j k v : ℕ) → 2 ≤ base → 1 ≤ v / base ^ suc (j + k) → base ≤ v / base ^ j
still_left base j zero v b h =
    let e : suc (j + 0) ≡ suc j = omega arith in
    base_left base j v b (subst (λ n. 1 ≤ v / base ^ n) e h)
still_left base j (suc k) v b h =
    let e : j + suc k ≡ suc (j + k) = omega arith in
    still_left base j k v b (let l = base_left base (j + suc k) v b h in subst (λ n. 1 ≤ v / base ^ n) e (omega arith))

product_positive : (a b : ℕ) → 0 < a → 0 < b → 0 < a * b
product_positive zero b l k = absurd (omega arith)
product_positive (suc a) b l k = let e = suc-mul a b in omega arith

pub positive : (base n : ℕ) → 2 ≤ base → 0 < base ^ n
positive base zero b = let e = pow-zero base in omega arith
positive base (suc n) b =
    let e = pow-suc base n in let p = product_positive (base ^ n) base (positive base n b) (omega arith) in omega arith

-- there is one
pub record Highest (base v bound : ℕ) : Type 0 where
  pub power : ℕ
  pub below : power ≤ bound
  pub highest : IsHighest base power v

pub highest : (base v m : ℕ) → 2 ≤ base → v < base ^ suc m → Highest base v m
highest base v zero b l = record {
  power = 0;
  below = omega arith;
  highest = (let e = pow-suc base 0 ∙ ap (λ z. z * base) (pow-zero base) in omega (arith, e));
}
highest base v (suc m) b l = ⊎_elim
    (λ less. let r = highest base v m b less in
    record { power = r.power; below = (let q = r.below in omega arith); highest = r.highest })
    (λ ge. record { power = suc m; below = omega arith; highest = (top, some ge) })
    (cases_lt v (base ^ suc m))
  where
    top : v / base ^ suc m < base
    top =
        let e : base ^ suc (suc m) ≡ base * base ^ suc m = pow-suc base (suc m) ∙ mul_comm (base ^ suc m) base in
        (div-lt_iff_lt-mul (positive base (suc m) b)).1 (subst (λ n. v < n) e l)

    some : base ^ suc m ≤ v → 1 ≤ v / base ^ suc m
    some ge = (le-div_iff_mul-le (positive base (suc m) b)).1 (omega arith)
