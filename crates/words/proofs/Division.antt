-- Signed quotients and remainders, as integers.
use Rattle.std.proofs.Common.{◌≡◌, ℕ, zero, suc, ◌+◌, ◌-◌, ◌*◌, ◌/◌, ◌%◌, ◌^◌, ◌<◌, ◌≤◌, Bool, true, false}
use Rattle.std.proofs.Common.{if◌then◌else◌, refl, ap, ◌∙◌, sym, arith, ◌⊎◌, inl, inr, ⊎_elim}
use Rattle.std.proofs.Math.Nat.{div-add-mod, mod-lt, div-le_self, div-one, mod-one, mul-le-mul_left}
use Rattle.std.proofs.lemmas.Bool.{cases_lt}
use Rattle.std.proofs.lemmas.Int.{ints}
use Rattle.std.proofs.lemmas.Nat.{pow_pos}
use Rattle.std.specs.Prelude.{pos, ◌+ℤ◌, ◌*ℤ◌, neg_ℤ}
use Rattle.words.specs.TwosComplement.{is_negative, signed, negated, magnitude}
use Rattle.words.specs.Operations.{signed_quotient, signed_remainder}
use Rattle.words.specs.Division.{IsDivision, IsOverflow, AreDividable}
use Rattle.words.proofs.Signs.{half, negative_from, positive_below, is_negative_from, is_positive_below}
use Rattle.words.proofs.Signs.{magnitude_of_negative, magnitude_of_positive, signed_negative, signed_positive}
use Rattle.words.proofs.Signs.{negated_zero, negated_is}

negative_by_positive : (n b : ℕ) → neg_ℤ (pos n) *ℤ pos b ≡ neg_ℤ (pos (n * b))
negative_by_positive zero b = omega (arith, ints)
negative_by_positive (suc n) b = refl

positive_by_negative : (n b : ℕ) → pos n *ℤ neg_ℤ (pos b) ≡ neg_ℤ (pos (n * b))
positive_by_negative n zero = omega (arith, ints)
positive_by_negative n (suc b) = refl

negative_by_negative : (n b : ℕ) → neg_ℤ (pos n) *ℤ neg_ℤ (pos b) ≡ pos (n * b)
negative_by_negative zero b = by b
  where
    by : (b : ℕ) → neg_ℤ (pos 0) *ℤ neg_ℤ (pos b) ≡ pos (0 * b)
    by zero = refl
    by (suc b) = omega (arith, ints)
negative_by_negative (suc n) zero = omega (arith, ints)
negative_by_negative (suc n) (suc b) = refl

sum_of_negatives : (u v : ℕ) → neg_ℤ (pos u) +ℤ neg_ℤ (pos v) ≡ neg_ℤ (pos (u + v))
sum_of_negatives u v = omega (arith, ints)

-- the integer of a number below 2 ^ (k - 1), and of its negative
signed_number : (k n : ℕ) → n < 2 ^ (k - 1) → signed k n ≡ pos n
signed_number k n h = signed_positive k n (is_positive_below k n h)
    ∙ ap pos (magnitude_of_positive k n (is_positive_below k n h))

signed_negated : (k n : ℕ) → 0 < k → n ≤ 2 ^ (k - 1) → signed k (negated k n) ≡ neg_ℤ (pos n)
signed_negated k zero some h = ap (signed k) (negated_zero k) ∙ signed_number k 0 (pow_pos (k - 1))
signed_negated k (suc n) some h =
    let p = half k some in
    let fits : suc n ≤ 2 ^ k = omega arith in
    let is = negated_is k (suc n) (omega arith) fits in
    let high : 2 ^ (k - 1) ≤ negated k (suc n) = omega (arith, is) in
    let e = is_negative_from k (negated k (suc n)) high in
    let below : negated k (suc n) < 2 ^ k = omega (arith, is) in
    let size : magnitude k (negated k (suc n)) ≡ suc n = omega
    (arith, magnitude_of_negative k (negated k (suc n)) e, is) in
    signed_negative k (negated k (suc n)) e below ∙ ap (λ i. neg_ℤ (pos i)) size

pub magnitude_fits : (k x : ℕ) → 0 < k → x < 2 ^ k → magnitude k x ≤ 2 ^ (k - 1)
magnitude_fits k x some fits = by (is_negative k x) refl
  where
    by : (b : Bool) → is_negative k x ≡ b → magnitude k x ≤ 2 ^ (k - 1)
    by true e = omega (arith, magnitude_of_negative k x e, negative_from k x e, half k some)
    by false e = omega (arith, magnitude_of_positive k x e, positive_below k x e)

magnitude_some : (k x : ℕ) → x < 2 ^ k → 0 < x → 0 < magnitude k x
magnitude_some k x fits some = by (is_negative k x) refl
  where
    by : (b : Bool) → is_negative k x ≡ b → 0 < magnitude k x
    by true e = omega (arith, magnitude_of_negative k x e)
    by false e = omega (arith, magnitude_of_positive k x e)

-- the parts of the division of the magnitudes
record AreParts (k x y n d : ℕ) : Type 0 where
  whole : magnitude k x ≡ n * magnitude k y + d
  small : d < magnitude k y
  quotient_fits : n ≤ 2 ^ (k - 1)
  dividend_fits : magnitude k x ≤ 2 ^ (k - 1)
  divisor_fits : magnitude k y ≤ 2 ^ (k - 1)

parts : (k x y : ℕ) → AreDividable k x y → AreParts k x y (magnitude k x / magnitude k y)
    (magnitude k x % magnitude k y)
parts k x y h =
    let some = magnitude_some k y h.right h.nonzero in
    let below = magnitude_fits k x h.some h.left in
    let less = div-le_self (magnitude k x) (magnitude k y) in
    record {
      whole = omega (arith, div-add-mod (magnitude k x) (magnitude k y));
      small = mod-lt (magnitude k x) some;
      quotient_fits = omega (arith, less, below);
      dividend_fits = below;
      divisor_fits = magnitude_fits k y h.some h.right;
    }

-- a remainder with the sign of the dividend
remainder_of_negative : (k d : ℕ) → 0 < k → d < 2 ^ (k - 1) → (x : ℕ) → is_negative k x ≡ true
    → (negated k d ≡ 0) ⊎ (is_negative k (negated k d) ≡ is_negative k x)
remainder_of_negative k zero some h x e = inl (negated_zero k)
remainder_of_negative k (suc d) some h x e =
    let p = half k some in
    let fits : suc d ≤ 2 ^ k = omega arith in
    let is = negated_is k (suc d) (omega arith) fits in
    inr (is_negative_from k (negated k (suc d)) (omega (arith, is)) ∙ sym e)

negated_magnitude : (k d : ℕ) → 0 < k → d ≤ 2 ^ (k - 1) → magnitude k (negated k d) ≡ d
negated_magnitude k zero some h =
    ap (magnitude k) (negated_zero k) ∙ magnitude_of_positive k 0 (is_positive_below k 0 (pow_pos (k - 1)))
negated_magnitude k (suc d) some h =
    let p = half k some in
    let fits : suc d ≤ 2 ^ k = omega arith in
    let is = negated_is k (suc d) (omega arith) fits in
    let high = is_negative_from k (negated k (suc d)) (omega (arith, is)) in
    omega (arith, magnitude_of_negative k (negated k (suc d)) high, is)

-- the quotient of two negative operands is below 2 ^ (k - 1), unless the least is divided by -1
quotient_below : (k x y n d : ℕ) → AreDividable k x y → AreParts k x y n d → (IsOverflow k x y → ⊥)
    → is_negative k x ≡ true → is_negative k y ≡ true → n < 2 ^ (k - 1)
quotient_below k x y n d h p none e f = ⊎_elim (λ l. l) (λ l. absurd (none (overflow l))) (cases_lt n (2 ^ (k - 1)))
  where
    overflow : 2 ^ (k - 1) ≤ n → IsOverflow k x y
    overflow l = ⊎_elim by_one by_more (cases_lt (magnitude k y) 2)
      where
        by_one : magnitude k y < 2 → IsOverflow k x y
        by_one small =
            let one : magnitude k y ≡ 1 = omega (arith, p.small) in
            let times = ap (λ i. n * i) one in
            record {
              least = omega (
                arith,
                times,
                p.whole,
                p.dividend_fits,
                magnitude_of_negative k x e,
                half k
                    h.some,
                h.left,
              );
              minus_one = omega (arith, one, magnitude_of_negative k y f, h.right);
            }

        by_more : 2 ≤ magnitude k y → IsOverflow k x y
        by_more large =
            absurd (omega (arith, mul-le-mul_left n large, p.whole, p.dividend_fits, pow_pos (k - 1)))

quotient_positive : (k x y n d : ℕ) → AreParts k x y n d → is_negative k x ≡ false → n < 2 ^ (k - 1)
quotient_positive k x y n d p e =
    let some : 1 ≤ magnitude k y = omega (arith, p.small) in
    omega (arith, mul-le-mul_left n some, p.whole, magnitude_of_positive k x e, positive_below k x e)

-- the four cases of the signs
signs : (k x y n d : ℕ) → AreDividable k x y → AreParts k x y n d → (IsOverflow k x y → ⊥) → (s t : Bool)
    → is_negative k x ≡ s → is_negative k y ≡ t
    → IsDivision k x y (if s then (if t then n else negated k n) else (if t then negated k n else n))
    (if s then negated k d else d)
signs k x y n d h p none true true e f =
    let below = quotient_below k x y n d h p none e f in
    let rest : d < 2 ^ (k - 1) = omega (arith, p.small, p.divisor_fits) in
    record {
      equation = signed_negative k x e h.left ∙ ap (λ i. neg_ℤ (pos i)) p.whole
          ∙ sym (sum_of_negatives (n * magnitude k y) d)
          ∙ cc (
            positive_by_negative n
                (magnitude k y),
            signed_number k n below,
            signed_negative k y f h.right,
            signed_negated k d h.some
                (omega arith),
          );
      size = omega (arith, negated_magnitude k d h.some (omega arith), p.small);
      sign = remainder_of_negative k d h.some rest x e;
    }
signs k x y n d h p none true false e f =
    let rest : d < 2 ^ (k - 1) = omega (arith, p.small, p.divisor_fits) in
    record {
      equation = signed_negative k x e h.left ∙ ap (λ i. neg_ℤ (pos i)) p.whole
          ∙ sym (sum_of_negatives (n * magnitude k y) d)
          ∙ cc (
            negative_by_positive n
                (magnitude k y),
            signed_negated k n h.some p.quotient_fits,
            signed_positive k y f,
            signed_negated k d h.some (omega arith),
          );
      size = omega (arith, negated_magnitude k d h.some (omega arith), p.small);
      sign = remainder_of_negative k d h.some rest x e;
    }
signs k x y n d h p none false true e f =
    let rest : d < 2 ^ (k - 1) = omega (arith, p.small, p.divisor_fits) in
    record {
      equation = signed_positive k x e ∙ ap pos p.whole
          ∙ cc (
            negative_by_negative n
                (magnitude k y),
            signed_negated k n h.some p.quotient_fits,
            signed_negative k y f h.right,
            signed_number k d rest,
          );
      size = omega (arith, magnitude_of_positive k d (is_positive_below k d rest), p.small);
      sign = inr (is_positive_below k d rest ∙ sym e);
    }
signs k x y n d h p none false false e f =
    let below = quotient_positive k x y n d p e in
    let rest : d < 2 ^ (k - 1) = omega (arith, p.small, p.divisor_fits) in
    record {
      equation = signed_positive k x e ∙ ap pos p.whole
          ∙ cc (signed_number k n below, signed_positive k y f, signed_number k d rest);
      size = omega (arith, magnitude_of_positive k d (is_positive_below k d rest), p.small);
      sign = inr (is_positive_below k d rest ∙ sym e);
    }

pub divided : (k x y : ℕ) → AreDividable k x y → (IsOverflow k x y → ⊥)
    → IsDivision k x y (signed_quotient k x y) (signed_remainder k x y)
divided k x y h none = signs k x y _ _ h (parts k x y h) none (is_negative k x) (is_negative k y) refl refl

-- the two by the signs of their operands
pub quotient_by : (k x y : ℕ) (s t : Bool) → is_negative k x ≡ s → is_negative k y ≡ t
    → signed_quotient k x y
    ≡ (if s then (if t then magnitude k x / magnitude k y else negated k (magnitude k x / magnitude k y))
    else (if t then negated k (magnitude k x / magnitude k y) else magnitude k x / magnitude k y))
quotient_by k x y s t e f = cc

pub remainder_by : (k x y : ℕ) (s : Bool) → is_negative k x ≡ s
    → signed_remainder k x y ≡ (if s then negated k (magnitude k x % magnitude k y) else magnitude k x % magnitude k y)
remainder_by k x y s e = cc

-- the least integer by -1
record AreLeastAndOne (k : ℕ) : Type 0 where
  least_sign : is_negative k (2 ^ (k - 1)) ≡ true
  one_sign : is_negative k (2 ^ k - 1) ≡ true
  least : magnitude k (2 ^ (k - 1)) ≡ 2 ^ (k - 1)
  one : magnitude k (2 ^ k - 1) ≡ 1

least_and_one : (k : ℕ) → 0 < k → AreLeastAndOne k
least_and_one k some =
    let p = half k some in
    let positive = pow_pos (k - 1) in
    let first = is_negative_from k (2 ^ (k - 1)) (omega arith) in
    let second = is_negative_from k (2 ^ k - 1) (omega arith) in
    record {
      least_sign = first;
      one_sign = second;
      least = omega (arith, magnitude_of_negative k (2 ^ (k - 1)) first);
      one = omega (arith, magnitude_of_negative k (2 ^ k - 1) second);
    }

pub overflow_quotient : (k : ℕ) → 0 < k → signed_quotient k (2 ^ (k - 1)) (2 ^ k - 1) ≡ 2 ^ (k - 1)
overflow_quotient k some =
    let h = least_and_one k some in
    quotient_by k (2 ^ (k - 1)) (2 ^ k - 1) true true h.least_sign h.one_sign
    ∙ ap (λ n. magnitude k (2 ^ (k - 1)) / n) h.one ∙ div-one _ ∙ h.least

pub overflow_remainder : (k : ℕ) → 0 < k → signed_remainder k (2 ^ (k - 1)) (2 ^ k - 1) ≡ 0
overflow_remainder k some =
    let h = least_and_one k some in
    remainder_by k (2 ^ (k - 1)) (2 ^ k - 1) true h.least_sign
    ∙ ap (λ n. negated k (magnitude k (2 ^ (k - 1)) % n)) h.one ∙ ap (negated k) (mod-one _) ∙ negated_zero k
