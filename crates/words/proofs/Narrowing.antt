-- What operations on m bits are on the low k of them.
use Rattle.std.proofs.Common.{◌≡◌, ℕ, zero, suc, ◌+◌, ◌-◌, ◌*◌, ◌/◌, ◌%◌, ◌^◌, ◌<◌, ◌≤◌, Bool, true, false, refl, ap}
use Rattle.std.proofs.Common.{◌∙◌, sym, subst, arith}
use Rattle.std.proofs.Math.Nat.{mod-eq_of_lt, mod-mod_of_dvd, dvd-mul_left, mod-le, div-le_self}
use Rattle.std.proofs.Math.Nat.{add-mul-mod_self_right, add-mod-mod, mod-add-mod}
use Rattle.std.proofs.lemmas.Nat.{pow-add, pow_pos, shr_split, shr_below, mul-mod, mul-mod_first, mod_below}
use Rattle.std.specs.Int.{◌∣◌}
use Rattle.words.specs.TwosComplement.{IsExtendable, low_bits, is_negative, negated, magnitude, sign_extended}
use Rattle.words.specs.Operations.{sum, difference, product, complement, shifted_left, signed_quotient}
use Rattle.words.specs.Operations.{signed_remainder}
use Rattle.words.proofs.Signs.{half, positive_below, is_negative_from, is_positive_below, magnitude_of_positive}
use Rattle.words.proofs.Signs.{negated_zero, negated_is}
use Rattle.words.proofs.Extended.{powers, product_of_powers, extended_negative, extended_positive, extended_sign}
use Rattle.words.proofs.Extended.{extended_magnitude}
use Rattle.words.proofs.Division.{magnitude_fits, quotient_by, remainder_by}

divides : {k m : ℕ} → k ≤ m → 2 ^ k ∣ 2 ^ m
divides {k} {m} h = subst (λ n. 2 ^ k ∣ n) (product_of_powers h) (dvd-mul_left (2 ^ k) (2 ^ (m - k)))

pub low_of_low : (k m n : ℕ) → k ≤ m → low_bits k (low_bits m n) ≡ low_bits k n
low_of_low k m n h = mod-mod_of_dvd (2 ^ k) n (divides h)

pub low_sum : (k m x y : ℕ) → k ≤ m → low_bits k (sum m x y) ≡ sum k (low_bits k x) (low_bits k y)
low_sum k m x y h = low_of_low k m (x + y) h ∙ sym (mod-add-mod x (2 ^ k) y)
    ∙ sym (add-mod-mod (low_bits k x) y (2 ^ k))

pub low_product : (k m x y : ℕ) → k ≤ m → low_bits k (product m x y) ≡ product k (low_bits k x) (low_bits k y)
low_product k m x y h = low_of_low k m (x * y) h ∙ mul-mod x y (2 ^ k)

pub low_difference : (k m x y : ℕ) → k ≤ m → y < 2 ^ m → low_bits k (difference m x y)
    ≡ difference k (low_bits k x) (low_bits k y)
low_difference k m x y h fits =
    let rows : y / 2 ^ k < 2 ^ (m - k) = shr_below y (m - k) k
    (omega (arith, fits, product_of_powers h, pow-add 2 (m - k) k)) in
    let c = 2 ^ (m - k) - 1 - y / 2 ^ k in
    let all : 2 ^ (m - k) ≡ c + y / 2 ^ k + 1 = omega arith in
    let parts : x + (2 ^ m - y) ≡ low_bits k x + (2 ^ k - low_bits k y) + (x / 2 ^ k + c) * 2 ^ k =
    omega (
      arith,
      shr_split x k,
      shr_split y k,
      product_of_powers h,
      ap (λ n. n * 2 ^ k) all,
      mod_below y (2 ^ k)
          (pow_pos k),
    ) in
    low_of_low k m (x + (2 ^ m - y)) h ∙ ap (low_bits k) parts
    ∙ add-mul-mod_self_right (low_bits k x + (2 ^ k - low_bits k y)) (x / 2 ^ k + c) (2 ^ k)

pub low_complement : (k m x : ℕ) → k ≤ m → x < 2 ^ m → low_bits k (complement m x) ≡ complement k (low_bits k x)
low_complement k m x h fits =
    let rows : x / 2 ^ k < 2 ^ (m - k) = shr_below x (m - k) k
    (omega (arith, fits, product_of_powers h, pow-add 2 (m - k) k)) in
    let c = 2 ^ (m - k) - 1 - x / 2 ^ k in
    let all : 2 ^ (m - k) ≡ c + x / 2 ^ k + 1 = omega arith in
    let small : low_bits k x < 2 ^ k = mod_below x (2 ^ k) (pow_pos k) in
    let below : complement k (low_bits k x) < 2 ^ k = omega arith in
    let parts : complement m x ≡ complement k (low_bits k x) + c * 2 ^ k =
    omega (arith, shr_split x k, product_of_powers h, ap (λ n. n * 2 ^ k) all) in
    ap (low_bits k) parts ∙ add-mul-mod_self_right (complement k (low_bits k x)) c (2 ^ k) ∙ mod-eq_of_lt below

pub low_shift : (k m x by : ℕ) → k ≤ m → low_bits k (shifted_left m x by) ≡ shifted_left k (low_bits k x) by
low_shift k m x by h = low_of_low k m (x * 2 ^ by) h ∙ sym (mul-mod_first x (2 ^ by) (2 ^ k))

-- the word of a negative
pub low_negated : (k m n : ℕ) → k ≤ m → n < 2 ^ k → low_bits k (negated m n) ≡ negated k n
low_negated k m n h fits =
    let long : n < 2 ^ m = omega (arith, powers h) in
    ap (λ i. low_bits k (low_bits m i)) (omega arith) ∙ low_difference k m 0 n h long
    ∙ ap (low_bits k) (omega (arith, mod-eq_of_lt fits, mod-eq_of_lt (pow_pos k)))

pub extended_negated : (k m n : ℕ) → 0 < k → k ≤ m → n ≤ 2 ^ (k - 1) → sign_extended k m (negated k n) ≡ negated m n
extended_negated k m zero some h fits =
    ap (sign_extended k m) (negated_zero k) ∙ extended_positive k m 0 (is_positive_below k 0 (pow_pos (k - 1)))
    ∙ sym (negated_zero m)
extended_negated k m (suc n) some h fits =
    let p = half k some in
    let short : suc n ≤ 2 ^ k = omega arith in
    let long : suc n ≤ 2 ^ m = omega (arith, powers h) in
    let is = negated_is k (suc n) (omega arith) short in
    let negative = is_negative_from k (negated k (suc n)) (omega (arith, is)) in
    omega (
      arith,
      extended_negative k m (negated k (suc n)) negative,
      is,
      negated_is m (suc n)
          (omega arith) long,
      powers h,
    )

-- quotients and remainders of extended words
pub low_quotient : (k m x y : ℕ) → IsExtendable k m x → IsExtendable k m y
    → low_bits k (signed_quotient m (sign_extended k m x) (sign_extended k m y)) ≡ signed_quotient k x y
low_quotient k m x y v w = by (is_negative k x) (is_negative k y) refl refl
  where
    n : ℕ
    n = magnitude k x / magnitude k y

    fits : n < 2 ^ k
    fits = omega (
      arith,
      div-le_self (magnitude k x)
          (magnitude k y),
      magnitude_fits k x v.some v.fits,
      half k v.some,
      pow_pos (k - 1),
    )

    same : magnitude m (sign_extended k m x) / magnitude m (sign_extended k m y) ≡ n
    same = ap (λ i. i / magnitude m (sign_extended k m y)) (extended_magnitude k m x v)
        ∙ ap (λ i. magnitude k x / i) (extended_magnitude k m y w)

    by : (s t : Bool) → is_negative k x ≡ s → is_negative k y ≡ t
        → low_bits k (signed_quotient m (sign_extended k m x) (sign_extended k m y)) ≡ signed_quotient k x y
    by true true e f =
        ap (low_bits k) (quotient_by m (sign_extended k m x) (sign_extended k m y) true true
        (extended_sign k m x v ∙ e) (extended_sign k m y w ∙ f) ∙ same)
        ∙ mod-eq_of_lt fits ∙ sym (quotient_by k x y true true e f)
    by true false e f =
        ap (low_bits k) (quotient_by m (sign_extended k m x) (sign_extended k m y) true false
        (extended_sign k m x v ∙ e) (extended_sign k m y w ∙ f) ∙ ap (negated m) same)
        ∙ low_negated k m n v.wide fits ∙ sym (quotient_by k x y true false e f)
    by false true e f =
        ap (low_bits k) (quotient_by m (sign_extended k m x) (sign_extended k m y) false true
        (extended_sign k m x v ∙ e) (extended_sign k m y w ∙ f) ∙ ap (negated m) same)
        ∙ low_negated k m n v.wide fits ∙ sym (quotient_by k x y false true e f)
    by false false e f =
        ap (low_bits k) (quotient_by m (sign_extended k m x) (sign_extended k m y) false false
        (extended_sign k m x v ∙ e) (extended_sign k m y w ∙ f) ∙ same)
        ∙ mod-eq_of_lt fits ∙ sym (quotient_by k x y false false e f)

pub extended_remainder : (k m x y : ℕ) → IsExtendable k m x → IsExtendable k m y
    → signed_remainder m (sign_extended k m x) (sign_extended k m y) ≡ sign_extended k m (signed_remainder k x y)
extended_remainder k m x y v w = by (is_negative k x) refl
  where
    n : ℕ
    n = magnitude k x % magnitude k y

    most : n ≤ magnitude k x
    most = mod-le (magnitude k x) (magnitude k y)

    same : magnitude m (sign_extended k m x) % magnitude m (sign_extended k m y) ≡ n
    same = ap (λ i. i % magnitude m (sign_extended k m y)) (extended_magnitude k m x v)
        ∙ ap (λ i. magnitude k x % i) (extended_magnitude k m y w)

    by : (s : Bool) → is_negative k x ≡ s
        → signed_remainder m (sign_extended k m x) (sign_extended k m y) ≡ sign_extended k m (signed_remainder k x y)
    by true e =
        let fits : n ≤ 2 ^ (k - 1) = omega (arith, most, magnitude_fits k x v.some v.fits) in
        remainder_by m (sign_extended k m x) (sign_extended k m y) true (extended_sign k m x v ∙ e)
        ∙ ap (negated m) same
        ∙ sym (extended_negated k m n v.some v.wide fits) ∙ ap (sign_extended k m) (sym (remainder_by k x y true e))
    by false e =
        let fits : n < 2 ^ (k - 1) = omega (arith, most, magnitude_of_positive k x e, positive_below k x e) in
        remainder_by m (sign_extended k m x) (sign_extended k m y) false (extended_sign k m x v ∙ e) ∙ same
        ∙ sym (extended_positive k m n (is_positive_below k n fits))
        ∙ ap (sign_extended k m) (sym (remainder_by k x y false e))
