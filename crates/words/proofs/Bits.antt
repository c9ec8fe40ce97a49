-- Bitwise operations on words that are extended by copies of their sign bits.
use Rattle.std.proofs.Common.{◌≡◌, ℕ, ◌+◌, ◌-◌, ◌*◌, ◌/◌, ◌%◌, ◌^◌, ◌<◌, ◌≤◌, Bool, true, false, refl, ap, ◌∙◌, sym}
use Rattle.std.proofs.Common.{◌⊎◌, inl, inr, arith}
use Rattle.std.proofs.Math.Nat.{mod-eq_of_lt, div-eq_of_lt, add-mul-mod_self_right}
use Rattle.std.proofs.lemmas.Nat.{pow_pos, shr_split, mod_below, div-mul-add, and_mod, or_mod, xor_mod, and_shr}
use Rattle.std.proofs.lemmas.Nat.{or_shr, xor_shr}
use Rattle.std.specs.Int.Bits.{and_self, and_zero_l, and_zero_r, or_self, or_zero_l, or_zero_r, xor_self, xor_zero_l}
use Rattle.std.specs.Int.Bits.{xor_zero_r}
use Rattle.std.specs.Prelude.{bit_and, bit_or, bit_xor}
use Rattle.words.specs.TwosComplement.{IsExtendable, low_bits, is_negative, sign_extended}
use Rattle.words.proofs.Signs.{half, negative_from, positive_below, is_negative_from, is_positive_below}
use Rattle.words.proofs.Extended.{powers, product_of_powers, extended_negative, extended_positive, extended_low}

-- from the sign bit of k bits on a word of m bits has nothing but zeros, or nothing but ones
abbrev ones : ℕ → ℕ → ℕ
ones k m = 2 ^ (m - (k - 1)) - 1

IsUniform : (k m z : ℕ) → Type 0
IsUniform k m z = (z / 2 ^ (k - 1) ≡ 0) ⊎ (z / 2 ^ (k - 1) ≡ ones k m)

upper : (k m : ℕ) → 0 < k → k ≤ m → 2 ^ (m - (k - 1)) * 2 ^ (k - 1) ≡ 2 ^ m
upper k m some h =
    let le : k - 1 ≤ m = omega arith in
    product_of_powers le

uniform_extended : (k m x : ℕ) → IsExtendable k m x → IsUniform k m (sign_extended k m x)
unfolding IsUniform
uniform_extended k m x w = by (is_negative k x) refl
  where
    by : (b : Bool) → is_negative k x ≡ b → (sign_extended k m x / 2 ^ (k - 1) ≡ 0)
        ⊎ (sign_extended k m x / 2 ^ (k - 1) ≡ ones k m)
    by true e =
        let p = half k w.some in
        let from = negative_from k x e in
        let small : x - 2 ^ (k - 1) < 2 ^ (k - 1) = omega (arith, w.fits) in
        let room = pow_pos (m - (k - 1)) in
        let one_more : 2 ^ (m - (k - 1)) ≡ ones k m + 1 = omega arith in
        let parts : sign_extended k m x ≡ ones k m * 2 ^ (k - 1) + (x - 2 ^ (k - 1)) =
        omega (
          arith,
          extended_negative k m x e,
          upper k m w.some w.wide,
          ap
              (λ n. n * 2 ^ (k - 1)) one_more,
          powers w.wide,
        ) in
        inr (ap (λ n. n / 2 ^ (k - 1)) parts ∙ div-mul-add (ones k m) (2 ^ (k - 1)) (x - 2 ^ (k - 1)) small)
    by false e =
        let below = positive_below k x e in
        inl (ap (λ n. n / 2 ^ (k - 1)) (extended_positive k m x e) ∙ div-eq_of_lt below)

-- such a word is its low bits extended
uniform_is_extended : (k m z : ℕ) → 0 < k → k ≤ m → IsUniform k m z → z ≡ sign_extended k m (low_bits k z)
unfolding IsUniform
uniform_is_extended k m z some h (inl none) =
    let p = half k some in
    let rest = mod_below z (2 ^ (k - 1)) (pow_pos (k - 1)) in
    let all : z ≡ z % 2 ^ (k - 1) = omega (arith, shr_split z (k - 1), ap (λ n. n * 2 ^ (k - 1)) none) in
    let below : z < 2 ^ (k - 1) = omega (arith, all, rest) in
    let fits : z < 2 ^ k = omega arith in
    let same = mod-eq_of_lt fits in
    sym (ap (sign_extended k m) same ∙ extended_positive k m z (is_positive_below k z below))
uniform_is_extended k m z some h (inr full) =
    let p = half k some in
    let rest = mod_below z (2 ^ (k - 1)) (pow_pos (k - 1)) in
    let room = pow_pos (m - (k - 1)) in
    let rows = pow_pos (m - k) in
    let one_more : 2 ^ (m - (k - 1)) ≡ ones k m + 1 = omega arith in
    let word = 2 ^ (k - 1) + z % 2 ^ (k - 1) in
    let fits : word < 2 ^ k = omega arith in
    let all : z ≡ word + (2 ^ m - 2 ^ k) =
    omega (
      arith,
      shr_split z (k - 1),
      ap (λ n. n * 2 ^ (k - 1)) full,
      ap
          (λ n. n * 2 ^ (k - 1)) one_more,
      upper k m some h,
      powers h,
    ) in
    let count : 2 ^ (m - k) ≡ (2 ^ (m - k) - 1) + 1 = omega arith in
    let parts : z ≡ word + (2 ^ (m - k) - 1) * 2 ^ k = omega (
      arith,
      all,
      product_of_powers h,
      ap
          (λ n. n * 2 ^ k) count,
    ) in
    let low : low_bits k z ≡ word = ap (low_bits k) parts ∙ add-mul-mod_self_right word (2 ^ (m - k) - 1) (2 ^ k)
    ∙ mod-eq_of_lt fits in
    let high : 2 ^ (k - 1) ≤ word = omega arith in
    all ∙ sym (ap (sign_extended k m) low ∙ extended_negative k m word (is_negative_from k word high))

-- an operation bit by bit, which gives zeros or ones of zeros and ones
record IsBitwise (f : ℕ → ℕ → ℕ) : Type 0 where
  upper : (a b k : ℕ) → f a b / 2 ^ k ≡ f (a / 2 ^ k) (b / 2 ^ k)
  lower : (a b k : ℕ) → f a b % 2 ^ k ≡ f (a % 2 ^ k) (b % 2 ^ k)
  of_zeros : f 0 0 ≡ 0
  of_right : (o : ℕ) → (f 0 o ≡ 0) ⊎ (f 0 o ≡ o)
  of_left : (o : ℕ) → (f o 0 ≡ 0) ⊎ (f o 0 ≡ o)
  of_ones : (o : ℕ) → (f o o ≡ 0) ⊎ (f o o ≡ o)

uniform_of : (f : ℕ → ℕ → ℕ) → IsBitwise f → (k m a b : ℕ) → IsUniform k m a → IsUniform k m b → IsUniform k m (f a b)
unfolding IsUniform
uniform_of f w k m a b g h = by g h
  where
    to : {n : ℕ} → f (a / 2 ^ (k - 1)) (b / 2 ^ (k - 1)) ≡ n → (n ≡ 0) ⊎ (n ≡ ones k m)
        → (f a b / 2 ^ (k - 1) ≡ 0) ⊎ (f a b / 2 ^ (k - 1) ≡ ones k m)
    to e (inl z) = inl (w.upper a b (k - 1) ∙ e ∙ z)
    to e (inr o) = inr (w.upper a b (k - 1) ∙ e ∙ o)

    by : (a / 2 ^ (k - 1) ≡ 0) ⊎ (a / 2 ^ (k - 1) ≡ ones k m) → (b / 2 ^ (k - 1) ≡ 0) ⊎ (b / 2 ^ (k - 1) ≡ ones k m)
        → (f a b / 2 ^ (k - 1) ≡ 0) ⊎ (f a b / 2 ^ (k - 1) ≡ ones k m)
    by (inl e) (inl d) = to (ap (λ n. f n (b / 2 ^ (k - 1))) e ∙ ap (f 0) d) (inl w.of_zeros)
    by (inl e) (inr d) = to (ap (λ n. f n (b / 2 ^ (k - 1))) e ∙ ap (f 0) d) (w.of_right (ones k m))
    by (inr e) (inl d) = to (ap (λ n. f n (b / 2 ^ (k - 1))) e ∙ ap (f (ones k m)) d) (w.of_left (ones k m))
    by (inr e) (inr d) = to (ap (λ n. f n (b / 2 ^ (k - 1))) e ∙ ap (f (ones k m)) d) (w.of_ones (ones k m))

extended_bitwise : (f : ℕ → ℕ → ℕ) → IsBitwise f → (k m x y : ℕ) → IsExtendable k m x → IsExtendable k m y
    → f (sign_extended k m x) (sign_extended k m y) ≡ sign_extended k m (f x y)
extended_bitwise f b k m x y v w =
    uniform_is_extended k m _ v.some v.wide (uniform_of f b k m _ _ (uniform_extended k m x v)
    (uniform_extended k m y w))
    ∙ ap (sign_extended k m)
    (b.lower (sign_extended k m x) (sign_extended k m y) k
    ∙ ap (λ n. f n (low_bits k (sign_extended k m y))) (extended_low k m x v)
    ∙ ap (f x) (extended_low k m y w))

and_is_bitwise : IsBitwise bit_and
and_is_bitwise = record {
  upper = and_shr;
  lower = and_mod;
  of_zeros = and_zero_l 0;
  of_right = λ o. inl (and_zero_l o);
  of_left = λ o. inl (and_zero_r o);
  of_ones = λ o. inr (and_self o);
}

or_is_bitwise : IsBitwise bit_or
or_is_bitwise = record {
  upper = or_shr;
  lower = or_mod;
  of_zeros = or_zero_l 0;
  of_right = λ o. inr (or_zero_l o);
  of_left = λ o. inr (or_zero_r o);
  of_ones = λ o. inr (or_self o);
}

xor_is_bitwise : IsBitwise bit_xor
xor_is_bitwise = record {
  upper = xor_shr;
  lower = xor_mod;
  of_zeros = xor_zero_l 0;
  of_right = λ o. inr (xor_zero_l o);
  of_left = λ o. inr (xor_zero_r o);
  of_ones = λ o. inl (xor_self o);
}

pub extended_and : (k m x y : ℕ) → IsExtendable k m x → IsExtendable k m y
    → bit_and (sign_extended k m x) (sign_extended k m y) ≡ sign_extended k m (bit_and x y)
extended_and = extended_bitwise bit_and and_is_bitwise

pub extended_or : (k m x y : ℕ) → IsExtendable k m x → IsExtendable k m y
    → bit_or (sign_extended k m x) (sign_extended k m y) ≡ sign_extended k m (bit_or x y)
extended_or = extended_bitwise bit_or or_is_bitwise

pub extended_xor : (k m x y : ℕ) → IsExtendable k m x → IsExtendable k m y
    → bit_xor (sign_extended k m x) (sign_extended k m y) ≡ sign_extended k m (bit_xor x y)
extended_xor = extended_bitwise bit_xor xor_is_bitwise
