-- The order of integers by their words.
use Rattle.std.proofs.Common.{◌≡◌, ℕ, ◌+◌, ◌-◌, ◌%◌, ◌^◌, ◌<◌, ◌≤◌, Bool, true, false, refl, ◌∙◌, sym, arith}
use Rattle.std.proofs.Math.Nat.{mod-eq_of_lt, mod-eq-sub-mod}
use Rattle.std.proofs.lemmas.Bool.Decides.{nat_tests}
use Rattle.std.proofs.lemmas.Int.{ints}
use Rattle.std.specs.Prelude.{◌<ℤ◌, ◌↔◌, IsTrue}
use Rattle.words.specs.TwosComplement.{IsExtendable, is_negative, signed, sign_extended}
use Rattle.words.specs.Operations.{is_less_signed}
use Rattle.words.proofs.Extended.{extended_fits, extended_signed}
use Rattle.words.proofs.Signs.{half, negative_from, positive_below, signed_of_negative, signed_of_positive}

turned_negative : (k x : ℕ) → 0 < k → x < 2 ^ k → is_negative k x ≡ true → (x + 2 ^ (k - 1)) % 2 ^ k ≡ x - 2 ^ (k - 1)
turned_negative k x some fits e =
    let p = half k some in
    let from = negative_from k x e in
    let over : 2 ^ k ≤ x + 2 ^ (k - 1) = omega arith in
    let small : x + 2 ^ (k - 1) - 2 ^ k < 2 ^ k = omega arith in
    mod-eq-sub-mod over ∙ mod-eq_of_lt small ∙ omega arith

turned_positive : (k x : ℕ) → 0 < k → is_negative k x ≡ false → (x + 2 ^ (k - 1)) % 2 ^ k ≡ x + 2 ^ (k - 1)
turned_positive k x some e =
    let p = half k some in
    let below = positive_below k x e in
    let small : x + 2 ^ (k - 1) < 2 ^ k = omega arith in
    mod-eq_of_lt small

pub less_as_integers : (k x y : ℕ) → 0 < k → x < 2 ^ k → y < 2 ^ k
    → IsTrue (is_less_signed k x y) ↔ signed k x <ℤ signed k y
less_as_integers k x y some left right = by (is_negative k x) (is_negative k y) refl refl
  where
    p : 2 ^ k ≡ 2 ^ (k - 1) + 2 ^ (k - 1)
    p = half k some

    by : (s t : Bool) → is_negative k x ≡ s → is_negative k y ≡ t
        → IsTrue (is_less_signed k x y) ↔ signed k x <ℤ signed k y
    by true true e f =
        let from = negative_from k x e in
        let other = negative_from k y f in
        rw (
          turned_negative k x some left e,
          turned_negative k y some right f,
          signed_of_negative k x e left,
          signed_of_negative k y f right,
        )
        (λ h. grind (arith, ints, nat_tests), λ h. grind (arith, ints, nat_tests))
    by true false e f =
        let whole = p in
        let from = negative_from k x e in
        let other = positive_below k y f in
        rw (
          turned_negative k x some left e,
          turned_positive k y some f,
          signed_of_negative k x e left,
          signed_of_positive k y f,
        )
        (λ h. grind (arith, ints, nat_tests), λ h. grind (arith, ints, nat_tests))
    by false true e f =
        let whole = p in
        let from = positive_below k x e in
        let other = negative_from k y f in
        rw (
          turned_positive k x some e,
          turned_negative k y some right f,
          signed_of_positive k x e,
          signed_of_negative k
              y f right,
        )
        (λ h. grind (arith, ints, nat_tests), λ h. grind (arith, ints, nat_tests))
    by false false e f =
        rw (turned_positive k x some e, turned_positive k y some f, signed_of_positive k x e, signed_of_positive k y f)
        (λ h. grind (arith, ints, nat_tests), λ h. grind (arith, ints, nat_tests))

same_test : (b c : Bool) → (IsTrue b → IsTrue c) → (IsTrue c → IsTrue b) → b ≡ c
same_test true c f g = sym (f refl)
same_test false false f g = refl
same_test false true f g = g refl

-- words extended by their sign bits are in the same order
pub extended_less : (k m x y : ℕ) → IsExtendable k m x → IsExtendable k m y
    → is_less_signed m (sign_extended k m x) (sign_extended k m y) ≡ is_less_signed k x y
extended_less k m x y v w =
    let wide : 0 < m = omega (arith, v.some, v.wide) in
    let large = less_as_integers m (sign_extended k m x) (sign_extended k m y) wide (extended_fits k m x v)
    (extended_fits k m y w) in
    let short = less_as_integers k x y v.some v.fits w.fits in
    same_test (is_less_signed m (sign_extended k m x) (sign_extended k m y)) (is_less_signed k x y)
    (λ h. short.1 (rw (sym (extended_signed k m x v), sym (extended_signed k m y w)) (large.0 h)))
    (λ h. large.1 (rw (extended_signed k m x v, extended_signed k m y w) (short.0 h)))
