-- Words extended by copies of their sign bits: what stands for the same integer.
use Rattle.std.proofs.Common.{◌≡◌, ℕ, ◌+◌, ◌-◌, ◌*◌, ◌^◌, ◌<◌, ◌≤◌, Bool, true, false, if◌then◌else◌, refl, ap, ◌∙◌}
use Rattle.std.proofs.Common.{sym, arith}
use Rattle.std.proofs.Math.Nat.{mod-eq_of_lt, pow-le-pow_right, add-mul-mod_self_right}
use Rattle.std.proofs.lemmas.Nat.{pow-add, pow_pos}
use Rattle.std.specs.Prelude.{pos, neg_ℤ}
use Rattle.words.specs.TwosComplement.{IsExtendable, low_bits, is_negative, signed, magnitude, sign_extended}
use Rattle.words.proofs.Signs.{half, negative_from, positive_below, is_negative_from, is_positive_below}
use Rattle.words.proofs.Signs.{magnitude_of_negative, magnitude_of_positive, signed_negative, signed_positive}

pub powers : {k m : ℕ} → k ≤ m → 2 ^ k ≤ 2 ^ m
powers h = pow-le-pow_right (omega arith) h

pub extended_negative : (k m x : ℕ) → is_negative k x ≡ true → sign_extended k m x ≡ x + (2 ^ m - 2 ^ k)
extended_negative k m x e = ap (λ b. if b then x + (2 ^ m - 2 ^ k) else x) e

pub extended_positive : (k m x : ℕ) → is_negative k x ≡ false → sign_extended k m x ≡ x
extended_positive k m x e = ap (λ b. if b then x + (2 ^ m - 2 ^ k) else x) e

pub extended_fits : (k m x : ℕ) → IsExtendable k m x → sign_extended k m x < 2 ^ m
extended_fits k m x w = by (is_negative k x) refl
  where
    by : (b : Bool) → is_negative k x ≡ b → sign_extended k m x < 2 ^ m
    by true e = omega (arith, extended_negative k m x e, powers w.wide)
    by false e = omega (arith, extended_positive k m x e, powers w.wide)

pub extended_sign : (k m x : ℕ) → IsExtendable k m x → is_negative m (sign_extended k m x) ≡ is_negative k x
extended_sign k m x w = by (is_negative k x) refl
  where
    some : 0 < m
    some = omega arith

    by : (b : Bool) → is_negative k x ≡ b → is_negative m (sign_extended k m x) ≡ is_negative k x
    by true e =
        let high : 2 ^ (m - 1) ≤ sign_extended k m x =
        omega (arith, extended_negative k m x e, negative_from k x e, half k w.some, half m some, powers w.wide) in
        is_negative_from m _ high ∙ sym e
    by false e =
        let low : sign_extended k m x < 2 ^ (m - 1) =
        omega (arith, extended_positive k m x e, positive_below k x e, half k w.some, half m some, powers w.wide) in
        is_positive_below m _ low ∙ sym e

pub extended_magnitude : (k m x : ℕ) → IsExtendable k m x → magnitude m (sign_extended k m x) ≡ magnitude k x
extended_magnitude k m x w = by (is_negative k x) refl
  where
    by : (b : Bool) → is_negative k x ≡ b → magnitude m (sign_extended k m x) ≡ magnitude k x
    by true e =
        let large = magnitude_of_negative m (sign_extended k m x) (extended_sign k m x w ∙ e) in
        omega (arith, large, magnitude_of_negative k x e, extended_negative k m x e, powers w.wide)
    by false e =
        let large = magnitude_of_positive m (sign_extended k m x) (extended_sign k m x w ∙ e) in
        omega (arith, large, magnitude_of_positive k x e, extended_positive k m x e)

pub extended_signed : (k m x : ℕ) → IsExtendable k m x → signed m (sign_extended k m x) ≡ signed k x
extended_signed k m x w = by (is_negative k x) refl
  where
    by : (b : Bool) → is_negative k x ≡ b → signed m (sign_extended k m x) ≡ signed k x
    by true e =
        signed_negative m (sign_extended k m x) (extended_sign k m x w ∙ e) (extended_fits k m x w)
        ∙ ap (λ n. neg_ℤ (pos n)) (extended_magnitude k m x w) ∙ sym (signed_negative k x e w.fits)
    by false e =
        signed_positive m (sign_extended k m x) (extended_sign k m x w ∙ e)
        ∙ ap pos (extended_magnitude k m x w) ∙ sym (signed_positive k x e)

-- a power of two by a lower one
pub product_of_powers : {k m : ℕ} → k ≤ m → 2 ^ (m - k) * 2 ^ k ≡ 2 ^ m
product_of_powers {k} {m} h =
    let e : m - k + k ≡ m = omega arith in
    sym (pow-add 2 (m - k) k) ∙ ap (λ n. 2 ^ n) e

pub extended_low : (k m x : ℕ) → IsExtendable k m x → low_bits k (sign_extended k m x) ≡ x
extended_low k m x w = by (is_negative k x) refl
  where
    by : (b : Bool) → is_negative k x ≡ b → low_bits k (sign_extended k m x) ≡ x
    by true e =
        let split = product_of_powers w.wide in
        let positive = pow_pos (m - k) in
        let one_more : 2 ^ (m - k) ≡ (2 ^ (m - k) - 1) + 1 = omega arith in
        let rows = ap (λ n. n * 2 ^ k) one_more in
        let parts : x + (2 ^ m - 2 ^ k) ≡ x + (2 ^ (m - k) - 1) * 2 ^ k = omega (arith, split, rows) in
        ap (low_bits k) (extended_negative k m x e ∙ parts) ∙ add-mul-mod_self_right x (2 ^ (m - k) - 1) (2 ^ k)
        ∙ mod-eq_of_lt w.fits
    by false e = ap (low_bits k) (extended_positive k m x e) ∙ mod-eq_of_lt w.fits
