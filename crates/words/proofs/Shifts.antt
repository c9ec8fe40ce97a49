-- Shifts of words, and extension by two of them.
use Rattle.std.proofs.Common.{◌≡◌, ℕ, ◌+◌, ◌-◌, ◌*◌, ◌/◌, ◌%◌, ◌^◌, ◌<◌, ◌≤◌, Bool, true, false, if◌then◌else◌, refl}
use Rattle.std.proofs.Common.{ap, ◌∙◌, sym, arith}
use Rattle.std.proofs.Math.Nat.{div-le_self, mul-mod_left, mul-le-mul_right}
use Rattle.std.proofs.lemmas.Nat.{pow-add, pow_pos, mod-pow-add, mod_below, shl-shr, div-mul-add}
use Rattle.words.specs.TwosComplement.{IsExtendable, low_bits, is_negative, sign_extended}
use Rattle.words.specs.Operations.{complement, shifted_left, shifted_right_signed}
use Rattle.words.proofs.Signs.{half, negative_from, positive_below, is_negative_from, is_positive_below}
use Rattle.words.proofs.Extended.{powers, product_of_powers, extended_negative, extended_positive, extended_sign}

shift_of_negative : (k x by : ℕ) → is_negative k x ≡ true → shifted_right_signed k x by
    ≡ complement k (complement k x / 2 ^ by)
shift_of_negative k x by e = ap (λ b. if b then complement k (complement k x / 2 ^ by) else x / 2 ^ by) e

shift_of_positive : (k x by : ℕ) → is_negative k x ≡ false → shifted_right_signed k x by ≡ x / 2 ^ by
shift_of_positive k x by e = ap (λ b. if b then complement k (complement k x / 2 ^ by) else x / 2 ^ by) e

-- an extended word shifted to the right is the shifted word extended
pub extended_shift : (k m x by : ℕ) → IsExtendable k m x
    → shifted_right_signed m (sign_extended k m x) by ≡ sign_extended k m (shifted_right_signed k x by)
extended_shift k m x by w = cases (is_negative k x) refl
  where
    cases : (b : Bool) → is_negative k x ≡ b
        → shifted_right_signed m (sign_extended k m x) by ≡ sign_extended k m (shifted_right_signed k x by)
    cases true e =
        let p = half k w.some in
        let from = negative_from k x e in
        let same : complement m (sign_extended k m x) ≡ complement k x = omega
        (arith, extended_negative k m x e, powers w.wide, w.fits) in
        let most = div-le_self (complement k x) (2 ^ by) in
        let high : 2 ^ (k - 1) ≤ shifted_right_signed k x by = omega (arith, shift_of_negative k x by e) in
        shift_of_negative m (sign_extended k m x) by (extended_sign k m x w ∙ e)
        ∙ ap (λ n. complement m (n / 2 ^ by)) same
        ∙ omega (
          arith,
          powers w.wide,
          extended_negative k m (shifted_right_signed k x by)
              (is_negative_from k _ high),
          shift_of_negative k x by e,
        )
    cases false e =
        let below = positive_below k x e in
        let most = div-le_self x (2 ^ by) in
        let low : x / 2 ^ by < 2 ^ (k - 1) = omega arith in
        shift_of_positive m (sign_extended k m x) by (extended_sign k m x w ∙ e)
        ∙ ap (λ n. n / 2 ^ by) (extended_positive k m x e)
        ∙ sym (extended_positive k m (x / 2 ^ by) (is_positive_below k _ low))
        ∙ ap (sign_extended k m) (sym (shift_of_positive k x by e))

-- the low k bits of a word moved to its top
pub moved_up : (k m x : ℕ) → k ≤ m → shifted_left m x (m - k) ≡ low_bits k x * 2 ^ (m - k)
moved_up k m x h =
    let e : k + (m - k) ≡ m = omega arith in
    sym (ap (λ n. (x * 2 ^ (m - k)) % 2 ^ n) e) ∙ mod-pow-add (x * 2 ^ (m - k)) k (m - k)
    ∙ omega (arith, mul-mod_left x (2 ^ (m - k)), ap (λ n. n % 2 ^ k * 2 ^ (m - k)) (shl-shr x (m - k)))

-- and back: the word with zeros, or with copies of its sign bit, above its low k bits
pub zero_extended_by_shifts : (k m x : ℕ) → k ≤ m → shifted_left m x (m - k) / 2 ^ (m - k) ≡ low_bits k x
zero_extended_by_shifts k m x h = ap (λ n. n / 2 ^ (m - k)) (moved_up k m x h) ∙ shl-shr (low_bits k x) (m - k)

pub sign_extended_by_shifts : (k m x : ℕ) → 0 < k → k ≤ m
    → shifted_right_signed m (shifted_left m x (m - k)) (m - k) ≡ sign_extended k m (low_bits k x)
sign_extended_by_shifts k m x some h = ap (λ n. shifted_right_signed m n (m - k)) (moved_up k m x h)
    ∙ cases (is_negative k w) refl
  where
    w : ℕ
    w = low_bits k x

    fits : w < 2 ^ k
    fits = mod_below x (2 ^ k) (pow_pos k)

    whole : 2 ^ k * 2 ^ (m - k) ≡ 2 ^ m
    whole = omega (arith, product_of_powers h)

    top : 2 ^ (k - 1) * 2 ^ (m - k) ≡ 2 ^ (m - 1)
    top =
        let e : k - 1 + (m - k) ≡ m - 1 = omega arith in
        sym (pow-add 2 (k - 1) (m - k)) ∙ ap (λ n. 2 ^ n) e

    cases : (b : Bool) → is_negative k w ≡ b → shifted_right_signed m (w * 2 ^ (m - k)) (m - k) ≡ sign_extended k m w
    cases true e =
        let room = pow_pos (m - k) in
        let high : 2 ^ (m - 1) ≤ w * 2 ^ (m - k) = omega (
          arith,
          top,
          mul-le-mul_right (2 ^ (m - k))
              (negative_from k w e),
        ) in
        let all : 2 ^ k ≡ complement k w + w + 1 = omega (arith, fits) in
        let parts : complement m (w * 2 ^ (m - k)) ≡ complement k w * 2 ^ (m - k) + (2 ^ (m - k) - 1) =
        omega (arith, whole, ap (λ n. n * 2 ^ (m - k)) all) in
        let small : 2 ^ (m - k) - 1 < 2 ^ (m - k) = omega arith in
        let back : complement m (w * 2 ^ (m - k)) / 2 ^ (m - k) ≡ complement k w =
        ap (λ n. n / 2 ^ (m - k)) parts ∙ div-mul-add (complement k w) (2 ^ (m - k)) (2 ^ (m - k) - 1) small in
        shift_of_negative m (w * 2 ^ (m - k)) (m - k) (is_negative_from m _ high) ∙ ap (complement m) back
        ∙ omega (arith, powers h, fits, extended_negative k m w e)
    cases false e =
        let room = pow_pos (m - k) in
        let below : w + 1 ≤ 2 ^ (k - 1) = omega (arith, positive_below k w e) in
        let low : w * 2 ^ (m - k) < 2 ^ (m - 1) = omega (arith, top, mul-le-mul_right (2 ^ (m - k)) below) in
        shift_of_positive m (w * 2 ^ (m - k)) (m - k) (is_positive_below m _ low) ∙ shl-shr w (m - k)
        ∙ sym (extended_positive k m w e)

-- a word shifted to the right is a word
pub shift_fits : (k x by : ℕ) → x < 2 ^ k → shifted_right_signed k x by < 2 ^ k
shift_fits k x by fits = cases (is_negative k x) refl
  where
    cases : (b : Bool) → is_negative k x ≡ b → shifted_right_signed k x by < 2 ^ k
    cases true e = omega (arith, shift_of_negative k x by e)
    cases false e = omega (arith, shift_of_positive k x by e, div-le_self x (2 ^ by))
