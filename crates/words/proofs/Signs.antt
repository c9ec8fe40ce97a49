-- Words and the integers that they stand for.
use Rattle.std.proofs.Common.{◌≡◌, ℕ, ◌+◌, ◌-◌, ◌%◌, ◌^◌, ◌<◌, ◌≤◌, Bool, true, false, if◌then◌else◌, refl, ap, ◌∙◌}
use Rattle.std.proofs.Common.{sym, subst, arith}
use Rattle.std.proofs.Math.Nat.{mod-eq_of_lt, mod_self}
use Rattle.std.proofs.lemmas.Bool.Decides.{nat_tests}
use Rattle.std.proofs.lemmas.Int.{ints}
use Rattle.std.proofs.lemmas.Nat.{pow-add}
use Rattle.std.specs.Prelude.{ℤ, pos, negsuc, ◌-ℤ◌, neg_ℤ}
use Rattle.words.specs.TwosComplement.{IsSigned, is_negative, signed, twos_complement, negated, magnitude}

pub half : (k : ℕ) → 0 < k → 2 ^ k ≡ 2 ^ (k - 1) + 2 ^ (k - 1)
half k h =
    let e : k ≡ (k - 1) + 1 = omega arith in
    let both = ap (λ n. 2 ^ n) e ∙ pow-add 2 (k - 1) 1 in
    omega (arith, both)

-- the two cases of a word
pub negative_from : (k x : ℕ) → is_negative k x ≡ true → 2 ^ (k - 1) ≤ x
negative_from k x e = grind (arith, nat_tests)

pub positive_below : (k x : ℕ) → is_negative k x ≡ false → x < 2 ^ (k - 1)
positive_below k x e = grind (arith, nat_tests)

pub signed_of_negative : (k x : ℕ) → is_negative k x ≡ true → x < 2 ^ k → signed k x ≡ negsuc (2 ^ k - 1 - x)
signed_of_negative k x e h =
    let below : pos x -ℤ pos (2 ^ k) ≡ negsuc (2 ^ k - 1 - x) = omega (arith, ints) in
    ap (λ b. if b then pos x -ℤ pos (2 ^ k) else pos x) e ∙ below

pub signed_of_positive : (k x : ℕ) → is_negative k x ≡ false → signed k x ≡ pos x
signed_of_positive k x e = ap (λ b. if b then pos x -ℤ pos (2 ^ k) else pos x) e

pub word_of_signed : (k x : ℕ) → 0 < k → x < 2 ^ k → twos_complement k (signed k x) ≡ x
word_of_signed k x some fits = by (is_negative k x) refl
  where
    by : (b : Bool) → is_negative k x ≡ b → twos_complement k (signed k x) ≡ x
    by true e =
        let small : 2 ^ k - 1 - x < 2 ^ k = omega arith in
        ap (twos_complement k) (signed_of_negative k x e fits) ∙ omega (arith, mod-eq_of_lt small)
    by false e = ap (twos_complement k) (signed_of_positive k x e) ∙ mod-eq_of_lt fits

pub signed_is_in_range : (k x : ℕ) → 0 < k → x < 2 ^ k → IsSigned k (signed k x)
signed_is_in_range k x some fits = by (is_negative k x) refl
  where
    by : (b : Bool) → is_negative k x ≡ b → IsSigned k (signed k x)
    by true e =
        let p = half k some in
        let from = negative_from k x e in
        subst (IsSigned k) (sym (signed_of_negative k x e fits))
        (record { low = omega (arith, ints); high = omega (arith, ints) })
    by false e =
        let below = positive_below k x e in
        subst (IsSigned k) (sym (signed_of_positive k x e)) (record {
          low = omega (arith, ints);
          high = omega (arith, ints);
        })

pub signed_of_word : (k : ℕ) (z : ℤ) → 0 < k → IsSigned k z → signed k (twos_complement k z) ≡ z
signed_of_word k (pos n) some range =
    let p = half k some in
    let below : n < 2 ^ (k - 1) = omega (arith, ints, range.high) in
    let fits : n < 2 ^ k = omega arith in
    let same = mod-eq_of_lt fits in
    let not_negative : is_negative k (n % 2 ^ k) ≡ false = grind (arith, nat_tests) in
    signed_of_positive k (n % 2 ^ k) not_negative ∙ ap pos same
signed_of_word k (negsuc n) some range =
    let p = half k some in
    let below : n < 2 ^ (k - 1) = omega (arith, ints, range.low) in
    let fits : n < 2 ^ k = omega arith in
    let same = mod-eq_of_lt fits in
    let word : 2 ^ k - 1 - n % 2 ^ k < 2 ^ k = omega arith in
    let negative : is_negative k (2 ^ k - 1 - n % 2 ^ k) ≡ true = grind (arith, nat_tests) in
    signed_of_negative k (2 ^ k - 1 - n % 2 ^ k) negative word ∙ ap negsuc (omega arith)

-- an integer by its sign and its absolute value
pub signed_negative : (k x : ℕ) → is_negative k x ≡ true → x < 2 ^ k → signed k x ≡ neg_ℤ (pos (magnitude k x))
signed_negative k x e h =
    let size : magnitude k x ≡ 2 ^ k - x = ap (λ b. if b then 2 ^ k - x else x) e in
    let opposite : negsuc (2 ^ k - 1 - x) ≡ neg_ℤ (pos (2 ^ k - x)) = omega (arith, ints) in
    signed_of_negative k x e h ∙ opposite ∙ ap (λ n. neg_ℤ (pos n)) (sym size)

pub signed_positive : (k x : ℕ) → is_negative k x ≡ false → signed k x ≡ pos (magnitude k x)
signed_positive k x e = signed_of_positive k x e ∙ ap pos (sym (ap (λ b. if b then 2 ^ k - x else x) e))

pub magnitude_of_negative : (k x : ℕ) → is_negative k x ≡ true → magnitude k x ≡ 2 ^ k - x
magnitude_of_negative k x e = ap (λ b. if b then 2 ^ k - x else x) e

pub magnitude_of_positive : (k x : ℕ) → is_negative k x ≡ false → magnitude k x ≡ x
magnitude_of_positive k x e = ap (λ b. if b then 2 ^ k - x else x) e

pub is_positive_below : (k x : ℕ) → x < 2 ^ (k - 1) → is_negative k x ≡ false
is_positive_below k x h = grind (arith, nat_tests)

pub is_negative_from : (k x : ℕ) → 2 ^ (k - 1) ≤ x → is_negative k x ≡ true
is_negative_from k x h = grind (arith, nat_tests)

-- the word of the negative of a number
pub negated_zero : (k : ℕ) → negated k 0 ≡ 0
negated_zero k = ap (λ n. n % 2 ^ k) (omega arith) ∙ mod_self (2 ^ k)

pub negated_is : (k n : ℕ) → 0 < n → n ≤ 2 ^ k → negated k n ≡ 2 ^ k - n
negated_is k n some fits =
    let below : 2 ^ k - n < 2 ^ k = omega arith in
    mod-eq_of_lt below
