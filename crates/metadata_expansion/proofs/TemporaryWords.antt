-- Bits of words in a list, when a word is written.
use Rattle.std.proofs.Common.{◌≡◌, ◌≢◌, ℕ, zero, suc, [], ◌∷◌, get_or, ◌+◌, ◌*◌, ◌/◌, ◌%◌, ◌^◌, ◌<◌, ◌||◌, ◌==◌, max, ◌≤◌, nat_lt, List, length, Bool, true, false, nat_eq, refl, sym, ap, ◌∙◌, arith}
use Rattle.std.specs.Prelude.{slice_index, slice_set}
use Rattle.std.specs.Int.{bit_at}
use Rattle.std.proofs.Math.Nat.{div-add-mod}
use Rattle.std.proofs.lemmas.Bool.{eqb-true, eq-eqb, false≢true, ltb-true, ltb-false}
use Rattle.std.proofs.lemmas.List.{get_or-set_same, get_or-set_other}
use Rattle.std.proofs.lemmas.Nat.Bits.{bit_at_or, bit_at-lt, bit_at_above, same_from_bits}
use Rattle.std.specs.Int.RustNames.{bit_or}
use Rattle.metadata_expansion.specs.TemporarySets.{bit_in}

-- the bit of a number in the word that is written
pub bit_written : (ws : List ℕ) (k w y : ℕ) → k < length ws → y / 64 ≡ k
    → bit_in (slice_set ws k w) y ≡ bit_at w (y % 64)
bit_written ws k w y low e =
    ap (λ j. bit_at (slice_index (slice_set ws k w) j) (y % 64)) e
    ∙ ap (λ v. bit_at v (y % 64)) (get_or-set_same ws k w 0 low)

pub bit_kept : (ws : List ℕ) (k w y : ℕ) → y / 64 ≢ k → bit_in (slice_set ws k w) y ≡ bit_in ws y
bit_kept ws k w y other = ap (λ v. bit_at v (y % 64)) (get_or-set_other ws k (y / 64) w 0 other)

-- a number with the same word and the same bit is the same
same_number : (x y : ℕ) → y / 64 ≡ x / 64 → y % 64 ≡ x % 64 → y ≡ x
same_number x y word bit =
    let p = div-add-mod x 64 in
    let q = div-add-mod y 64 in
    omega (arith, p, q, word, bit)

-- where all other bits of the word stay, all other numbers do
pub others_kept : (ws : List ℕ) (x w y : ℕ) → x / 64 < length ws
    → ((i : ℕ) → i < 64 → i ≢ x % 64 → bit_at w i ≡ bit_at (slice_index ws (x / 64)) i) → y ≢ x
    → bit_in (slice_set ws (x / 64) w) y ≡ bit_in ws y
others_kept ws x w y low kept other = by (nat_eq (y / 64) (x / 64)) refl
  where
    by : (b : Bool) → nat_eq (y / 64) (x / 64) ≡ b → bit_in (slice_set ws (x / 64) w) y ≡ bit_in ws y
    by true h =
        let word : y / 64 ≡ x / 64 = eqb-true (y / 64) (x / 64) h in
        bit_written ws (x / 64) w y low word
        ∙ kept (y % 64) (omega arith) (λ bit. other (same_number x y word bit))
        ∙ ap (λ j. bit_at (slice_index ws j) (y % 64)) (sym word)
    by false h = bit_kept ws (x / 64) w y (λ word. false≢true (sym h ∙ eq-eqb (y / 64) (x / 64) word))

-- a bit of either of two words
pub bit_of_both : (a b i : ℕ) → (bit_at (bit_or a b) i == 1) ≡ (bit_at a i == 1 || bit_at b i == 1)
bit_of_both a b i = ap (λ n. n == 1) (bit_at_or a b i) ∙ by (bit_at a i) (bit_at b i) (bit_at-lt a i) (bit_at-lt b i)
  where
    by : (x y : ℕ) → x < 2 → y < 2 → (max x y == 1) ≡ (x == 1 || y == 1)
    by zero zero p q = refl
    by zero (suc zero) p q = refl
    by (suc zero) zero p q = refl
    by (suc zero) (suc zero) p q = refl
    by zero (suc (suc y)) p q = absurd (omega (arith, q))
    by (suc zero) (suc (suc y)) p q = absurd (omega (arith, q))
    by (suc (suc x)) y p q = absurd (omega (arith, p))

-- one word has the bits of another where both have together what it has
pub has_bits : (a b i : ℕ) → bit_or a b ≡ b → bit_at a i ≡ 1 → bit_at b i ≡ 1
has_bits a b i e h =
    let m : bit_at b i ≡ max (bit_at a i) (bit_at b i) = ap (λ n. bit_at n i) (sym e) ∙ bit_at_or a b i in
    let n : bit_at b i ≡ max 1 (bit_at b i) = m ∙ ap (λ x. max x (bit_at b i)) h in
    let low = bit_at-lt b i in
    omega (arith, n, low)

pub together : (a b : ℕ) → a < 2 ^ 64 → b < 2 ^ 64 → ((i : ℕ) → i < 64 → bit_at a i ≡ 1 → bit_at b i ≡ 1)
    → bit_or a b ≡ b
together a b la lb h = same_from_bits (bit_or a b) b (λ i. bit_at_or a b i ∙ at i (nat_lt i 64) refl)
  where
    most : (x y : ℕ) → x < 2 → y < 2 → (x ≡ 1 → y ≡ 1) → max x y ≡ y
    most zero y p q f = omega arith
    most (suc zero) y p q f = let e : y ≡ 1 = f refl in omega (arith, e)
    most (suc (suc x)) y p q f = absurd (omega (arith, p))

    at : (i : ℕ) (low : Bool) → nat_lt i 64 ≡ low → max (bit_at a i) (bit_at b i) ≡ bit_at b i
    at i true e = most (bit_at a i) (bit_at b i) (bit_at-lt a i) (bit_at-lt b i) (h i (ltb-true i 64 e))
    at i false e =
        let past : 64 ≤ i = ltb-false i 64 e in
        let x = bit_at_above a 64 i la past in
        let y = bit_at_above b 64 i lb past in
        omega (arith, x, y)

-- the number of a bit of a word
pub at_word : (ws : List ℕ) (k i : ℕ) → i < 64 → bit_in ws (64 * k + i) ≡ bit_at (slice_index ws k) i
at_word ws k i low =
    let p = div-add-mod (64 * k + i) 64 in
    let word : (64 * k + i) / 64 ≡ k = omega (arith, p, low) in
    let bit : (64 * k + i) % 64 ≡ i = omega (arith, p, low, word) in
    ap (λ j. bit_at (slice_index ws j) ((64 * k + i) % 64)) word ∙ ap (bit_at (slice_index ws k)) bit

-- what stands in a list does so whatever stands for what does not
pub any_default : (ws : List ℕ) (k d : ℕ) → k < length ws → get_or ws k d ≡ slice_index ws k
any_default [] k d low = absurd (omega (arith, low))
any_default (w ∷ ws) zero d low = refl
any_default (w ∷ ws) (suc k) d low = any_default ws k d (omega (arith, low))

-- a word becomes one with the bits of two
pub bit_joined : (ws vs : List ℕ) (k w y : ℕ) → k < length ws → y / 64 ≡ k
    → w ≡ bit_or (slice_index ws k) (slice_index vs k)
    → (bit_in (slice_set ws k w) y == 1) ≡ (bit_in ws y == 1 || bit_in vs y == 1)
bit_joined ws vs k w y low e is =
    ap (λ b. b == 1) (bit_written ws k w y low e ∙ ap (λ v. bit_at v (y % 64)) is)
    ∙ bit_of_both (slice_index ws k) (slice_index vs k) (y % 64)
    ∙ ap (λ j. bit_at (slice_index ws j) (y % 64) == 1 || bit_at (slice_index vs j) (y % 64) == 1) (sym e)

-- what holds of the bits of each word before one, and of those of that word, holds of those before the next
pub each_word : (ws vs : List ℕ) (k : ℕ)
    → ((y : ℕ) → y / 64 < k → (bit_in ws y == 1) ≡ true → (bit_in vs y == 1) ≡ true)
    → ((i : ℕ) → i < 64 → bit_at (slice_index ws k) i ≡ 1 → bit_at (slice_index vs k) i ≡ 1) → (y : ℕ)
    → y / 64 < k + 1 → (bit_in ws y == 1) ≡ true → (bit_in vs y == 1) ≡ true
each_word ws vs k before here y low h = by (nat_lt (y / 64) k) refl
  where
    by : (b : Bool) → nat_lt (y / 64) k ≡ b → (bit_in vs y == 1) ≡ true
    by true e = before y (ltb-true (y / 64) k e) h
    by false e =
        let word : y / 64 ≡ k = let past = ltb-false (y / 64) k e in omega (arith, past, low) in
        let has : bit_at (slice_index ws k) (y % 64) ≡ 1 =
        ap (λ j. bit_at (slice_index ws j) (y % 64)) (sym word) ∙ eqb-true (bit_in ws y) 1 h in
        eq-eqb (bit_in vs y) 1 (ap (λ j. bit_at (slice_index vs j) (y % 64)) word
        ∙ here (y % 64) (omega arith) has)

-- and what holds of all numbers holds of the bits of a word
pub of_word : (ws vs : List ℕ) (k : ℕ) → ((y : ℕ) → (bit_in ws y == 1) ≡ true → (bit_in vs y == 1) ≡ true) → (i : ℕ)
    → i < 64 → bit_at (slice_index ws k) i ≡ 1 → bit_at (slice_index vs k) i ≡ 1
of_word ws vs k all i low h =
    sym (at_word vs k i low) ∙ eqb-true _ 1 (all (64 * k + i) (eq-eqb _ 1 (at_word ws k i low ∙ h)))

-- the numbers of the words before one, of that word, and of those behind it
pub joined_more : (ws us vs : List ℕ) (k w : ℕ) → k < length ws → w ≡ bit_or (slice_index ws k) (slice_index vs k)
    → ((y : ℕ) → y / 64 < k → (bit_in ws y == 1) ≡ (bit_in us y == 1 || bit_in vs y == 1))
    → ((y : ℕ) → k ≤ y / 64 → (bit_in ws y == 1) ≡ (bit_in us y == 1)) → (y : ℕ) → y / 64 < k + 1
    → (bit_in (slice_set ws k w) y == 1) ≡ (bit_in us y == 1 || bit_in vs y == 1)
joined_more ws us vs k w inside is done left y low = by (nat_lt (y / 64) k) refl
  where
    by : (b : Bool) → nat_lt (y / 64) k ≡ b
        → (bit_in (slice_set ws k w) y == 1) ≡ (bit_in us y == 1 || bit_in vs y == 1)
    by true e =
        let before = ltb-true (y / 64) k e in
        ap (λ n. n == 1) (bit_kept ws k w y (λ same. let p : y / 64 < y / 64 = omega (arith, before, same) in
        omega (arith, p))) ∙ done y before
    by false e =
        let past = ltb-false (y / 64) k e in
        bit_joined ws vs k w y inside (omega (arith, past, low)) is
        ∙ ap (λ b. b || bit_in vs y == 1) (left y past)
