-- Numbers below a bound that all differ are no more than the bound.
use Rattle.std.proofs.Common.{◌≡◌, ◌≢◌, ℕ, zero, suc, ◌<◌, ◌≤◌, ◌⊎◌, inl, inr, ⊎_elim, sym, ◌∙◌, subst, arith}
use Rattle.std.proofs.lemmas.Bool.{cases_eq, cases_lt}
use Rattle.flat_code.specs.Memory.{put}
use Rattle.flat_code.proofs.Stored.{put_same, put_other}

-- so many values of a function are below a bound, and no two are equal
pub record AreFew (n bound : ℕ) (f : ℕ → ℕ) : Type 0 where
  pub below : (i : ℕ) → i < n → f i < bound
  pub once : (i j : ℕ) → i < n → j < n → f i ≡ f j → i ≡ j

-- Where one of the values is the last number below the bound, the last value takes its place.
module _ (n k : ℕ) (f : ℕ → ℕ) (few : AreFew (suc n) (suc k) f) where
  abbrev moved : ℕ → ℕ
  moved i = put (λ x. x) k (f n) (f i)

  moved_last : (i : ℕ) → f i ≡ k → moved i ≡ f n
  moved_last i e = subst (λ x. put (λ y. y) k (f n) x ≡ f n) (sym e) (put_same (λ y. y) k (f n))

  moved_other : (i : ℕ) → f i ≢ k → moved i ≡ f i
  moved_other i ne = put_other (λ y. y) k (f n) (f i) ne

  fewer : AreFew n k moved
  fewer = record {
    below = λ i l. ⊎_elim
        (λ e. let at = few.below n (omega arith) in let same = moved_last i e in
        let ne : f n ≢ k = λ q. (let z = few.once n i (omega arith) (omega arith) (q ∙ sym e) in omega arith) in
        omega (arith, ne))
        (λ ne. let at = few.below i (omega arith) in let same = moved_other i ne in omega (arith, ne))
        (cases_eq (f i) k);
    once = λ i j il jl e. ⊎_elim
        (λ p. ⊎_elim (λ q. few.once i j (omega arith) (omega arith) (p ∙ sym q))
        (λ q. absurd (let z = few.once n j (omega arith) (omega arith) (sym (moved_last i p) ∙ e ∙ moved_other j q) in
        omega arith))
        (cases_eq (f j) k))
        (λ p. ⊎_elim (λ q. absurd (let z = few.once i n (omega arith) (omega arith)
        (sym (moved_other i p) ∙ e ∙ moved_last j q) in omega arith))
        (λ q. few.once i j (omega arith) (omega arith) (sym (moved_other i p) ∙ e ∙ moved_other j q))
        (cases_eq (f j) k))
        (cases_eq (f i) k);
  }

pub at_most : (n k : ℕ) (f : ℕ → ℕ) → AreFew n k f → n ≤ k
at_most zero k f few = omega arith
at_most (suc n) zero f few = absurd (let z = few.below n (omega arith) in omega arith)
at_most (suc n) (suc k) f few = let l = at_most n k (moved n k f few) (fewer n k f few) in omega arith

-- the same of a function that is there for the first numbers alone
pub at_most_of : (n bound : ℕ) (f : (i : ℕ) → i < n → ℕ) → ((i : ℕ) (l : i < n) → f i l < bound)
    → ((i j : ℕ) (l : i < n) (k : j < n) → f i l ≡ f j k → i ≡ j) → n ≤ bound
at_most_of n bound f below once = at_most n bound (λ i. value i (cases_lt i n)) (record {
  below = λ i l. below_by i l (cases_lt i n);
  once = λ i j l k e. once_by i j l k (cases_lt i n) (cases_lt j n) e;
})
  where
    value : (i : ℕ) → (i < n) ⊎ (n ≤ i) → ℕ
    value i (inl l) = f i l
    value i (inr g) = 0

    below_by : (i : ℕ) → i < n → (c : (i < n) ⊎ (n ≤ i)) → value i c < bound
    below_by i l (inl k) = below i k
    below_by i l (inr g) = absurd (omega arith)

    once_by : (i j : ℕ) → i < n → j < n → (c : (i < n) ⊎ (n ≤ i)) → (d : (j < n) ⊎ (n ≤ j)) → value i c ≡ value j d
        → i ≡ j
    once_by i j l k (inl a) (inl b) e = once i j a b e
    once_by i j l k (inl a) (inr g) e = absurd (omega arith)
    once_by i j l k (inr g) d e = absurd (omega arith)
