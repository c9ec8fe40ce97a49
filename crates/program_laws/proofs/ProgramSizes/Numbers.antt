-- Of several that have one number the first counts: over a range of numbers all that are found so are no more than all
-- there are.
use Rattle.std.proofs.Common.{◌≡◌, ℕ, zero, suc, ◌+◌, ◌≤◌, ◌<◌, ◌==◌, Bool, true, false, refl, List, [], ◌∷◌, ◌++◌}
use Rattle.std.proofs.Common.{arith, if◌then◌else◌}
use Rattle.std.proofs.lemmas.Bool.{eqb-true}
use Rattle.program_laws.specs.ProgramSizes.Sizes.{sum_by}

pub sum_added : {A : Type 0} (size : A → ℕ) (xs : List A) (x : A)
    → sum_by size (xs ++ x ∷ []) ≡ sum_by size xs + size x
sum_added size [] x = omega arith
sum_added size (y ∷ xs) x = omega (arith, sum_added size xs x)

-- the sum over a range
abbrev pub total : (g : ℕ → ℕ) → (first count : ℕ) → ℕ
total g n zero = 0
total g n (suc k) = g n + total g (suc n) k

pub total_at_most : (g h : ℕ → ℕ) → ((n : ℕ) → g n ≤ h n) → (n k : ℕ) → total g n k ≤ total h n k
total_at_most g h low n zero = omega arith
total_at_most g h low n (suc k) = omega (arith, low n, total_at_most g h low (suc n) k)

pub total_sum : (g h : ℕ → ℕ) (n k : ℕ) → total (λ i. g i + h i) n k ≡ total g n k + total h n k
total_sum g h n zero = omega arith
total_sum g h n (suc k) = omega (arith, total_sum g h (suc n) k)

pub total_nothing : (n k : ℕ) → total (λ i. 0) n k ≡ 0
total_nothing n zero = refl
total_nothing n (suc k) = omega (arith, total_nothing (suc n) k)

module _ (g : ℕ → ℕ) (m size : ℕ) where
  -- a size that stands at one number
  abbrev pub with_one : ℕ → ℕ
  with_one i = if i == m then size else g i

  behind_by : (b : Bool) (n : ℕ) → (n == m) ≡ b → m < n → (if b then size else g n) ≤ g n
  behind_by true n e low = let same = eqb-true n m e in absurd (omega arith)
  behind_by false n e low = omega arith

  behind : (n k : ℕ) → m < n → total with_one n k ≤ total g n k
  behind n zero low = omega arith
  behind n (suc k) low = omega (arith, behind_by (n == m) n refl low, behind (suc n) k (omega arith))

  here : (b : Bool) (n k : ℕ) → (n == m) ≡ b → total with_one (suc n) k ≤ size + total g (suc n) k
      → (if b then size else g n) + total with_one (suc n) k ≤ size + (g n + total g (suc n) k)
  here true n k e low =
      let same = eqb-true n m e in
      let rest = behind (suc n) k (omega arith) in omega arith
  here false n k e low = omega arith

  pub one_more : (n k : ℕ) → total with_one n k ≤ size + total g n k
  one_more n zero = omega arith
  one_more n (suc k) = here (n == m) n k refl (one_more (suc n) k)

-- what is found first
module _ {A : Type 0} (number : A → ℕ) (size : A → ℕ) where
  abbrev pub first_size : List A → ℕ → ℕ
  first_size [] n = 0
  first_size (x ∷ xs) n = if n == number x then size x else first_size xs n

  pub found_at_most : (xs : List A) (n k : ℕ) → total (first_size xs) n k ≤ sum_by size xs
  found_at_most [] n k = omega (arith, total_nothing n k)
  found_at_most (x ∷ xs) n k =
      omega (arith, one_more (first_size xs) (number x) (size x) n k, found_at_most xs n k)
