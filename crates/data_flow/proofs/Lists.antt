-- Elements of lists by their places.
use Rattle.std.proofs.Common.{◌≡◌, ℕ, zero, suc, ◌+◌, ◌<◌, ◌⊎◌, inl, inr, List, [], ◌∷◌, ◌++◌, length, get_or, Some}
use Rattle.std.proofs.Common.{Bool, true, false, refl, sym, ap, ◌∙◌, subst, arith, not, if◌then◌else◌}
use Rattle.std.specs.Prelude.{slice_get, slice_set, nat_eq}
use Rattle.std.proofs.lemmas.Bool.{eq-eqb}
use Rattle.data_flow.specs.NodeSets.{others}

-- what stands in a list stands there when one more comes to its end
pub at_front : {X : Type 0} (xs : List X) (y : X) (k : ℕ) (x : X) → slice_get xs k ≡ Some x
    → slice_get (xs ++ y ∷ []) k ≡ Some x
at_front [] y k x h = cc
at_front (z ∷ zs) y zero x h = h
at_front (z ∷ zs) y (suc k) x h = at_front zs y k x h

pub at_end : {X : Type 0} (xs : List X) (y : X) → slice_get (xs ++ y ∷ []) (length xs) ≡ Some y
at_end [] y = refl
at_end (z ∷ zs) y = at_end zs y

pub at_cases : {X : Type 0} (xs : List X) (y : X) (k : ℕ) (x : X) → slice_get (xs ++ y ∷ []) k ≡ Some x
    → (slice_get xs k ≡ Some x) ⊎ (x ≡ y)
at_cases [] y zero x h = inr (let e : y ≡ x = cc in sym e)
at_cases [] y (suc k) x h = inl h
at_cases (z ∷ zs) y zero x h = inl h
at_cases (z ∷ zs) y (suc k) x h = at_cases zs y k x h

-- what holds of each element of a list and its place holds when one more of which it holds comes to the end
pub each_more : {X : Type 0} (P : ℕ → X → Type 0) (xs xs' : List X) (n : ℕ) (x : X) → length xs ≡ n
    → xs' ≡ xs ++ x ∷ [] → ((k : ℕ) (y : X) → slice_get xs k ≡ Some y → P k y) → P n x → (k : ℕ) (y : X)
    → slice_get xs' k ≡ Some y → P k y
each_more P xs xs' n x size e old new k y h = by P xs x (λ z w q. old z w q) (subst (λ m. P m x) (sym size) new) k y
    (ap (λ l. slice_get l k) (sym e) ∙ h)
  where
    by : {X : Type 0} (P : ℕ → X → Type 0) (xs : List X) (x : X) → ((k : ℕ) (y : X) → slice_get xs k ≡ Some y → P k y)
        → P (length xs) x → (k : ℕ) (y : X) → slice_get (xs ++ x ∷ []) k ≡ Some y → P k y
    by P [] x old new zero y h = let e : x ≡ y = cc in subst (P 0) e new
    by P [] x old new (suc k) y h = old (suc k) y h
    by P (z ∷ zs) x old new zero y h = old 0 y h
    by P (z ∷ zs) x old new (suc k) y h =
        by (λ m. P (suc m)) zs x (λ m w q. old (suc m) w q) new k y h

-- how many numbers are others, when one is written
pub others-set : (c : ℕ) (xs : List ℕ) (i : ℕ) → i < length xs
    → others c (slice_set xs i c) + (if not (nat_eq (get_or xs i 0) c) then 1 else 0) ≡ others c xs
others-set c [] i lt = absurd (omega arith)
others-set c (x ∷ xs) zero lt = rw (eq-eqb c c refl) (by (nat_eq x c))
  where
    by : (b : Bool) → (0 + others c xs) + (if not b then 1 else 0) ≡ (if b then 0 else 1) + others c xs
    by true = omega arith
    by false = omega arith
others-set c (x ∷ xs) (suc i) lt = by (others-set c xs i (omega arith))
  where
    by : others c (slice_set xs i c) + (if not (nat_eq (get_or xs i 0) c) then 1 else 0) ≡ others c xs
        → ((if nat_eq x c then 0 else 1) + others c (slice_set xs i c))
        + (if not (nat_eq (get_or xs i 0) c) then 1 else 0) ≡ (if nat_eq x c then 0 else 1) + others c xs
    by h = omega (arith, h)
