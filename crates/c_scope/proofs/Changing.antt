-- One element of a list changed, in code and as defined.
use Rattle.std.proofs.Common.{◌≡◌, ℕ, zero, suc, ◌<◌, ◌≤◌, List, [], ◌∷◌, map, length, get_or, slice_set, refl, ap, ◌∙◌}
use Rattle.std.proofs.Common.{arith}
use Rattle.c_scope.specs.Structures.{changed}

module _ {A B : Type 0} (view : B → A) (change : A → A) where
  pub changed_element : (xs : List B) (n : ℕ) (x y : B) → n < length xs → x ≡ get_or xs n x → view y ≡ change (view x)
      → map view (slice_set xs n y) ≡ changed n change (map view xs)
  changed_element [] n x y inside at is = absurd (omega arith)
  changed_element (z ∷ xs) zero x y inside at is = ap (λ w. w ∷ map view xs) (is ∙ ap (λ w. change (view w)) at)
  changed_element (z ∷ xs) (suc n) x y inside at is =
      ap (λ ws. view z ∷ ws) (changed_element xs n x y (omega arith) at is)

  pub nothing_changed : (xs : List B) (n : ℕ) → length xs ≤ n → map view xs ≡ changed n change (map view xs)
  nothing_changed [] n beyond = refl
  nothing_changed (z ∷ xs) zero beyond = absurd (omega arith)
  nothing_changed (z ∷ xs) (suc n) beyond = ap (λ ws. view z ∷ ws) (nothing_changed xs n (omega arith))

-- a list that is its own view
module _ {A : Type 0} (change : A → A) where
  pub replaced : (xs : List A) (n : ℕ) (y : A) → n < length xs → y ≡ change (get_or xs n y)
      → slice_set xs n y ≡ changed n change xs
  replaced [] n y inside is = absurd (omega arith)
  replaced (z ∷ xs) zero y inside is = ap (λ w. w ∷ xs) is
  replaced (z ∷ xs) (suc n) y inside is = ap (λ ws. z ∷ ws) (replaced xs n y (omega arith) is)

  pub unreplaced : (xs : List A) (n : ℕ) → length xs ≤ n → xs ≡ changed n change xs
  unreplaced [] n beyond = refl
  unreplaced (z ∷ xs) zero beyond = absurd (omega arith)
  unreplaced (z ∷ xs) (suc n) beyond = ap (λ ws. z ∷ ws) (unreplaced xs n (omega arith))
