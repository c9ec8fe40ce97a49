-- What is available is the complement of a least solution.
use Rattle.std.proofs.Common.{◌≡◌, ◌⊎◌, inl, inr, ⊎_elim, ℕ, true, false, sym, ◌∙◌}
use Rattle.std.proofs.lemmas.Bool.{cases_Bool, false≢true}
use Rattle.tac_ir.specs.declared.function.CodeFunction.{CodeFunction}
use Rattle.check_elim.specs.Paths.{Path, Start, On, IsKnownOn}
use Rattle.check_elim.specs.Facts.{Fact, Checks, ends, Ends}
use Rattle.check_elim.specs.Available.{IsAvailable, IsOpen, Begins, Stops, Flows}
use Rattle.check_elim.proofs.Deciding.{decide_checks}

module _ (function : CodeFunction) (f : Fact) where
  abbrev IsKnown : (n : ℕ) → Path function n → Type 0
  IsKnown = IsKnownOn function (Checks function f) (Ends function f)

  -- where a fact is open, there is a path on which it is not known
  open_path : (n : ℕ) → IsOpen function f n → (path : Path function n) × (IsKnown n path → ⊥)
  open_path _ Begins = (Start, λ h. h)
  open_path _ (Stops n m i path has to e none) = (On n m i path has to, ⊎_elim none (λ h. h.1 e))
  open_path _ (Flows n m i o has to none) =
      let q = open_path n o in
      (On n m i q.0 has to, ⊎_elim none (λ h. q.1 h.0))

  pub path_to : (n : ℕ) → IsOpen function f n → Path function n
  path_to n o = (open_path n o).0

  -- on each path it is known, or it is open
  known_or_open : (n : ℕ) (path : Path function n) → IsKnown n path ⊎ IsOpen function f n
  known_or_open _ Start = inr Begins
  known_or_open _ (On n m i path has to) =
      by (decide_checks function f i) (cases_Bool (ends function f i)) (known_or_open n path)
    where
      by : Checks function f i ⊎ (Checks function f i → ⊥) → (ends function f i ≡ true) ⊎ (ends function f i ≡ false)
          → IsKnown n path ⊎ IsOpen function f n → IsKnown m (On n m i path has to) ⊎ IsOpen function f m
      by (inl c) e o = inl (inl c)
      by (inr none) (inl e) o = inr (Stops n m i path has to e none)
      by (inr none) (inr e) (inl h) = inl (inr (h, λ t. false≢true (sym e ∙ t)))
      by (inr none) (inr e) (inr o) = inr (Flows n m i o has to none)

  pub open_is_not_available : (n : ℕ) → IsOpen function f n → IsAvailable function f n → ⊥
  open_is_not_available n o h = let q = open_path n o in q.1 (h q.0)

  pub closed_is_available : (n : ℕ) → (IsOpen function f n → ⊥) → IsAvailable function f n
  closed_is_available n none path = ⊎_elim (λ h. h) (λ o. absurd (none o)) (known_or_open n path)
