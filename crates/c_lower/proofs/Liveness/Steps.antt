-- Which temporaries may be live at a node, by those that may be live where its instruction leads.
use Rattle.std.proofs.Common.{◌≡◌, ◌⊎◌, inl, inr, ⊎_elim, ℕ, zero, suc, true, false, List, Some}
use Rattle.std.proofs.Common.{sym, ◌∙◌, subst}
use Rattle.std.specs.Prelude.{slice_get, ◌==◌, ◌||◌}
use Rattle.std.proofs.lemmas.Bool.{eqb-true, eqb-false, or_cases}
use Rattle.std.proofs.lemmas.Option.{same_Some}
use Rattle.tac_ir.specs.declared.instruction.Instruction.{Instruction}
use Rattle.tac_ir.specs.Edges.{LeadsTo}
use Rattle.c_lower.specs.Liveness.Liveness.{LiveWithin, reads, writes}

-- some temporaries
abbrev pub Temporaries : Type 1
Temporaries = ℕ → Type 0

abbrev pub None_of : Temporaries
None_of y = ⊥

-- one more
abbrev pub And : Temporaries → ℕ → Temporaries
And P d y = P y ⊎ (y ≡ d)

module _ (code : List Instruction) where
  -- only these may be live at a node within so many steps
  pub record Only (P : Temporaries) (k n : ℕ) : Type 0 where
    pub at : (y : ℕ) → LiveWithin code k n y → P y

  pub fewer : (k n y : ℕ) → LiveWithin code k n y → LiveWithin code (suc k) n y
  unfolding LiveWithin
  fewer zero n y l = absurd l
  fewer (suc k) n y l = (l.0, l.1, ⊎_elim (λ r. inl r) (λ w. inr (w.0, w.1, w.2, fewer k w.1 y w.3)) l.2)

  pub only_fewer : (P : Temporaries) (k n : ℕ) → Only P (suc k) n → Only P k n
  only_fewer P k n h = record { at = λ y l. h.at y (fewer k n y l) }

  pub weaken : (P Q : Temporaries) (k n : ℕ) → ((y : ℕ) → P y → Q y) → Only P k n → Only Q k n
  weaken P Q k n f h = record { at = λ y l. f y (h.at y l) }

  -- a step: what the instruction reads, and what is live behind it and not written
  pub stepped : (P Q : Temporaries) (i : Instruction) (k n : ℕ) → slice_get code n ≡ Some i
      → ((y : ℕ) → reads i y ≡ true → P y) → ((y : ℕ) → Q y → writes i y ≡ false → P y)
      → ((m : ℕ) → LeadsTo i m → Only Q k m) → Only P (suc k) n
  unfolding LiveWithin
  stepped P Q i k n holds read kept on = record {
    at = λ y l. let same : l.0 ≡ i = same_Some l.0 i (sym l.1 ∙ holds) in
        ⊎_elim (λ r. read y (subst (λ j. reads j y ≡ true) same r))
        (λ w. kept y ((on w.1 (subst (λ j. LeadsTo j w.1) same w.2)).at y w.3)
        (subst (λ j. writes j y ≡ false) same w.0)) l.2;
  }

  pub nothing_yet : (P : Temporaries) (n : ℕ) → Only P zero n
  unfolding LiveWithin
  nothing_yet P n = record { at = λ y l. absurd l }

  -- an instruction with one successor
  pub along : (P Q : Temporaries) (i : Instruction) (k n m : ℕ) → slice_get code n ≡ Some i
      → ((y : ℕ) → reads i y ≡ true → P y) → ((y : ℕ) → Q y → writes i y ≡ false → P y)
      → ((x : ℕ) → LeadsTo i x → x ≡ m) → Only Q k m → Only P k n
  along P Q i zero n m holds read kept one h = nothing_yet P n
  along P Q i (suc k) n m holds read kept one h =
      stepped P Q i k n holds read kept (λ x l. subst (Only Q k) (sym (one x l)) (only_fewer Q k m h))

  -- and with two
  pub either : (P Q : Temporaries) (i : Instruction) (k n a b : ℕ) → slice_get code n ≡ Some i
      → ((y : ℕ) → reads i y ≡ true → P y) → ((y : ℕ) → Q y → P y)
      → ((x : ℕ) → LeadsTo i x → (x ≡ a) ⊎ (x ≡ b)) → Only Q k a → Only Q k b → Only P k n
  either P Q i zero n a b holds read kept two h h' = nothing_yet P n
  either P Q i (suc k) n a b holds read kept two h h' =
      stepped P Q i k n holds read (λ y q w. kept y q)
      (λ x l. ⊎_elim (λ e. subst (Only Q k) (sym e) (only_fewer Q k a h))
      (λ e. subst (Only Q k) (sym e) (only_fewer Q k b h')) (two x l))

-- ---- membership

pub only_one : (x m : ℕ) → (x ≡ m) ⊎ ⊥ → x ≡ m
only_one x m (inl e) = e
only_one x m (inr e) = absurd e

pub one_of_two : (x a b : ℕ) → (x ≡ a) ⊎ ((x ≡ b) ⊎ ⊥) → (x ≡ a) ⊎ (x ≡ b)
one_of_two x a b (inl e) = inl e
one_of_two x a b (inr (inl e)) = inr e
one_of_two x a b (inr (inr e)) = absurd e

-- what is not written, of some temporaries and the written one, is one of the others
pub not_written : (P : Temporaries) (d y : ℕ) → P y ⊎ (y ≡ d) → (y == d) ≡ false → P y
not_written P d y (inl p) e = p
not_written P d y (inr same) e = absurd (eqb-false y d e same)

pub is_this : (P : Temporaries) (d y : ℕ) → (y == d) ≡ true → P y ⊎ (y ≡ d)
is_this P d y e = inr (eqb-true y d e)

pub one_of_these : (P : Temporaries) (a b y : ℕ) → ((y == a) || (y == b)) ≡ true → (P y ⊎ (y ≡ a)) ⊎ (y ≡ b)
one_of_these P a b y e =
    ⊎_elim (λ h. inl (inr (eqb-true y a h))) (λ h. inr (eqb-true y b h)) (or_cases (y == a) (y == b) e)
