-- Nodes from which all paths come to instructions that need registers alone which are given, or which an instruction on the
-- path has entered.
use Rattle.std.proofs.Common.{◌≡◌, ◌⊎◌, inl, inr, ⊎_elim, ℕ, zero, suc, List, Some, sym, subst}
use Rattle.std.specs.Prelude.{slice_get}
use Rattle.tac_ir.specs.declared.instruction.Instruction.{Instruction}
use Rattle.tac_ir.specs.Edges.{LeadsTo}
use Rattle.image_laws.specs.Plans.Assignment.{Registers, IsOneOf}

module _ (code : List Instruction) (needs enters : Instruction → List ℕ) where
  abbrev pub Also : Registers → Instruction → Registers
  Also B i y = B y ⊎ IsOneOf (enters i) y

  -- within so many steps
  abbrev pub Along : (steps : ℕ) → Registers → (node : ℕ) → Type 0
  Along zero B n = Unit {0}
  Along (suc k) B n =
      (i : Instruction) × (slice_get code n ≡ Some i) × ((y : ℕ) → IsOneOf (needs i) y → B y)
      × ((m : ℕ) → LeadsTo i m → Along k (Also B i) m)

  pub more : (k : ℕ) (B C : Registers) (n : ℕ) → ((y : ℕ) → B y → C y) → Along k B n → Along k C n
  more zero B C n up h = tt
  more (suc k) B C n up h = (
    h.0,
    h.1,
    λ y r. up y (h.2 y r),
    λ m l. more k (Also B h.0) (Also C h.0) m (λ y a. ⊎_elim (λ b. inl (up y b)) inr a) (h.3 m l),
  )

  pub fewer : (k : ℕ) (B : Registers) (n : ℕ) → Along (suc k) B n → Along k B n
  fewer zero B n h = tt
  fewer (suc k) B n h = (h.0, h.1, h.2, λ m l. fewer k (Also B h.0) m (h.3 m l))

  pub stepped : (i : Instruction) (k : ℕ) (B : Registers) (n : ℕ) → slice_get code n ≡ Some i
      → ((y : ℕ) → IsOneOf (needs i) y → B y) → ((m : ℕ) → LeadsTo i m → Along k (Also B i) m) → Along (suc k) B n
  stepped i k B n at has on = (i, at, has, on)

  -- an instruction with one successor
  pub along : (i : Instruction) (k : ℕ) (B C : Registers) (n m : ℕ) → slice_get code n ≡ Some i
      → ((y : ℕ) → IsOneOf (needs i) y → B y) → ((x : ℕ) → LeadsTo i x → (x ≡ m) ⊎ ⊥)
      → ((y : ℕ) → C y → Also B i y) → Along k C m → Along k B n
  along i zero B C n m at has one up h = tt
  along i (suc k) B C n m at has one up h =
      stepped i k B n at has
      (λ x l. ⊎_elim (λ e. subst (Along k (Also B i)) (sym e) (fewer k (Also B i) m (more (suc k) C (Also B i) m up h)))
      (λ e. absurd e) (one x l))

  -- one that enters nothing, with one successor and with two
  pub goes : (i : Instruction) (k : ℕ) (B : Registers) (n m : ℕ) → slice_get code n ≡ Some i
      → ((y : ℕ) → IsOneOf (needs i) y → B y) → ((x : ℕ) → LeadsTo i x → (x ≡ m) ⊎ ⊥) → Along k B m → Along k B n
  goes i k B n m at has one h = along i k B B n m at has one (λ y b. inl b) h

  pub parts : (i : Instruction) (k : ℕ) (B : Registers) (n a b : ℕ) → slice_get code n ≡ Some i
      → ((y : ℕ) → IsOneOf (needs i) y → B y) → ((x : ℕ) → LeadsTo i x → (x ≡ a) ⊎ ((x ≡ b) ⊎ ⊥)) → Along k B a
      → Along k B b → Along k B n
  parts i zero B n a b at has two h h' = tt
  parts i (suc k) B n a b at has two h h' =
      let up = λ (m : ℕ) (g : Along (suc k) B m).
      fewer k (Also B i) m (more (suc k) B (Also B i) m (λ y b. inl b) g) in
      stepped i k B n at has
      (λ x l. ⊎_elim (λ e. subst (Along k (Also B i)) (sym e) (up a h))
      (λ r. ⊎_elim (λ e. subst (Along k (Also B i)) (sym e) (up b h')) (λ e. absurd e) r) (two x l))
