-- Paths through code: to where a register is read that none on the way makes.
use Rattle.std.proofs.Common.{◌≡◌, ◌⊎◌, inl, inr, ⊎_elim, ℕ, zero, suc, ◌+◌, ◌<◌, ◌≤◌, sym, ◌∙◌, subst, arith}
use Rattle.std.proofs.Common.{true, false, List, [], ◌∷◌, length, Some}
use Rattle.std.specs.Prelude.{slice_get}
use Rattle.std.proofs.lemmas.Bool.{both_ways}
use Rattle.std.proofs.lemmas.Option.{same_Some}
use Rattle.flat_code.specs.declared.instruction.FlatInstruction.{FlatInstruction}
use Rattle.flat_code.specs.declared.function.FlatProgram.{FlatProgram}
use Rattle.flat_code.specs.Calls.{function_in}
use Rattle.flat_code.specs.Meaning.{results_of}
use Rattle.flat_code.specs.Routines.Routine.{HasAt}
use Rattle.reg_plan.specs.Effects.{read_by, is_read, made_by, is_among, Leads}
use Rattle.image_laws.proofs.Plans.Flow.{Registers, PassesEnd, Flow, Makes, Behind, sources_read}
use Rattle.image_laws.proofs.Plans.Flow.{behind_made, onward, end_first}

module _ (p : FlatProgram) (f : ℕ) (gives : results_of (function_in p f) ≤ 1) (body : List FlatInstruction) where
  -- within so many steps a register is read that none on the way makes
  abbrev pub ReadWithin : (steps place y : ℕ) → Type 0
  ReadWithin zero pc y = ⊥
  ReadWithin (suc k) pc y =
      (i : FlatInstruction) × (slice_get body pc ≡ Some i)
      × ((is_read (read_by p f i) y ≡ true)
      ⊎ ((is_among (made_by p i) y ≡ false) × (q : ℕ) × Leads i pc q × ReadWithin k q y))

  pub longer : (k pc y : ℕ) → ReadWithin k pc y → ReadWithin (suc k) pc y
  longer zero pc y h = absurd h
  longer (suc k) pc y h = (h.0, h.1, ⊎_elim inl (λ r. inr (r.0, r.1, r.2, longer k r.1 y r.3)) h.2)

  -- a path from the first instruction of code: it is to a register that the code gets, or comes to its end
  abbrev pub Gets : (last : Type 0) → (R : Registers) → List FlatInstruction → (steps place y : ℕ) → Type 0
  Gets T R is k pc y =
      R y ⊎ ((Makes p f gives is y → ⊥)
      × (ReadWithin k (pc + length is) y ⊎ (T × ReadWithin k (pc + length is + 1) y)))

  gets_longer : (T : Type 0) (R : Registers) (is : List FlatInstruction) (k pc y : ℕ) → Gets T R is k pc y
      → Gets T R is (suc k) pc y
  gets_longer T R is k pc y h =
      ⊎_elim inl (λ g. inr (
        g.0,
        ⊎_elim (λ r. inl (longer k (pc + length is) y r))
            (λ r. inr (r.0, longer k (pc + length is + 1) y r.1)) g.1,
      )) h

  behind : (T : Type 0) (P R : Registers) (i : FlatInstruction) (is : List FlatInstruction) (k pc y : ℕ)
      → Flow p f gives T P R (i ∷ is) → (is_among (made_by p i) y ≡ true → ⊥)
      → Gets T (Behind p f gives R i) is k (pc + 1) y → Gets T R (i ∷ is) k pc y
  behind T P R i is k pc y h not_made g =
      let a : pc + 1 + length is ≡ pc + length (i ∷ is) = omega arith in
      let b : pc + 1 + length is + 1 ≡ pc + length (i ∷ is) + 1 = omega arith in
      ⊎_elim
      (λ r. ⊎_elim inl (λ m. absurd (not_made m)) (behind_made p f gives P R i y h.1 r))
      (λ n. inr (
        (λ m. ⊎_elim not_made n.0 m),
        ⊎_elim (λ r. inl (subst (λ z. ReadWithin k z y) a r)) (λ r. inr (r.0, subst (λ z. ReadWithin k z y) b r.1)) n.1,
      )) g

  -- of the code behind the first instruction
  abbrev Rest : (last : Type 0) → (P : Registers) → List FlatInstruction → (steps place y : ℕ) → Type 1
  Rest T P is k pc y =
      (S : Registers) → Flow p f gives T P S is
      → ReadWithin k pc y ⊎ (PassesEnd T is × ReadWithin k (pc + 1) y) → Gets T S is k pc y

  step : (T : Type 0) (P R : Registers) (i : FlatInstruction) (is : List FlatInstruction) (k pc y : ℕ)
      → Flow p f gives T P R (i ∷ is) → slice_get body pc ≡ Some i → Rest T P is k (pc + 1) y
      → ReadWithin (suc k) pc y → Gets T R (i ∷ is) k pc y
  step T P R i is k pc y h at rest path =
      let same = same_Some path.0 i (sym path.1 ∙ at) in
      ⊎_elim
      (λ e. inl (sources_read p f gives R i y h.0 (subst (λ z. is_read (read_by p f z) y ≡ true) same e)))
      (λ on.
      let not_made : is_among (made_by p i) y ≡ true → ⊥ =
      both_ways (is_among (made_by p i) y) (subst (λ z. is_among (made_by p z) y ≡ false) same on.0) in
      behind T P R i is k pc y h not_made
      (rest (Behind p f gives R i) h.3 (⊎_elim
      (λ e. inl (subst (λ z. ReadWithin k z y) e on.3))
      (λ e. let two : on.1 ≡ pc + 1 + 1 = omega (arith, e.0) in inr (e.1, subst (λ z. ReadWithin k z y) two on.3))
      (onward p f gives T R i is pc on.1 h.0 h.2 (subst (λ z. Leads z pc on.1) same on.2))))) path.2

  through : (T : Type 0) (P R : Registers) (is : List FlatInstruction) (k pc y : ℕ) → Flow p f gives T P R is
      → HasAt body pc is → ReadWithin k pc y ⊎ (PassesEnd T is × ReadWithin k (pc + 1) y) → Gets T R is k pc y
  through T P R [] k pc y h has (inl path) =
      let e : pc ≡ pc + 0 = omega arith in
      inr ((λ m. m), inl (subst (λ z. ReadWithin k z y) e path))
  through T P R [] k pc y h has (inr path) =
      let e : pc + 1 ≡ pc + 0 + 1 = omega arith in
      inr ((λ m. m), inr (path.0, subst (λ z. ReadWithin k z y) e path.1))
  through T P R (i ∷ is) zero pc y h has (inl path) = absurd path
  through T P R (i ∷ is) (suc k) pc y h has (inl path) =
      gets_longer T R (i ∷ is) k pc y
      (step T P R i is k pc y h has.0 (λ S g r. through T P S is k (pc + 1) y g has.1 r) path)
  through T P R (i ∷ is) k pc y h has (inr path) =
      behind T P R i is k pc y h (end_first p f gives T i is y path.0)
      (through T P (Behind p f gives R i) is k (pc + 1) y h.3 has.1 (inl path.1))

  -- one step at least is taken
  pub through_list : (T : Type 0) (P R : Registers) (is : List FlatInstruction) → 0 < length is → (k pc y : ℕ)
      → Flow p f gives T P R is → HasAt body pc is → ReadWithin (suc k) pc y → Gets T R is k pc y
  through_list T P R [] some k pc y h has path = absurd (omega arith)
  through_list T P R (i ∷ is) some k pc y h has path =
      step T P R i is k pc y h has.0 (λ S g r. through T P S is k (pc + 1) y g has.1 r) path

  pub through_all : (T : Type 0) (P R : Registers) (is : List FlatInstruction) (k pc y : ℕ) → Flow p f gives T P R is
      → HasAt body pc is → ReadWithin k pc y → Gets T R is k pc y
  through_all T P R is k pc y h has path = through T P R is k pc y h has (inl path)
