-- The function with which a run begins can be planned.
use Rattle.std.proofs.Common.{◌≡◌, ◌⊎◌, inr, ⊎_elim, ℕ, zero, suc, ◌+◌, ◌<◌, ◌≤◌, refl, sym, ◌∙◌, subst}
use Rattle.std.proofs.Common.{arith, true, [], ◌∷◌, Some}
use Rattle.std.specs.Prelude.{slice_get}
use Rattle.std.proofs.lemmas.Option.{same_Some, none-some}
use Rattle.addr_map.specs.Places.{MapSizes}
use Rattle.tac_ir.specs.declared.function.Tac.{Tac}
use Rattle.tac_ir.specs.Meaning.{function_in as code_in, line_in}
use Rattle.flat_code.specs.declared.instruction.FlatInstruction.{FlatInstruction}
use Rattle.flat_code.specs.declared.instruction.FlatInstruction.TheVariants as flat
use Rattle.flat_code.specs.declared.function.FlatProgram.{FlatProgram}
use Rattle.flat_code.specs.Calls.{function_in}
use Rattle.flat_code.specs.Meaning.{parameters_of, results_of}
use Rattle.metadata_plan.specs.Blocks.{room_in, entry_code}
use Rattle.metadata_plan.specs.Laid.{entry_of}
use Rattle.reg_plan.specs.Effects.{read_by, is_read, made_by, is_among, one, Leads}
use Rattle.reg_plan.specs.Needs.{ReadsAt, MakesAt, LeadsAt, IsNeeded, Read, Made, Before}
use Rattle.reg_plan.specs.Planned.{IsPlannable}
use Rattle.image_laws.specs.Propagation.Homes.{IsUsed, HasHomes}
use Rattle.image_laws.proofs.Plans.Blocks.{tests_flow}
use Rattle.image_laws.proofs.Plans.Flow.{Registers, Flow, none_has, one_has, reads_nothing, maker_onward, flow_names}

-- its one register
abbrev IsFirst : Registers
IsFirst y = y < 1

module _ (m : MapSizes) (t : Tac) (p : FlatProgram) (f : ℕ) (gives : results_of (function_in p f) ≤ 1)
    (takes_none : parameters_of (function_in p t.main) ≡ 0) (gives_one : results_of (function_in p t.main) ≡ 1) where
  entry_flow : Flow p f gives ⊥ IsFirst (λ y. ⊥) (entry_code m t)
  entry_flow =
      let none : (j : ℕ) → j < parameters_of (function_in p t.main) → ⊥ ⊎ (0 + j ≡ 0) =
      λ j lt. absurd (omega (arith, lt, takes_none)) in
      let first : IsFirst 0 = omega arith in (
        tt,
        tt,
        tt,
        (
          tt,
          tt,
          tt,
          tests_flow m p f gives IsFirst (λ y. ⊥) (room_in (code_in t t.main)) (line_in (code_in t t.main)) 0
              (flat.Call t.main 0 0 ∷ flat.Exit 0 ∷ []) first (none, (gives_one, first), tt, (inr refl, tt, tt, tt)),
        ),
      )

  named : (pc : ℕ) (x : FlatInstruction) (y : ℕ) → slice_get (entry_code m t) pc ≡ Some x
      → (is_read (read_by p f x) y ≡ true → y < 1) × (is_among (made_by p x) y ≡ true → y < 1)
  named pc x y e = flow_names p f gives ⊥ IsFirst (λ y. ⊥) (entry_code m t) pc x (λ z h. absurd h) entry_flow e y

  needed_first : (pc y : ℕ) → IsNeeded p f (entry_code m t) pc y → y < 1
  needed_first _ _ (Read pc y r) = (named pc r.0 y r.1).0 r.2
  needed_first _ _ (Made pc q y l r) = (named pc r.0 y r.1).1 r.2
  needed_first _ _ (Before pc q y l h not_made) = needed_first q y h

  -- ---- nothing is needed before the charge is put into it

  reads_none : (x i : FlatInstruction) (y : ℕ) → ((z : ℕ) → is_read (read_by p f i) z ≡ true → ⊥) → Some i ≡ Some x
      → is_read (read_by p f x) y ≡ true → ⊥
  reads_none x i y none e r = none y (subst (λ z. is_read (read_by p f z) y ≡ true) (sym (same_Some i x e)) r)

  reads_late : (pc y : ℕ) → ReadsAt p f (entry_code m t) pc y → 4 ≤ pc
  reads_late zero y r = absurd (reads_none r.0 flat.Turn y reads_nothing r.1 r.2)
  reads_late (suc zero) y r = absurd (reads_none r.0 flat.Turn y reads_nothing r.1 r.2)
  reads_late (suc (suc zero)) y r = absurd (reads_none r.0 flat.Turn y reads_nothing r.1 r.2)
  reads_late (suc (suc (suc zero))) y r = absurd (reads_none r.0 (flat.Charged 0) y reads_nothing r.1 r.2)
  reads_late (suc (suc (suc (suc pc)))) y r = omega arith

  makes_none : (x : FlatInstruction) (y : ℕ) → Some flat.Turn ≡ Some x → is_among (made_by p x) y ≡ true → ⊥
  makes_none x y e r =
      none_has y (subst (λ z. is_among (made_by p z) y ≡ true) (sym (same_Some flat.Turn x e)) r)

  makes_late : (pc y : ℕ) → MakesAt p (entry_code m t) pc y → 3 ≤ pc
  makes_late zero y r = absurd (makes_none r.0 y r.1 r.2)
  makes_late (suc zero) y r = absurd (makes_none r.0 y r.1 r.2)
  makes_late (suc (suc zero)) y r = absurd (makes_none r.0 y r.1 r.2)
  makes_late (suc (suc (suc pc))) y r = omega arith

  turn_next : (x : FlatInstruction) (pc q : ℕ) → Some flat.Turn ≡ Some x → Leads x pc q → q ≡ pc + 1
  turn_next x pc q e l =
      ⊎_elim (λ h. sym (same_Some (pc + 1) q h)) (λ h. absurd (none-some q h))
      (subst (λ z. Leads z pc q) (sym (same_Some flat.Turn x e)) l)

  -- behind the charge
  leads_late : (pc q : ℕ) → LeadsAt (entry_code m t) pc q → 4 ≤ q → 3 ≤ pc
  leads_late zero q l le = absurd (let h = turn_next l.0 0 q l.1 l.2 in omega (arith, h, le))
  leads_late (suc zero) q l le = absurd (let h = turn_next l.0 1 q l.1 l.2 in omega (arith, h, le))
  leads_late (suc (suc zero)) q l le = absurd (let h = turn_next l.0 2 q l.1 l.2 in omega (arith, h, le))
  leads_late (suc (suc (suc pc))) q l le = omega arith

  made_there : (y : ℕ) → y < 1 → MakesAt p (entry_code m t) 3 y
  made_there y lt =
      let same : 0 ≡ y = omega (arith, lt) in
      (flat.Charged 0, refl, subst (λ z. is_among (one 0) z ≡ true) same (one_has 0))

  needed_late : (pc y : ℕ) → IsNeeded p f (entry_code m t) pc y → 4 ≤ pc
  needed_late _ _ (Read pc y r) = reads_late pc y r
  needed_late _ _ (Made pc q y l r) =
      let late = makes_late pc y (r.0, r.1, r.2) in
      let same = same_Some r.0 l.0 (sym r.1 ∙ l.1) in
      let next = maker_onward p f gives l.0 y pc q (subst (λ z. is_among (made_by p z) y ≡ true) same r.2) l.2 in
      omega (arith, late, next)
  needed_late _ _ (Before pc q y l h not_made) =
      by pc (leads_late pc q l (needed_late q y h)) (needed_first q y h) not_made
    where
      by : (pc : ℕ) → 3 ≤ pc → y < 1 → (MakesAt p (entry_code m t) pc y → ⊥) → 4 ≤ pc
      by zero le lt none = absurd (omega (arith, le))
      by (suc zero) le lt none = absurd (omega (arith, le))
      by (suc (suc zero)) le lt none = absurd (omega (arith, le))
      by (suc (suc (suc zero))) le lt none = absurd (none (made_there y lt))
      by (suc (suc (suc (suc pc)))) le lt none = omega arith

  pub entry_plannable : IsPlannable p f (entry_of m t)
  entry_plannable = record {
    count = omega arith;
    named = record {
      read = λ pc y r. (named pc r.0 y r.1).0 r.2;
      made = λ pc y r. (named pc r.0 y r.1).1 r.2;
    };
    inside = λ pc y h.
        let lt = needed_first pc y h in
        let same : 0 ≡ y = omega (arith, lt) in
        record {
          word = 0;
          is = subst (λ z. slice_get {X = ℕ} (0 ∷ []) z ≡ Some 0) same refl;
          inside = omega arith;
        };
    apart = λ pc x y w hx hy ex ey.
        let a = needed_first pc x hx in
        let b = needed_first pc y hy in
        omega (arith, a, b);
    entry = λ y h. absurd (let late = needed_late 0 y h in omega (arith, late));
  }

  used_first : (y : ℕ) → IsUsed p f (entry_code m t) y → y < 1
  used_first y h = ⊎_elim (λ r. (named h.0 r.0 y r.1).0 r.2) (λ r. (named h.0 r.0 y r.1).1 r.2) h.1

  pub entry_homes : HasHomes p f (entry_of m t)
  entry_homes = record {
    inside = λ y h.
        let lt = used_first y h in
        let same : 0 ≡ y = omega (arith, lt) in
        record {
          word = 0;
          is = subst (λ z. slice_get {X = ℕ} (0 ∷ []) z ≡ Some 0) same refl;
          inside = omega arith;
        };
    apart = λ x y w hx hy ex ey.
        let a = used_first x hx in
        let b = used_first y hy in
        omega (arith, a, b);
  }
