-- What a call lays out where no variable is an object.
use Rattle.std.proofs.Common.{◌≡◌, ℕ, ◌+◌, ◌≤◌, refl, ap, ◌∙◌, true, false, not, List, [], ◌∷◌}
use Rattle.std.specs.Prelude.{nat_le, if◌then◌else◌}
use Rattle.std.proofs.lemmas.Bool.{and_parts, le-leb, not-true}
use Rattle.sb_base.specs.declared.ending.Ending.TheVariants.{Stack}
use Rattle.obj_memory.specs.Objects.{Objects}
use Rattle.obj_memory.specs.Heap.{rounded_up}
use Rattle.c_tree.specs.declared.program.Variable.{Variable}
use Rattle.c_tree.specs.Kinds.{size_of_kind}
use Rattle.source_meaning.specs.State.{State, Rvalue, Home, NoObject, InObject, Gives, Ended, on, choose, done}
use Rattle.source_meaning.specs.State.{◌>>=◌, Header, Setting}
use Rattle.source_meaning.specs.Places.{stack_end}
use Rattle.source_meaning.specs.Blocks.{objects_end, has_objects, place_object, place_variables, without_homes}
use Rattle.source_meaning.specs.Calls.{body_objects, parameter_count, plain_count, plain_values, write_parameters}
use Rattle.source_meaning.specs.Calls.{set_up, lay_out}
use Rattle.metadata_plan.specs.Part.{have_no_objects}
use Rattle.metadata_plan.specs.Matching.{AreNoObjects, HaveNoObjects}

not_object : (v : Variable) (vs : List Variable) → have_no_objects (v ∷ vs) ≡ true
    → (v.is_object ≡ false) × (have_no_objects vs ≡ true)
not_object v vs e =
    let a = and_parts (not v.is_object) (have_no_objects vs) e in
    (not-true v.is_object a.0, a.1)

objects_end_same : (vs : List Variable) (top : ℕ) → have_no_objects vs ≡ true → objects_end vs top ≡ top
objects_end_same [] top e = refl
objects_end_same (v ∷ vs) top e =
    let h = not_object v vs e in
    ap (λ b. objects_end vs (if b then rounded_up 16 top + size_of_kind v.kind else top)) h.0
    ∙ objects_end_same vs top h.1

-- variables of which none is an object have no objects
pub no_objects : (vs : List Variable) → have_no_objects vs ≡ true → has_objects vs ≡ false
no_objects [] e = refl
no_objects (v ∷ vs) e =
    let h = not_object v vs e in
    let rest = no_objects vs h.1 in
    rw (h.0, rest) refl

-- the homes of variables that are no objects
abbrev pub homes_of : List Variable → List Home
homes_of [] = []
homes_of (v ∷ vs) = NoObject ∷ homes_of vs

pub homes_none : (vs : List Variable) → AreNoObjects (homes_of vs)
homes_none [] = tt
homes_none (v ∷ vs) = homes_none vs

placed_none : (vs : List Variable) (s : State) → have_no_objects vs ≡ true
    → place_variables vs s ≡ Gives (homes_of vs) s
placed_none [] s e = refl
placed_none (v ∷ vs) s e =
    let h = not_object v vs e in
    ap (λ b. on (choose b (place_object (size_of_kind v.kind)) (done NoObject) s) (λ home.
    (place_variables vs >>= (λ homes. done (home ∷ homes))))) h.0
    ∙ ap (λ r. on r (λ homes. done (NoObject ∷ homes))) (placed_none vs s h.1)

written_none : (ps vs : List Variable) (line : ℕ) (values : List Rvalue) (s : State)
    → write_parameters ps (homes_of vs) line values s ≡ Gives tt s
written_none [] vs line values s = refl
written_none (q ∷ ps) [] line values s = refl
written_none (q ∷ ps) (v ∷ vs) line values s = written_none ps vs line _ s

pub none_die : (homes : List Home) (objects : Objects) → AreNoObjects homes → without_homes homes objects ≡ objects
none_die [] objects h = refl
none_die (NoObject ∷ homes) objects h = none_die homes objects h
none_die (InObject o ∷ homes) objects h = absurd h

-- the state behind a call's set-up
abbrev pub laid_out : Header → List Rvalue → State → State
laid_out f vs s = record s {
  work = s.work + 1 + (parameter_count f.parameters + plain_count f.variables);
  charged = s.charged + f.room;
  plain = plain_values f vs;
  frame = homes_of (body_objects f);
}

pub laid_out_homes : (f : Header) → HaveNoObjects (homes_of (body_objects f))
laid_out_homes f = record { by = homes_none (body_objects f) }

module _ (g : Setting) (f : Header) (vs : List Rvalue) (line : ℕ) (s : State) where
  pub exhausted : nat_le (s.charged + f.room) g.sizes.budgets.calls ≡ false
      → set_up g f vs line s ≡ Ended (Stack line) (record s { work = s.work + 1 })
  exhausted e = rw e refl

  laid : have_no_objects (body_objects f) ≡ true
      → lay_out f vs line (record s { work = s.work + 1 }) ≡ Gives tt (laid_out f vs s)
  laid none =
      let a : State = record s {
        work = s.work + 1 + (parameter_count f.parameters + plain_count f.variables);
        charged = s.charged + f.room;
        plain = plain_values f vs;
      } in
      ap (λ r. on r (λ homes (z : State). write_parameters f.parameters homes line vs (record z { frame = homes })))
      (placed_none (body_objects f) a none)
      ∙ written_none f.parameters (body_objects f) line vs (laid_out f vs s)

  pub set_up_gives : have_no_objects (body_objects f) ≡ true → s.stacked ≤ stack_end g
      → nat_le (s.charged + f.room) g.sizes.budgets.calls ≡ true
      → set_up g f vs line s ≡ Gives tt (laid_out f vs s)
  set_up_gives none stack fits =
      let end : objects_end (body_objects f) s.stacked ≡ s.stacked = objects_end_same (body_objects f) s.stacked none in
      let space : nat_le (objects_end (body_objects f) s.stacked) (stack_end g) ≡ true =
      ap (λ n. nat_le n (stack_end g)) end ∙ le-leb s.stacked (stack_end g) stack in
      let keys = no_objects (body_objects f) none in
      rw (fits, space, keys) (laid none)
