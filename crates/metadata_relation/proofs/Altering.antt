-- A list that changes registers alone and never ends the run: where it stands inline in a function of the program, the
-- program's run comes to its end, and what the list leaves holds there.
use Rattle.std.proofs.Common.{◌≡◌, ℕ, ◌+◌, ◌-◌, ◌*◌, ◌≤◌, List, length, ap, ◌∙◌, subst, arith}
use Rattle.std.proofs.Math.Nat.{mul_comm}
use Rattle.behaviours.specs.Steps.{run}
use Rattle.addr_map.specs.Places.{MapSizes}
use Rattle.flat_code.specs.declared.instruction.FlatInstruction.{FlatInstruction}
use Rattle.flat_code.specs.declared.function.FlatProgram.{FlatProgram}
use Rattle.flat_code.specs.Calls.{function_in}
use Rattle.flat_code.specs.State.{State, Values, Frame, Stands}
use Rattle.flat_code.specs.Meaning.{Goes, body_of, context, weight_of, step}
use Rattle.flat_code.specs.Words.{HasWords}
use Rattle.flat_code.specs.Routines.InputOutput.{IsWithoutInputOutput}
use Rattle.flat_code.specs.Routines.Laws.{work_of, report_length}
use Rattle.flat_code.specs.Routines.Local.{local_run}
use Rattle.flat_code.specs.Routines.Metadata.{ShowsNothing}
use Rattle.flat_code.specs.Routines.Routine.{Outcome, Continues, Halts, left_at, Does, Either, Never}
use Rattle.flat_code.proofs.Routines.Lifted.{lifted}
use Rattle.flat_code.proofs.Routines.Work.{does_its_weight}
use Rattle.metadata_plan.specs.Operators.{Position, IsHere}
use Rattle.metadata_plan.proofs.Numbers.{scaled}
use Rattle.metadata_plan.proofs.Flat.{weight_small, Comes, then_comes}
use Rattle.metadata_relation.proofs.Inline.{AtLeast, run_least, same_but}
use Rattle.metadata_relation.proofs.Parts.{SoFar, moment}

-- the run has come to a place of its function, and nothing but registers has changed
pub record Alters (map : MapSizes) (program : FlatProgram) (position : Position) (place most : ℕ)
    (Q : State → Type 0) : Type 0 where
  pub steps : ℕ
  pub after : Values
  pub work : ℕ
  pub few : work ≤ most * weight_of (function_in program position.function)
  pub comes : run (step map program) steps (Stands position.function position.place position.state position.frames)
      ≡ Stands position.function place (record position.state { values = after; work = position.state.work + work })
      position.frames
  pub holds : Q (record position.state { values = after; work = position.state.work + work })

module _ (map : MapSizes) (p : FlatProgram) (x : Position) where
  pub alters : (is : List FlatInstruction) (most : ℕ) (P : State → Type 0) (Q : State → State → Type 0)
      → IsWithoutInputOutput is
      → Does (context map p x.function x.frames) is P (λ s. most) (λ s. Either (Q s) Never)
      → ((s s' : State) → Q s s' → (s'.memory ≡ s.memory) × ShowsNothing s s') → P x.state → IsHere p x is
      → Alters map p x (x.place + length is) most (Q x.state)
  alters is most P Q none does same given here =
      let c = context map p x.function x.frames in
      let body = body_of (function_in p x.function) in
      let t = (does_its_weight c is P (λ s. most) (λ s. Either (Q s) Never) none.none does).from
      body x.place x.state here.has here.words given in
      by t.steps t.outcome t.comes t.holds.0 t.holds.1
    where
      by : (steps : ℕ) (o : Outcome)
          → local_run (context map p x.function x.frames) (body_of (function_in p x.function)) steps
          (Goes x.place x.state)
          ≡ left_at (x.place + length is) o
          → Either (Q x.state) Never o
          → work_of o ≤ x.state.work + (context map p x.function x.frames).weight * (most + report_length o)
          → Alters map p x (x.place + length is) most (Q x.state)
      by steps (Halts status report s') comes h le = absurd h
      by steps (Continues s') comes h le =
          let c = context map p x.function x.frames in
          let w = weight_of (function_in p x.function) in
          let least : x.state.work ≤ s'.work =
          subst (AtLeast x.state.work) comes
          (run_least c x.state.work (body_of (function_in p x.function)) steps (Goes x.place x.state) (omega arith)) in
          let sum : w * (most + 0) ≡ most * w =
          (let e : most + 0 ≡ most = omega arith in ap (λ z. w * z) e ∙ mul_comm w most) in
          let kept = same x.state s' h in
          let is_same = same_but x.state s' kept.0 kept.1 least in
          record {
            steps = steps;
            after = s'.values;
            work = s'.work - x.state.work;
            few = omega (arith, sum, le);
            comes = lifted map p x.function x.frames steps x.place x.state (x.place + length is) (Continues s') comes
                ∙ ap (λ z. Stands x.function (x.place + length is) z x.frames) is_same;
            holds = subst (Q x.state) is_same h;
          }

-- the same as one part of a block
module _ (m : MapSizes) (p : FlatProgram) (u pc : ℕ) (v : State) (xs : List Frame)
    (words : HasWords (Stands u pc v xs)) where
  pub then_altered : (q : ℕ) (a : Values) (k : ℕ) (K : SoFar m p u pc v xs words q a k) (place most : ℕ)
      (Q : State → Type 0) → (r : Alters m p (moment m p u pc v xs words q a k K) place most Q)
      → SoFar m p u pc v xs words place r.after (k + most * 2)
  then_altered q a k K place most Q r =
      let at : State = record v { values = a; work = v.work + K.work } in
      let next : Comes m p u q at xs place (record at { values = r.after }) (most * 2) = record {
        steps = r.steps;
        work = r.work;
        few = scaled most (weight_of (function_in p u)) r.work r.few (weight_small (function_in p u));
        comes = r.comes;
      } in
      let all = then_comes m p u pc v xs q place (record v { values = a }) (record at { values = r.after }) k
      (most * 2) K next in
      record { steps = all.steps; work = all.work; few = all.few; comes = all.comes }
