-- A list that is an action, or a test, where it stands inline in a function of the program: from what its contract says of
-- any code to the program's own run.
use Rattle.std.proofs.Common.{◌≡◌, ℕ, ◌+◌, ◌*◌, ◌≤◌, Bool, false, List, length, Option, Some, None, sym}
use Rattle.std.proofs.Common.{subst, arith, mul-le-mul_right}
use Rattle.std.specs.Prelude.{slice_get}
use Rattle.behaviours.specs.Steps.{run as steps_of}
use Rattle.addr_map.specs.Places.{MapSizes}
use Rattle.obj_memory.specs.declared.value.Value.{Value}
use Rattle.source_meaning.specs.State.{State as Source, Gives, Run}
use Rattle.tac_ir.specs.declared.function.CodeFunction.{CodeFunction}
use Rattle.flat_code.specs.declared.instruction.FlatInstruction.{FlatInstruction}
use Rattle.flat_code.specs.declared.function.FlatFunction.{FlatFunction}
use Rattle.flat_code.specs.declared.function.FlatProgram.{FlatProgram}
use Rattle.flat_code.specs.Calls.{function_in, charged}
use Rattle.flat_code.specs.Memory.{Bytes}
use Rattle.flat_code.specs.State.{State, Frame, Stands, Over}
use Rattle.flat_code.specs.Meaning.{Context, Goes, body_of, context, is_runtime_function, step, weight_of}
use Rattle.flat_code.specs.Words.{IsOfWords}
use Rattle.flat_code.proofs.Words.{LocalFits}
use Rattle.flat_code.specs.Routines.InputOutput.{IsWithoutInputOutput}
use Rattle.flat_code.specs.Routines.Laws.{work_of, report_length}
use Rattle.flat_code.specs.Routines.Local.{local_run}
use Rattle.flat_code.specs.Routines.Objects.StandsFor.{Keys}
use Rattle.flat_code.specs.Routines.Routine.{Outcome, Continues, Halts, left_at, Does}
use Rattle.flat_code.proofs.Routines.Lifted.{lifted}
use Rattle.flat_code.proofs.Routines.Steps.{run_fits}
use Rattle.flat_code.proofs.Routines.Work.{does_its_weight}
use Rattle.flat_actions.specs.Actions.{Holder, IsFor, AreHeldBy, Leaves, HasGiven, program_basis, IsActionIn}
use Rattle.flat_actions.specs.Actions.{work_of as work_of_run}
use Rattle.metadata_plan.specs.Operators.{Position, IsHere}
use Rattle.metadata_plan.proofs.Flat.{weight_small}
use Rattle.metadata_relation.specs.Blocks.{Expansion}
use Rattle.metadata_relation.specs.Expanded.{ExpandsAt}
use Rattle.metadata_relation.specs.Stages.{Compiled, map_of, views}
use Rattle.metadata_relation.specs.Steps.{IsCompiled}
use Rattle.metadata_relation.proofs.Acting.{Reached}

-- the run is past a list, and a fact holds of its state
pub record Passes (map : MapSizes) (p : FlatProgram) (x : Position) (place most : ℕ) (I : State → Type 0) : Type 0
  where
    pub after : State
    pub reached : Reached map p x.function x.place x.state x.frames place after most
    pub words : IsOfWords after
    pub holds : I after

-- it is over
pub record Stops (map : MapSizes) (p : FlatProgram) (x : Position) (most : ℕ)
    (J : (status : ℕ) → (report : List ℕ) → State → Type 0) : Type 0 where
  pub status : ℕ
  pub report : List ℕ
  pub after : State
  pub steps : ℕ
  pub comes : steps_of (step map p) steps (Stands x.function x.place x.state x.frames) ≡ Over status report after
  pub few : after.work ≤ x.state.work + (most + 2 * length report)
  pub holds : J status report after

pub passes_with : (map : MapSizes) (p : FlatProgram) (x : Position) (place most : ℕ) (I J : State → Type 0)
    → ((s : State) → I s → J s) → Passes map p x place most I → Passes map p x place most J
passes_with map p x place most I J f h =
    record { after = h.after; reached = h.reached; words = h.words; holds = f h.after h.holds }

-- a step weighs two units at most
twice : (w n k most : ℕ) → w ≤ 2 → n ≤ k + w * most → n ≤ k + 2 * most
twice w n k most le h = let few : w * most ≤ 2 * most = mul-le-mul_right most le in omega arith

module _ (map : MapSizes) (p : FlatProgram) (x : Position) (is : List FlatInstruction) (P : State → Type 0)
    (B : State → ℕ) (Q : State → Outcome → Type 0) (none : IsWithoutInputOutput is)
    (does : Does (context map p x.function x.frames) is P B Q) (here : IsHere p x is) (given : P x.state) (most : ℕ)
    (few : B x.state ≤ most) where
  abbrev c : Context
  c = context map p x.function x.frames

  abbrev body : List FlatInstruction
  body = body_of (function_in p x.function)

  light : weight_of (function_in p x.function) ≤ 2
  light = weight_small (function_in p x.function)

  -- the list is passed
  pub passes : ((status : ℕ) (report : List ℕ) (s : State) → Q x.state (Halts status report s) → ⊥)
      → Passes map p x (x.place + length is) (2 * most) (λ s. Q x.state (Continues s))
  passes never =
      let t = (does_its_weight c is P B Q none.none does).from body x.place x.state here.has here.words given in
      by t.steps t.outcome t.comes t.holds.0 t.holds.1
    where
      by : (steps : ℕ) (o : Outcome)
          → local_run (context map p x.function x.frames) (body_of (function_in p x.function)) steps
          (Goes x.place x.state) ≡ left_at (x.place + length is) o
          → Q x.state o
          → work_of o ≤ x.state.work + (context map p x.function x.frames).weight * (B x.state + report_length o)
          → Passes map p x (x.place + length is) (2 * most) (λ s. Q x.state (Continues s))
      by steps (Halts status report s) comes q le = absurd (never status report s q)
      by steps (Continues s) comes q le =
          let sum = twice (weight_of (function_in p x.function)) s.work x.state.work (B x.state + 0) light le in
          record {
            after = s;
            reached = record {
              steps = steps;
              comes = lifted map p x.function x.frames steps x.place x.state (x.place + length is) (Continues s) comes;
              few = omega (arith, sum, few);
            };
            words = subst LocalFits comes (run_fits c body steps (Goes x.place x.state) here.words);
            holds = q;
          }

  -- it ends the run
  pub stops : ((s : State) → Q x.state (Continues s) → ⊥)
      → Stops map p x (2 * most) (λ status report s. Q x.state (Halts status report s))
  stops never =
      let t = (does_its_weight c is P B Q none.none does).from body x.place x.state here.has here.words given in
      by t.steps t.outcome t.comes t.holds.0 t.holds.1
    where
      by : (steps : ℕ) (o : Outcome)
          → local_run (context map p x.function x.frames) (body_of (function_in p x.function)) steps
          (Goes x.place x.state) ≡ left_at (x.place + length is) o
          → Q x.state o
          → work_of o ≤ x.state.work + (context map p x.function x.frames).weight * (B x.state + report_length o)
          → Stops map p x (2 * most) (λ status report s. Q x.state (Halts status report s))
      by steps (Continues s) comes q le = absurd (never s q)
      by steps (Halts status report s) comes q le =
          let sum = twice (weight_of (function_in p x.function)) s.work x.state.work (B x.state + length report) light
          le in
          record {
            status = status;
            report = report;
            after = s;
            steps = steps;
            comes = lifted map p x.function x.frames steps x.place x.state (x.place + length is)
                (Halts status report s) comes;
            few = omega (arith, sum, few);
            holds = q;
          }

-- ---- in a function of the program

of_program : (e : Expansion) (u : ℕ) (c : CodeFunction) (address : ℕ → ℕ) (q : Option FlatFunction)
    → ExpandsAt e u c address q → is_runtime_function q ≡ false
of_program e u c address None h = absurd h
of_program e u c address (Some f) h = h.of_program

module _ (c : Compiled) (IsGood : Bytes → Type 0) (right : IsCompiled c IsGood) (u : ℕ) (code : CodeFunction)
    (there : slice_get c.layout.expansion.code.functions u ≡ Some code) (xs : List Frame) where
  abbrev pub Here : (place : ℕ) → State → Position
  Here pc v = record { function = u; place = pc; state = v; frames = xs }

  -- its accesses are shown
  pub is_of_program : is_runtime_function (function_in c.layout.program u) ≡ false
  is_of_program = of_program c.layout.expansion u code (c.layout.address u) (function_in c.layout.program u)
      (right.expanded.functions u code there)

  -- the context in which lists of the program stand
  abbrev pub in_program : (is_runtime : Bool) → Context
  in_program b = record {
    sizes = map_of c;
    is_runtime = b;
    charge = charged c.layout.program u xs;
    weight = weight_of (function_in c.layout.program u);
  }

  -- An action of which the source's run gives a value leaves a state that stands for the source's.
  pub action_passes : (P : Source → List Value → Type 0) (of : List Value → Run Value) (arguments : List Holder)
      (result : Holder) (scratch most : ℕ) (is : List FlatInstruction)
      → IsActionIn (program_basis (map_of c) c.entry IsGood) P of arguments result scratch most 0 is
      → IsWithoutInputOutput is → (pc : ℕ) (v : State) → IsHere c.layout.program (Here pc v) is → (keys : Keys)
      (s : Source) (vs : List Value) → IsFor (views c) keys IsGood s v
      → AreHeldBy (views c) keys s.objects arguments vs v.values → P s vs → (w : Value) (s' : Source)
      → of vs s ≡ Gives w s'
      → Passes (map_of c) c.layout.program (Here pc v) (pc + length is) (2 * most)
      (λ after. HasGiven (views c) keys IsGood result scratch s v w s' after)
  action_passes P of arguments result scratch most is action none pc v here keys s vs for held premise w s' gives =
      let does = action (length c.setting.functions) c.layout.expansion.types keys s vs
      (charged c.layout.program u xs) (weight_of (function_in c.layout.program u)) in
      passes_with (map_of c) c.layout.program (Here pc v) (pc + length is) (2 * most) _ _
      (λ after q. subst (λ o. Leaves (views c) keys IsGood result scratch s v o (Continues after)) gives q)
      (passes (map_of c) c.layout.program (Here pc v) is
      (λ f. IsFor (views c) keys IsGood s f × AreHeldBy (views c) keys s.objects arguments vs f.values × P s vs)
      (λ f. most + 0 * work_of_run (of vs) s)
      (λ f. Leaves (views c) keys IsGood result scratch s f (of vs s)) none
      (subst (λ b. Does (in_program b) is
      (λ f. IsFor (views c) keys IsGood s f × AreHeldBy (views c) keys s.objects arguments vs f.values × P s vs)
      (λ f. most + 0 * work_of_run (of vs) s)
      (λ f. Leaves (views c) keys IsGood result scratch s f (of vs s))) (sym is_of_program) does)
      here (for, held, premise) most (omega arith)
      (λ status report z q.
      subst (λ o. Leaves (views c) keys IsGood result scratch s v o (Halts status report z)) gives q))
