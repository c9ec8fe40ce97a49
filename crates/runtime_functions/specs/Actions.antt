-- The call of a function of the runtime whose routine is an action. What a run of the source does at the line of the
-- call, the call does in the run of the program, whatever line the routine was built for.
use Rattle.std.specs.Prelude.{◌≡◌, ℕ, ◌+◌, ◌-◌, ◌*◌, ◌<◌, ◌≤◌, ◌⊎◌, List, [], ◌∷◌, map, Some, None, if◌then◌else◌}
use Rattle.sb_base.specs.declared.ending.Ending.{Ending}
use Rattle.sb_base.specs.Endings.{code_of}
use Rattle.behaviours.specs.Steps.{run}
use Rattle.addr_map.specs.Places.{MapSizes}
use Rattle.obj_memory.specs.declared.value.Value.{Value}
use Rattle.source_meaning.specs.State.{State as Source, Outcome as Completed, Gives, Ended, Paused, Run}
use Rattle.flat_code.specs.declared.instruction.FlatInstruction.{FlatInstruction}
use Rattle.flat_code.specs.declared.function.FlatFunction.{FlatFunction}
use Rattle.flat_code.specs.declared.function.FlatProgram.{FlatProgram}
use Rattle.flat_code.specs.Memory.{Bytes}
use Rattle.flat_code.specs.State.{State, Stage, Stands, Over}
use Rattle.flat_code.specs.Words.{IsOfWords}
use Rattle.flat_code.specs.Meaning.{step}
use Rattle.flat_code.specs.Routines.InputOutput.{has_input_output}
use Rattle.flat_code.specs.Routines.Metadata.{View}
use Rattle.flat_code.specs.Routines.Objects.StandsFor.{Views, Keys}
use Rattle.flat_actions.specs.Actions.{runtime_basis, IsShown, IsFor, Holder, Nowhere, Word, Pointer}
use Rattle.flat_actions.specs.Actions.{registers_of, AreHeldBy, IsGivenIn, StaysElsewhere, KeepsHeld, IsActionIn}
use Rattle.flat_actions.specs.Actions.{StaysUnwritten, work_of}
use Rattle.runtime_functions.specs.declared.status.ReturnStatus.{ReturnStatus}
use Rattle.runtime_functions.specs.Status.{return_status, status_number, ending_at}
use Rattle.runtime_functions.specs.Functions.{IsRuntimeFunction, cleared_registers}
use Rattle.runtime_functions.specs.Calls.{CallSite, calling_steps}

-- ---- registers

-- the same holder over other registers
abbrev pub over_registers : (ℕ → ℕ) → Holder → Holder
over_registers f Nowhere = Nowhere
over_registers f (Word r) = Word (f r)
over_registers f (Pointer h) = Pointer (record {
  value = f h.value;
  tag = record { base = f h.tag.base; bound = f h.tag.bound; key = f h.tag.key; lock = f h.tag.lock };
})

-- the caller's register for a parameter, and for a result, whose registers stand behind those of the parameters and the
-- status
abbrev pub argument_register : CallSite → ℕ → ℕ
argument_register s r = s.first + r

abbrev pub result_register : CallSite → (parameters : ℕ) → ℕ → ℕ
result_register s a r = s.into + (r - a)

abbrev pub AreParameters : (parameters : ℕ) → List ℕ → Type 0
AreParameters a [] = Unit {0}
AreParameters a (x ∷ xs) = (x < a) × AreParameters a xs

abbrev pub AreResults : (parameters results : ℕ) → List ℕ → Type 0
AreResults a n [] = Unit {0}
AreResults a n (x ∷ xs) = ((a < x) × (x ≤ a + n)) × AreResults a n xs

abbrev pub AreTaken : (parameters : ℕ) → List Holder → Type 0
AreTaken a [] = Unit {0}
AreTaken a (h ∷ hs) = AreParameters a (registers_of h) × AreTaken a hs

-- ---- functions

-- How values go in and out of a routine: in which registers, from which on it has its own. And its cost: so many steps,
-- so many for each unit of the work of the run, and what a step counts at most.
pub record Interface : Type 0 where
  pub arguments : List Holder
  pub result : Holder
  pub scratch : ℕ
  pub constant : ℕ
  pub factor : ℕ
  pub price : ℕ

-- a step counts 1, and twice that where it takes an input or puts an output
abbrev pub price_of : List FlatInstruction → ℕ
price_of r = if has_input_output r then 2 else 1

-- the arguments are held in parameters, the result behind the status, and the routine's own registers behind these
pub record IsLaidOut (face : Interface) (parameters results : ℕ) : Type 0 where
  pub taken : AreTaken parameters face.arguments
  pub given : AreResults parameters results (registers_of face.result)
  pub own : parameters + 1 + results ≤ face.scratch

-- A function whose routine is an action, for a run at line 1. It serves calls at every line.
pub record IsActionFunction (map : MapSizes) (entry : View) (IsGood : Bytes → Type 0)
    (P : Source → List Value → Type 0) (at_line : (line : ℕ) → List Value → Run Value) (face : Interface)
    (parameters results : ℕ) (function : FlatFunction) : Type 0 where
  pub routine : List FlatInstruction
  pub is : IsRuntimeFunction routine parameters results function
  pub does : IsActionIn (runtime_basis map entry IsGood) P (at_line 1) face.arguments face.result face.scratch
      face.constant face.factor routine
  pub priced : price_of routine ≤ face.price
  pub laid : IsLaidOut face parameters results

-- ---- calls

-- the caller's state stands for one of the source, and its registers hold the arguments
pub record IsReady (views : Views) (keys : Keys) (IsGood : Bytes → Type 0) (face : Interface) (site : CallSite)
    (source : Source) (values : List Value) : Type 0 where
  pub words : IsOfWords site.state
  pub stands : IsFor views keys IsGood source site.state
  pub held : AreHeldBy views keys source.objects (map (over_registers (argument_register site)) face.arguments) values
      site.state.values

-- the call, the return, the status and the values that are handed over, and the registers that are made 0; and the
-- routine's steps
abbrev pub work_of_call : (parameters results price steps : ℕ) → ℕ
work_of_call a n price steps = 16 + 2 * (a + (1 + n)) + 1 + cleared_registers + price * steps

-- the run stands behind the call, and the caller's registers but those of the status and the results are as they were
pub record IsBehind (site : CallSite) (results bound : ℕ) (stage : Stage) : Type 0 where
  pub state : State
  pub at : stage ≡ Stands site.caller (site.place + 1) state site.frames
  pub turns : state.turns ≡ site.state.turns
  pub others : (x : ℕ) → (x < site.into) ⊎ (site.into + 1 + results ≤ x) → state.values x ≡ site.state.values x
  pub work : state.work ≤ site.state.work + bound

-- it went on: the status is 0, the state stands for the one that the run of the source leaves, and the result is held
pub record HasCompleted (views : Views) (keys : Keys) (IsGood : Bytes → Type 0) (result : Holder) (site : CallSite)
    (parameters results bound : ℕ) (before : Source) (value : Value) (after : Source) (stage : Stage) : Type 0 where
  pub behind : IsBehind site results bound stage
  pub status : behind.state.values site.into ≡ 0
  pub keys_after : Keys
  pub kept : KeepsHeld before.objects keys keys_after
  pub stands : IsFor views keys_after IsGood after behind.state
  pub given : IsGivenIn views keys_after (over_registers (result_register site parameters) result) value
      behind.state.values
  pub elsewhere : StaysElsewhere views.sizes after.objects site.state.memory behind.state.memory

-- it ended the run of the source: the status tells how, and at the line of the call it is that ending; nothing was
-- written before
pub record HasTold (map : MapSizes) (ending : Ending) (line : ℕ) (site : CallSite) (results bound : ℕ) (after : Source) (stage : Stage)
    : Type 0 where
  pub behind : IsBehind site results bound stage
  pub kind : ReturnStatus
  pub status : behind.state.values site.into ≡ status_number kind
  pub ending_is : ending_at kind line ≡ Some ending
  pub shown : IsShown after behind.state
  pub unwritten : StaysUnwritten map site.state.memory behind.state.memory

-- an exit has no status: the run of the program is over
pub record HasExited (map : MapSizes) (ending : Ending) (site : CallSite) (after : Source) (stage : Stage) : Type 0
  where
    pub state : State
    pub no_status : return_status ending ≡ None
    pub over : stage ≡ Over (code_of ending) [] state
    pub shown : IsShown after state
    pub unwritten : StaysUnwritten map site.state.memory state.memory

-- by what comes of the run of the source at the line of the call
abbrev pub IsServed : Views → Keys → (Bytes → Type 0) → (result : Holder) → CallSite
    → (parameters results bound line : ℕ) → Source → Completed Value → Stage → Type 0
IsServed g k IsGood result s a n b line x (Gives v x') stage = HasCompleted g k IsGood result s a n b x v x' stage
IsServed g k IsGood result s a n b line x (Ended e x') stage = HasTold g.sizes e line s n b x' stage ⊎ HasExited g.sizes e s x' stage
IsServed g k IsGood result s a n b line x (Paused x') stage = ⊥

-- from the call the run of the program comes, within so many steps, to where this holds
pub record ComesBehind (map : MapSizes) (program : FlatProgram) (site : CallSite) (bound : ℕ) (Q : Stage → Type 0)
    : Type 0 where
  pub steps : ℕ
  pub within : steps ≤ bound
  pub stage : Stage
  pub comes : run (step map program) steps (Stands site.caller site.place site.state site.frames) ≡ stage
  pub holds : Q stage

-- the steps of a routine for a run of the source
abbrev pub steps_of : Interface → Run Value → Source → ℕ
steps_of face run x = face.constant + face.factor * work_of run x

-- the call does what a run of the source does, at the line of the call, from a state
abbrev pub ServesCall : MapSizes → FlatProgram → Views → Keys → (Bytes → Type 0) → Interface → CallSite
    → (parameters results line : ℕ) → Source → Run Value → Type 0
ServesCall m p g k IsGood face s a n line x run =
    ComesBehind m p s (steps_of face run x + calling_steps)
    (IsServed g k IsGood face.result s a n (work_of_call a n face.price (steps_of face run x)) line x (run x))
