-- What the call of a function of the runtime does in the run of a program.
use Rattle.std.specs.Prelude.{◌≡◌, ℕ, ◌+◌, ◌*◌, ◌<◌, ◌≤◌, ◌⊎◌, List, [], ◌∷◌, Some, true}
use Rattle.std.specs.Prelude.{length}
use Rattle.sb_base.specs.declared.ending.Ending.{Ending}
use Rattle.sb_base.specs.Endings.{code_of, report_of}
use Rattle.behaviours.specs.Steps.{run}
use Rattle.addr_map.specs.declared.region.Region.TheVariants.{RuntimeCalls}
use Rattle.addr_map.specs.Places.{MapSizes, region_size}
use Rattle.flat_code.specs.declared.instruction.FlatInstruction.{FlatInstruction}
use Rattle.flat_code.specs.declared.instruction.FlatInstruction.TheVariants.{Call}
use Rattle.flat_code.specs.declared.function.FlatFunction.{FlatFunction}
use Rattle.flat_code.specs.declared.function.FlatProgram.{FlatProgram}
use Rattle.flat_code.specs.Calls.{function_in, charged, rooms, arguments}
use Rattle.flat_code.specs.State.{State, Frame, Stage, Stands, Over}
use Rattle.flat_code.specs.Meaning.{instruction_at, waiting, step}
use Rattle.flat_code.specs.Routines.Routine.{Outcome, Continues, Halts}
use Rattle.runtime_functions.specs.declared.status.ReturnStatus.{ReturnStatus}
use Rattle.runtime_functions.specs.Status.{return_status, status_number}
use Rattle.runtime_functions.specs.Functions.{IsRuntimeFunction, cleared_registers}

-- a call: where it stands, in which state and under which records, and what it calls
pub record CallSite : Type 0 where
  pub caller : ℕ
  pub place : ℕ
  pub state : State
  pub frames : List Frame
  pub function : ℕ
  pub first : ℕ
  pub into : ℕ

-- the records that wait while the function runs
abbrev pub waits_at : CallSite → List Frame
waits_at s = waiting s.caller s.place s.into s.state ∷ s.frames

-- the state in which the function begins, with so many arguments
abbrev pub enters_in : CallSite → (parameters : ℕ) → State
enters_in s a = record s.state {
  values = arguments s.first a s.state.values;
  work = s.state.work + (8 + 2 * a);
}

-- and that in which the routine begins: the registers that are made 0 had no other value, and each counts 1
abbrev pub begins_in : CallSite → (parameters : ℕ) → State
begins_in s a = record (enters_in s a) { work = s.state.work + (8 + 2 * a) + cleared_registers }

-- the steps of a call beside those of its routine: the call, the registers that are made 0, what is put into the status
-- and the return
abbrev pub calling_steps : ℕ
calling_steps = 3 + cleared_registers

-- a function is called, with room for its record in the region of those of the runtime
pub record CallsFunction (map : MapSizes) (program : FlatProgram) (site : CallSite) (function : FlatFunction)
    : Type 0 where
  pub at : instruction_at program site.caller site.place ≡ Some (Call site.function site.first site.into)
  pub found : function_in program site.function ≡ Some function
  pub fits : charged program site.caller site.frames ≤ map.budgets.calls
  pub room : function.room + rooms true program (waits_at site) ≤ region_size map RuntimeCalls

-- it is that of a routine
pub record CallsRuntime (map : MapSizes) (program : FlatProgram) (site : CallSite) (function : FlatFunction)
    (routine : List FlatInstruction) (parameters results : ℕ) : Type 0 where
  pub calls : CallsFunction map program site function
  pub is : IsRuntimeFunction routine parameters results function

-- The run stands behind the call: the status and the results are in the registers for them, all others as they were,
-- and all else as it was at the return, but for the work of the return.
pub record HasReturned (site : CallSite) (parameters results status : ℕ) (left : State) (stage : Stage) : Type 0 where
  pub after : State
  pub stands : stage ≡ Stands site.caller (site.place + 1) after site.frames
  pub status_is : after.values site.into ≡ status
  pub results_are : (i : ℕ) → i < results → after.values (site.into + 1 + i) ≡ left.values (parameters + 1 + i)
  pub others : (x : ℕ) → (x < site.into) ⊎ (site.into + 1 + results ≤ x) → after.values x ≡ site.state.values x
  pub rest : after ≡ record left { values = after.values; work = after.work }
  pub work : after.work ≤ left.work + (8 + 2 * (1 + results))

-- the state in which an ending is returned as a status: that in which the routine ends the run, but for the work, in
-- which the report does not count and one instruction more does
pub record IsTold (report : List ℕ) (left told : State) : Type 0 where
  pub same : told ≡ record left { work = told.work }
  pub less : told.work + length report ≡ left.work + 1

-- where the routine ends the run: its ending is returned as a status; one without a report ends the run
pub data Reports (site : CallSite) (parameters results status : ℕ) (report : List ℕ) (left : State)
    (stage : Stage) : Type 0 where
  Returned : (e : Ending) → (r : ReturnStatus) → return_status e ≡ Some r → status ≡ code_of e → report ≡ report_of e
      → (told : State) → IsTold report left told → HasReturned site parameters results (status_number r) told stage
      → Reports site parameters results status report left stage
  Exited : report ≡ [] → stage ≡ Over status report left → Reports site parameters results status report left stage

-- by how the routine is left; where it goes on, what it leaves in the register of the status is the status
abbrev pub IsCalled : (site : CallSite) → (parameters results : ℕ) → Outcome → Stage → Type 0
IsCalled s a n (Continues z) stage = HasReturned s a n (z.values a) z stage
IsCalled s a n (Halts status report z) stage = Reports s a n status report z stage

-- the run comes there from the call, within so many steps
pub record ComesOfCall (map : MapSizes) (program : FlatProgram) (site : CallSite) (parameters results bound : ℕ)
    (outcome : Outcome) : Type 0 where
  pub steps : ℕ
  pub within : steps ≤ bound
  pub stage : Stage
  pub comes : run (step map program) steps (Stands site.caller site.place site.state site.frames) ≡ stage
  pub called : IsCalled site parameters results outcome stage
