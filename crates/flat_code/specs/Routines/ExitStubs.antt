-- Exit stubs: code that has a jump to a place of its own where a routine ends the run.
use Rattle.std.specs.Prelude.{◌≡◌, ℕ, suc, ◌+◌, ◌-◌, ◌*◌, ◌<◌, ◌≤◌, ◌==◌, ◌||◌, List, length, Bool, true, nat_le, Some}
use Rattle.std.specs.Prelude.{slice_get}
use Rattle.sb_base.specs.declared.ending.Ending.{Ending}
use Rattle.sb_base.specs.Endings.{code_of, report_of}
use Rattle.flat_code.specs.declared.instruction.FlatInstruction.{FlatInstruction}
use Rattle.flat_code.specs.declared.instruction.FlatInstruction.TheVariants.{JumpForward, JumpBack, End}
use Rattle.flat_code.specs.State.{State}
use Rattle.flat_code.specs.Meaning.{Context, Local, Goes, Ends, Leaves, Fails}
use Rattle.flat_code.specs.Routines.Local.{local_run}

-- whether an instruction at a place of a routine that stands from another place on jumps to none before the routine
abbrev pub stays_behind : (from place : ℕ) → FlatInstruction → Bool
stays_behind from q (JumpBack back) = (from == 0) || nat_le back q
stays_behind from q i = true

-- the instruction at place q of a routine that stands from a place on: it stands there itself, or in place of an ending
-- a jump to the stub of that ending
pub data IsStubbed (stub : Ending → ℕ) (code : List FlatInstruction) (from q : ℕ) (i : FlatInstruction) : Type 0 where
  Same : slice_get code (from + q) ≡ Some i → stays_behind from q i ≡ true → IsStubbed stub code from q i
  Stub : (e : Ending) → i ≡ End e → slice_get code (from + q) ≡ Some (JumpForward (stub e - suc (from + q)))
      → from + q < stub e → IsStubbed stub code from q i

pub record HasExitStubs (stub : Ending → ℕ) (routine code : List FlatInstruction) (from : ℕ) : Type 0 where
  pub each : (q : ℕ) (i : FlatInstruction) → slice_get routine q ≡ Some i → IsStubbed stub code from q i

-- the code comes by a jump to the stub of an ending within so many steps, in the state of the ending but for the work
-- of the report
pub record ComesToStub (context : Context) (code : List FlatInstruction) (stub : Ending → ℕ) (bound : ℕ) (start : Local)
    (status : ℕ) (report : List ℕ) (state : State) : Type 0 where
  pub ending : Ending
  pub status_is : status ≡ code_of ending
  pub report_is : report ≡ report_of ending
  pub steps : ℕ
  pub within : steps ≤ bound
  pub work : ℕ
  pub less : work + context.weight * length report ≡ state.work
  pub jump : ℕ
  pub before : jump < stub ending
  pub comes : local_run context code steps start ≡ Goes (stub ending) (record state { work = work })

-- or the run ends there as well
pub data EndsWithStubs (context : Context) (code : List FlatInstruction) (stub : Ending → ℕ) (bound : ℕ)
    (start : Local) (status : ℕ) (report : List ℕ) (state : State) : Type 0 where
  EndsThere : local_run context code bound start ≡ Ends status report state
      → EndsWithStubs context code stub bound start status report state
  AtStub : ComesToStub context code stub bound start status report state
      → EndsWithStubs context code stub bound start status report state

-- what the code does in the steps in which the routine, alone, comes there
abbrev pub DoesWithStubs : Context → (code : List FlatInstruction) → (from : ℕ) → (stub : Ending → ℕ) → (steps : ℕ)
    → (start : Local) → Local → Type 0
DoesWithStubs c code from stub n start (Goes q s) = local_run c code n start ≡ Goes (from + q) s
DoesWithStubs c code from stub n start (Ends status report s) = EndsWithStubs c code stub n start status report s
DoesWithStubs c code from stub n start Leaves = Unit {0}
DoesWithStubs c code from stub n start Fails = Unit {0}
