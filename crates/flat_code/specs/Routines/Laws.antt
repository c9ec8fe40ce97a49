-- Words of the laws.
use Rattle.std.specs.Prelude.{◌≡◌, ℕ, ◌≤◌, List, length}
use Rattle.flat_code.specs.declared.instruction.FlatInstruction.{FlatInstruction}
use Rattle.flat_code.specs.State.{State}
use Rattle.flat_code.specs.Meaning.{Context, Goes}
use Rattle.flat_code.specs.Routines.Local.{local_run}
use Rattle.flat_code.specs.Routines.Routine.{Outcome, Continues, Halts, left_at}
use Rattle.flat_code.specs.Routines.Renaming.{ChangesOnly, Agrees}

-- two outcomes agree, and of the registers only those for the ones from d on may have changed
abbrev pub AgreeAtEnd : (n d : ℕ) (f : ℕ → ℕ) (s : State) → Outcome → Outcome → Type 0
AgreeAtEnd n d f s (Continues v) (Continues s') = Agrees n f v s' × ChangesOnly n d f s s'
AgreeAtEnd n d f s (Halts status report v) (Halts status' report' s') =
    (status ≡ status') × (report ≡ report') × Agrees n f v s' × ChangesOnly n d f s s'
AgreeAtEnd n d f s _ _ = ⊥

-- the code comes from one place to another within so many steps, with an outcome that agrees
pub record Arrives (context : Context) (count d : ℕ) (f : ℕ → ℕ) (code : List FlatInstruction) (bound pc : ℕ)
    (state : State)
    (place : ℕ) (x : Outcome) : Type 0 where
  pub steps : ℕ
  pub within : steps ≤ bound
  pub outcome : Outcome
  pub comes : local_run context code steps (Goes pc state) ≡ left_at place outcome
  pub agree : AgreeAtEnd count d f state x outcome

-- the work that is done, and how many bytes the report has
abbrev pub work_of : Outcome → ℕ
work_of (Continues s) = s.work
work_of (Halts status report s) = s.work

abbrev pub report_length : Outcome → ℕ
report_length (Continues s) = 0
report_length (Halts status report s) = length report
