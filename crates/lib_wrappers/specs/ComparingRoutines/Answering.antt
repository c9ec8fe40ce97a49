-- What functions of the runtime leave that look at objects, change none, and show nothing.
use Rattle.std.specs.Prelude.{◌≡◌, ℕ}
use Rattle.sb_base.specs.Endings.{code_of, report_of}
use Rattle.obj_memory.specs.declared.value.Value.{Value}
use Rattle.source_meaning.specs.State.{State as Source, Outcome as Completed, Gives, Ended, Paused}
use Rattle.source_meaning.specs.Acting.{at_work}
use Rattle.flat_code.specs.State.{State}
use Rattle.flat_code.specs.Routines.Routine.{Outcome, Continues, Halts}
use Rattle.flat_code.specs.Routines.Metadata.{ShowsNothing}
use Rattle.flat_code.specs.Routines.Objects.StandsFor.{Views, Keys}
use Rattle.flat_actions.specs.Actions.{Holder, IsGivenIn, ChangesNothing}

-- only work was done in the source
pub record IsWorking (before after : Source) : Type 0 where
  pub work : ℕ
  pub same : after ≡ at_work work before

-- it went on: a value is held, and nothing but registers changed
pub record HasAnswered (views : Views) (keys : Keys) (result : Holder) (before : Source) (f : State) (value : Value)
    (after : Source)
    (f' : State) : Type 0 where
  pub source : IsWorking before after
  pub memory : f'.memory ≡ f.memory
  pub shows : ShowsNothing f f'
  pub given : IsGivenIn views keys result value f'.values

-- just as the run of the source does
abbrev pub IsAnswered : Views → Keys → (result : Holder) → Source → State → Completed Value → Outcome → Type 0
IsAnswered g k result x f (Gives v x') (Continues f') = HasAnswered g k result x f v x' f'
IsAnswered g k result x f (Ended e x') (Halts status report f') =
    (status ≡ code_of e) × (report ≡ report_of e) × IsWorking x x' × ChangesNothing f f'
IsAnswered g k result x f (Gives v x') (Halts status report f') = ⊥
IsAnswered g k result x f (Ended e x') (Continues f') = ⊥
IsAnswered g k result x f (Paused x') o = ⊥
