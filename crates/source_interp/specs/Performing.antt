-- When what code did with the values found so far is an action.
use Rattle.std.specs.Prelude.{◌≡◌, ℕ, List, Option, Result, Ok, Err}
use Rattle.behaviours.specs.Shown.{Access}
use Rattle.source_meaning.specs.State.{Rvalue}
use Rattle.interpreter_tasks.specs.Registers.{Course, Registers}
use Rattle.interpreter_tasks.specs.Actions.{Action, act}
use Rattle.source_interp.specs.declared.evaluation.Evaluation.{Evaluation}
use Rattle.source_interp.specs.declared.stop.Stop.{Stop}
use Rattle.source_interp.specs.declared.stop.Stop.TheVariants as stop
use Rattle.source_interp.specs.Outside.{Outside, outside}
use Rattle.source_interp.specs.Standing.{Acts}

-- where there is no result, the code could not go on
abbrev pub Fails : {A : Type 0} → Result A Stop → Type 0
Fails (Ok v) = Unit {0}
Fails (Err (stop.Exited status)) = ⊥
Fails (Err (stop.Ended c line)) = ⊥
Fails (Err stop.Paused) = ⊥
Fails (Err (stop.Failed f)) = Unit {0}

-- the registers behind a call: those before it, with the values that it left
abbrev pub left_by : Result (Unit {0}) Stop → Registers → (values : List Rvalue) → Result Registers Stop
left_by (Ok x) r vs = Ok (record r { values = vs })
left_by (Err e) r vs = Err e

-- a call does what an action does, whatever the other registers
pub record Performs (old new : Evaluation) (before now : Outside) (result : Result (Unit {0}) Stop) (a : Action)
    : Type 0 where
  pub by : (c : Course) (r : Registers) → r.values ≡ old.values
      → Acts c.setting old.machine new.machine before now (left_by result r new.values) (act c a r)

abbrev pub PerformsAlone : (old new : Evaluation) → Result (Unit {0}) Stop → Action → Type 0
PerformsAlone old new result a = (o : Outside) → Performs old new o o result a

abbrev pub PerformsTraced : (old new : Evaluation) → (before now : Option (List Access)) → Result (Unit {0}) Stop
    → Action → Type 0
PerformsTraced old new before now result a = (output : Option (List ℕ)) (input : List ℕ)
    → Performs old new (outside output before input) (outside output now input) result a
