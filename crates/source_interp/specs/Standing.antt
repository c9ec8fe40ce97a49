-- What an interpreter keeps of a state of a run, and when what its code did is what an action of the meaning does.
use Rattle.std.specs.Prelude.{◌≡◌, ℕ, ◌+◌, ◌-◌, ◌^◌, min, List, length, Option, Result, Ok, Err}
use Rattle.behaviours.specs.Shown.{Access}
use Rattle.sb_base.specs.declared.ending.Ending.{Ending}
use Rattle.sb_base.specs.declared.ending.Ending.TheVariants as ending
use Rattle.sb_outside.specs.Content.{gained}
use Rattle.source_meaning.specs.State.{State, Outcome, Gives, Ended, Paused, Run, Setting}
use Rattle.source_meaning.specs.Places.{heap_first, heap_last}
use Rattle.interpreter_objects.specs.Blocks.{AreInOrder, AreLive}
use Rattle.interpreter_objects.specs.Kept.{kept}
use Rattle.source_interp.specs.declared.machine.Machine.{Machine}
use Rattle.source_interp.specs.declared.stop.Cause.{Cause}
use Rattle.source_interp.specs.declared.stop.Cause.TheVariants as cause
use Rattle.source_interp.specs.declared.stop.Stop.{Stop}
use Rattle.source_interp.specs.declared.stop.Stop.TheVariants as stop
use Rattle.source_interp.specs.Outside.{Outside, outside, more}

-- the last value of a count
abbrev pub last_count : ℕ
last_count = 2 ^ 128 - 1

-- A machine, and what the outside has now, stand for a state, where start is what the outside had when nothing was
-- shown. Of dead objects the machine keeps neither bytes nor tags, and two of its counts stop at their last value.
pub record Stands (g : Setting) (start : Outside) (m : Machine) (now : Outside) (s : State) : Type 0 where
  pub objects_are : m.store ≡ kept s.objects
  pub blocks_live : AreLive s.objects m.blocks
  pub in_order : AreInOrder (heap_first g) (heap_last g + 1) m.blocks
  pub frame_is : s.frame ≡ m.frame
  pub plain_is : s.plain ≡ m.plain.items
  pub input_is : s.input ≡ now.input
  pub taken_is : m.taken ≡ s.taken
  pub output_is : now.output ≡ gained start.output s.output
  pub accesses_are : now.accesses ≡ more start.accesses s.accesses
  pub count_is : m.accesses ≡ min (length s.accesses) last_count
  pub work_is : m.work ≡ min s.work last_count
  pub turns_are : m.turns ≡ s.turns
  pub charged_is : m.charged ≡ s.charged
  pub stacked_is : m.stacked ≡ s.stacked
  pub keys_are : m.keys ≡ s.keys

abbrev pub ending_of : Cause → (line : ℕ) → Ending
ending_of cause.Spatial line = ending.Spatial line
ending_of cause.Temporal line = ending.Temporal line
ending_of cause.BadCall line = ending.BadCall line
ending_of cause.BadFree line = ending.BadFree line
ending_of cause.Divide line = ending.Divide line
ending_of cause.Stack line = ending.Stack line
ending_of cause.Keys line = ending.Keys line
ending_of cause.Abort line = ending.Abort line

-- an outcome has a state for which a machine stands
pub record ComesTo {A : Type 0} (Holds : State → Type 0) (outcome : Outcome A) (expected : State → Outcome A)
    : Type 0 where
  pub state : State
  pub holds : Holds state
  pub comes : outcome ≡ expected state

-- A result of code is what comes of a run: the value that it gives, or why it goes no further. Where the code could not
-- go on, nothing is said.
abbrev pub Does : {A : Type 0} → Result A Stop → Outcome A → (Holds : State → Type 0) → Type 0
Does (Ok v) outcome Holds = ComesTo Holds outcome (Gives v)
Does (Err (stop.Exited status)) outcome Holds = ComesTo Holds outcome (Ended (ending.Exit status))
Does (Err (stop.Ended c line)) outcome Holds = ComesTo Holds outcome (Ended (ending_of c line))
Does (Err stop.Paused) outcome Holds = ComesTo Holds outcome Paused
Does (Err (stop.Failed f)) outcome Holds = Unit {0}

-- A call of code does what a run does, from whatever state the machine stands for before it.
pub record Acts {A : Type 0} (g : Setting) (old new : Machine) (before now : Outside) (result : Result A Stop)
    (run : Run A) : Type 0 where
  pub by : (start : Outside) (s : State) → Stands g start old before s
      → Does result (run s) (Stands g start new now)

-- the same of a call that the outside is not told of
abbrev pub ActsAlone : {A : Type 0} → (old new : Machine) → Result A Stop → Run A → Type 0
ActsAlone old new result run = (g : Setting) (o : Outside) → Acts g old new o o result run

-- and of one that a trace alone is told of
abbrev pub ActsTraced : {A : Type 0} → (old new : Machine) → (before now : Option (List Access)) → Result A Stop
    → Run A → Type 0
ActsTraced old new before now result run = (g : Setting) (output : Option (List ℕ)) (input : List ℕ)
    → Acts g old new (outside output before input) (outside output now input) result run
