-- A run at another line. The line of what is run stands in its ending alone: nothing else of a run depends on it.
use Rattle.std.specs.Prelude.{◌≡◌, ℕ}
use Rattle.sb_base.specs.declared.ending.Ending.{Ending}
use Rattle.sb_base.specs.declared.ending.Ending.TheVariants.{Exit, Spatial, Temporal, BadCall, BadFree, Divide, Stack}
use Rattle.sb_base.specs.declared.ending.Ending.TheVariants.{Keys, Abort}
use Rattle.source_meaning.specs.State.{State, Outcome, Gives, Ended, Paused, Run}

-- an ending with another line; an exit has none
abbrev pub ending_at : (line : ℕ) → Ending → Ending
ending_at line (Exit status) = Exit status
ending_at line (Spatial own) = Spatial line
ending_at line (Temporal own) = Temporal line
ending_at line (BadCall own) = BadCall line
ending_at line (BadFree own) = BadFree line
ending_at line (Divide own) = Divide line
ending_at line (Stack own) = Stack line
ending_at line (Keys own) = Keys line
ending_at line (Abort own) = Abort line

-- what comes of a run, with another line where it ended
abbrev pub outcome_at : {A : Type 0} → (line : ℕ) → Outcome A → Outcome A
outcome_at line (Gives a s) = Gives a s
outcome_at line (Ended e s) = Ended (ending_at line e) s
outcome_at line (Paused s) = Paused s

-- another run does what a run does, but that its endings have a line
pub record RunsAlikeAt {A : Type 0} (line : ℕ) (own other : Run A) : Type 0 where
  pub by : (s : State) → other s ≡ outcome_at line (own s)
