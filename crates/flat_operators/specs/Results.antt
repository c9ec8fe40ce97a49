-- What the code of an operator leaves.
use Rattle.std.specs.Prelude.{◌≡◌, ◌≢◌, ℕ, ◌<◌, Option, Some, None}
use Rattle.sb_base.specs.declared.ending.Ending.TheVariants as ending
use Rattle.sb_base.specs.Endings.{code_of, report_of}
use Rattle.flat_code.specs.State.{State}
use Rattle.flat_code.specs.Routines.Routine.{Outcome, Continues, Halts}
use Rattle.flat_code.specs.Routines.Metadata.{ShowsNothing}

-- one register below scratch has a value, all others there, and the memory, are as before, and nothing was shown
pub record HasResult (into value scratch : ℕ) (before after : State) : Type 0 where
  pub result : after.values into ≡ value
  pub others : (x : ℕ) → x < scratch → x ≢ into → after.values x ≡ before.values x
  pub memory : after.memory ≡ before.memory
  pub shows : ShowsNothing before after

-- the same, but for the register
pub record IsUnchanged (scratch : ℕ) (before after : State) : Type 0 where
  pub registers : (x : ℕ) → x < scratch → after.values x ≡ before.values x
  pub memory : after.memory ≡ before.memory
  pub shows : ShowsNothing before after

-- the run goes on with a result, or it is over where there is none
abbrev pub ResultBy : Option ℕ → (line into scratch : ℕ) → State → Outcome → Type 0
ResultBy (Some v) line d n s (Continues s') = HasResult d v n s s'
ResultBy (Some v) line d n s (Halts status report s') = ⊥
ResultBy None line d n s (Continues s') = ⊥
ResultBy None line d n s (Halts status report s') =
    (status ≡ code_of (ending.Divide line)) × (report ≡ report_of (ending.Divide line)) × IsUnchanged n s s'

pub record IsResult (answer : Option ℕ) (line into scratch : ℕ) (state : State) (outcome : Outcome) : Type 0 where
  pub by : ResultBy answer line into scratch state outcome

-- operands and the result are below the scratch register; the result may take the register of an operand
pub record AreOperands (into left right scratch : ℕ) : Type 0 where
  pub into_below : into < scratch
  pub left_below : left < scratch
  pub right_below : right < scratch

abbrev pub Anywhere : State → Type 0
Anywhere s = Unit {0}
