-- At which instructions a plain variable changes.
use Rattle.std.specs.Prelude.{◌≡◌, ℕ, Bool, true, false, ◌==◌}
use Rattle.source_meaning.specs.State.{State}
use Rattle.source_meaning.specs.Actions.{plain_value}
use Rattle.tac_ir.specs.declared.instruction.Instruction.{Instruction}
use Rattle.tac_ir.specs.declared.instruction.Instruction.TheVariants.{SetPlain, UpdatePlain, Call, CallThrough, Return}
use Rattle.tac_ir.specs.Stage.{Stage, Begins, Stands, Over, Stuck}

-- it is set or updated, or another function's variables take the place of this one's
abbrev pub changes_plain : Instruction → (variable : ℕ) → Bool
changes_plain (SetPlain x a m) y = x == y
changes_plain (UpdatePlain w k f line d x right m) y = x == y
changes_plain (Call f line d n m) y = true
changes_plain (CallThrough type_number line d n m) y = true
changes_plain (Return a) y = true
changes_plain i y = false

abbrev pub KeepsPlainBy : (variable : ℕ) → State → Stage → Type 0
KeepsPlainBy y s (Begins z) = Unit {0}
KeepsPlainBy y s (Stands u n temps frames z) = plain_value y z ≡ plain_value y s
KeepsPlainBy y s (Over e z) = Unit {0}
KeepsPlainBy y s Stuck = Unit {0}

pub record KeepsPlainAt (variable : ℕ) (state : State) (stage : Stage) : Type 0 where
  pub by : KeepsPlainBy variable state stage
