-- At which instructions objects die.
use Rattle.std.specs.Prelude.{◌≡◌, ℕ, Bool, true, false}
use Rattle.obj_memory.specs.Objects.{object_at}
use Rattle.source_meaning.specs.State.{State}
use Rattle.source_meaning.specs.Staying.{frees}
use Rattle.tac_ir.specs.declared.instruction.Instruction.{Instruction}
use Rattle.tac_ir.specs.declared.instruction.Instruction.TheVariants.{Library, LeaveBlock, Return}
use Rattle.tac_ir.specs.Stage.{Stage, Begins, Stands, Over, Stuck}

-- a block of the heap is freed, or a block or a call is left
abbrev pub ends_lives : Instruction → Bool
ends_lives (Library r line d n m) = frees r
ends_lives (LeaveBlock b m) = true
ends_lives (Return a) = true
ends_lives i = false

-- what lived still lives
abbrev pub KeepsLivesBy : State → Stage → Type 0
KeepsLivesBy s (Begins z) = Unit {0}
KeepsLivesBy s (Stands u n temps frames z) = (o : ℕ) → (object_at s.objects o).is_live ≡ true
    → (object_at z.objects o).is_live ≡ true
KeepsLivesBy s (Over e z) = Unit {0}
KeepsLivesBy s Stuck = Unit {0}

pub record KeepsLivesAt (state : State) (stage : Stage) : Type 0 where
  pub by : KeepsLivesBy state stage
