-- When one program is another but for its checks: those of accesses are put in, and any of them may be dropped again.
-- This is what passes behind use of code that is to be laid out.
use Rattle.std.specs.Prelude.{◌≡◌, ℕ, ◌+◌, length, Option, Some, None}
use Rattle.tac_ir.specs.declared.instruction.Instruction.{Instruction}
use Rattle.tac_ir.specs.declared.function.CodeFunction.{CodeFunction}
use Rattle.tac_ir.specs.declared.function.Tac.{Tac}
use Rattle.tac_ir.specs.Meaning.{function_in}
use Rattle.tac_ir.specs.SameTables.{SameTables}
use Rattle.check_insert.specs.Counting.{checks_needed, is_check, sum_over}
use Rattle.check_insert.specs.Inserted.{Has, NeedsNoMore}

-- an instruction that is no check and gets none
pub record HasNoChecks (instruction : Instruction) : Type 0 where
  pub needed : checks_needed instruction ≡ 0
  pub own : is_check instruction ≡ 0

-- it stays at its node; for each check that was put in there is a node more, and no instruction needs more temporaries
-- than there were, or a larger structure in one
pub record SameButChecksIn (before after : CodeFunction) : Type 0 where
  pub size : length after.code ≡ length before.code + sum_over checks_needed before.code
  pub code : (n : ℕ) (i : Instruction) → Has before.code n i → HasNoChecks i → Has after.code n i
  pub homes : (n : ℕ) (i : Instruction) → Has after.code n i → NeedsNoMore before.code i

abbrev pub SameButChecksAt : Option CodeFunction → Option CodeFunction → Type 0
SameButChecksAt None None = Unit {0}
SameButChecksAt None (Some c') = ⊥
SameButChecksAt (Some c) None = ⊥
SameButChecksAt (Some c) (Some c') = SameButChecksIn c c'

pub record SameButChecks (before after : Tac) : Type 0 where
  pub tables : SameTables before after
  pub functions : (u : ℕ) → SameButChecksAt (function_in before u) (function_in after u)
