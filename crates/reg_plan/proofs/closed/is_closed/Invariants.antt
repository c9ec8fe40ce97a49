use Rattle.std.proofs.Common.{◌≡◌, ◌<◌, ℕ, Some, length}
use Rattle.std.specs.Prelude.{slice_get}
use Rattle.flat_code.specs.declared.instruction.FlatInstruction.{FlatInstruction}
use Rattle.reg_plan.specs.Tests.{IsClosedAt}
use Rattle.reg_plan.proofs.closed.is_closed.Given as goal

abbrev pub invariant-loop-place : goal.invariant-loop-place
invariant-loop-place l = (pc : ℕ) (i : FlatInstruction) → pc < l.place → slice_get l.body pc ≡ Some i
    → IsClosedAt l.program l.number (length l.body) l.plan pc i
