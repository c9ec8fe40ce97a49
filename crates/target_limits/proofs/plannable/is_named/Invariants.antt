use Rattle.std.proofs.Common.{◌≡◌, ◌<◌, ℕ, Some}
use Rattle.std.specs.Prelude.{slice_get}
use Rattle.flat_code.specs.declared.instruction.FlatInstruction.{FlatInstruction}
use Rattle.target_limits.specs.Planning.{HasNames}
use Rattle.target_limits.proofs.plannable.is_named.Given as goal

abbrev pub invariant-loop-place : goal.invariant-loop-place
invariant-loop-place l = (pc : ℕ) (i : FlatInstruction) → pc < l.place → slice_get l.body pc ≡ Some i
    → HasNames l.program l.number i l.count
