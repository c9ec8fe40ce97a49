use Rattle.std.proofs.Common.{◌≡◌, drop}
use Rattle.metadata_relation.specs.Steps.{are_sized}
use Rattle.instruction_selection.proofs.covered.instructions.are_sized.Given as goal

abbrev pub invariant-loop-i : goal.invariant-loop-i
invariant-loop-i l = are_sized (drop l.i l.variables) ≡ are_sized l.fn.variables
