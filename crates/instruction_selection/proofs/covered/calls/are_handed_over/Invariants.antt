use Rattle.std.proofs.Common.{◌≡◌, drop}
use Rattle.metadata_relation.specs.Steps.{are_handed_over}
use Rattle.instruction_selection.proofs.covered.calls.are_handed_over.Given as goal

abbrev pub invariant-loop-i : goal.invariant-loop-i
invariant-loop-i l = are_handed_over (drop l.i l.variables) ≡ are_handed_over l.fn.variables
