use Rattle.std.proofs.Common.{◌≡◌, ◌+◌, drop}
use Rattle.metadata_relation.specs.Registers.{first_object}
use Rattle.instruction_selection.proofs.blocks.first_object.Given as goal

abbrev pub invariant-loop-i : goal.invariant-loop-i
invariant-loop-i l = l.i + first_object (drop l.i l.variables) ≡ first_object l.fn.variables
