use Rattle.std.proofs.Common.{◌≡◌, drop}
use Rattle.source_meaning.specs.Blocks.{has_objects}
use Rattle.instruction_selection.proofs.blocks.has_objects.Given as goal

abbrev pub invariant-loop-variable : goal.invariant-loop-variable
invariant-loop-variable l = has_objects (drop l.variable-index l.variables) ≡ has_objects l.fn.variables
