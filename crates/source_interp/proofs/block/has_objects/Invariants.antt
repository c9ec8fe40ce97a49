use Rattle.std.proofs.Common.{◌≡◌, drop}
use Rattle.source_meaning.specs.Blocks.{has_objects}
use Rattle.source_interp.proofs.block.has_objects.Given as goal

abbrev pub invariant-loop-i : goal.invariant-loop-i
invariant-loop-i l = has_objects (drop l.i l.variables) ≡ has_objects l.fn.variables
