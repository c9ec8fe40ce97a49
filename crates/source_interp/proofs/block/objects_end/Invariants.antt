use Rattle.std.proofs.Common.{◌≡◌, drop}
use Rattle.source_meaning.specs.Blocks.{objects_end}
use Rattle.source_interp.proofs.block.objects_end.Given as goal

abbrev pub invariant-loop-i : goal.invariant-loop-i
invariant-loop-i l = objects_end (drop l.i l.variables) l.end ≡ objects_end l.fn.variables l.fn.top
