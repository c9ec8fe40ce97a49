use Rattle.std.proofs.Common.{◌≡◌, ◌++◌}
use Rattle.metadata_plan.specs.Blocks.{zeros}
use Rattle.metadata_expansion.proofs.prologue.put_zeros.Given as goal

abbrev pub invariant-loop-i : goal.invariant-loop-i
invariant-loop-i l = l.code.items ≡ l.initial.code.items ++ zeros l.register l.i
