use Rattle.std.proofs.Common.{◌≡◌, length}
use Rattle.c_pre.specs.Names.{same_list}
use Rattle.c_pre.proofs.preprocessor.same_list.Given as goal

abbrev pub invariant-loop-a : goal.invariant-loop-a
invariant-loop-a l = same_list l.fn.a l.fn.b ≡ same_list l.a l.b

abbrev pub decreases-loop-a : goal.decreases-loop-a
decreases-loop-a l = length l.a
