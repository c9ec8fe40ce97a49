use Rattle.std.proofs.Common.{length}
use Rattle.c_tree.proofs.c_type.+are_same.Given as goal

abbrev pub decreases-are_same : goal.decreases-are_same
decreases-are_same l = length l.left.now
