use Rattle.std.proofs.Common.{length}
use Rattle.c_tree.proofs.layout.Extent.+of_type.Given as goal

abbrev pub decreases-of_type : goal.decreases-of_type
decreases-of_type l = length l.words.now
