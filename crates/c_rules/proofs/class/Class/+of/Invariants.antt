use Rattle.std.proofs.Common.{length}
use Rattle.c_rules.proofs.class.Class.+of.Given as goal

abbrev pub decreases-of : goal.decreases-of
decreases-of l = length l.words.now
