use Rattle.std.proofs.Common.{length}
use Rattle.c_rules.proofs.class.+target_of.Given as goal

abbrev pub decreases-target_of : goal.decreases-target_of
decreases-target_of l = length l.words.now
