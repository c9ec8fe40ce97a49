use Rattle.std.proofs.Common.{length}
use Rattle.c_rules.proofs.value.+unqualified.Given as goal

abbrev pub decreases-unqualified : goal.decreases-unqualified
decreases-unqualified l = length l.words.now
