use Rattle.std.proofs.Common.{length}
use Rattle.c_place_rules.proofs.target.+target.Given as goal

abbrev pub decreases-target : goal.decreases-target
decreases-target l = length l.words.now
