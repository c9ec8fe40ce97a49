use Rattle.std.proofs.Common.{length}
use Rattle.c_place_rules.proofs.target.+constant.Given as goal

abbrev pub decreases-constant : goal.decreases-constant
decreases-constant l = length l.words.now
