use Rattle.std.proofs.Common.{length}
use Rattle.c_place_rules.proofs.target.+is_const.Given as goal

abbrev pub decreases-is_const : goal.decreases-is_const
decreases-is_const l = length l.words.now
