use Rattle.std.proofs.Common.{length}
use Rattle.c_assignment_rules.proofs.modifiable.+has_const.Given as goal

abbrev pub decreases-has_const : goal.decreases-has_const
decreases-has_const l = length l.words.now
