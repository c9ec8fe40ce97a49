use Rattle.std.proofs.Common.{length}
use Rattle.c_place_rules.proofs.operand.+element_of.Given as goal

abbrev pub decreases-element_of : goal.decreases-element_of
decreases-element_of l = length l.words.now
