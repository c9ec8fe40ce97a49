use Rattle.std.proofs.Common.{length}
use Rattle.c_place_rules.proofs.target.+pointee.Given as goal

abbrev pub decreases-pointee : goal.decreases-pointee
decreases-pointee l = length l.words.now
