use Rattle.std.proofs.Common.{length}
use Rattle.c_place_rules.proofs.target.+object_kind.Given as goal

abbrev pub decreases-object_kind : goal.decreases-object_kind
decreases-object_kind l = length l.words.now
