use Rattle.std.proofs.Common.{length}
use Rattle.c_place_rules.proofs.place.+structure_number.Given as goal

abbrev pub decreases-structure_number : goal.decreases-structure_number
decreases-structure_number l = length l.words.now
