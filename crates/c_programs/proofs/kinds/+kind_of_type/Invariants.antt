use Rattle.std.proofs.Common.{length}
use Rattle.c_programs.proofs.kinds.+kind_of_type.Given as goal

abbrev pub decreases-kind_of_type : goal.decreases-kind_of_type
decreases-kind_of_type l = length l.words.now
