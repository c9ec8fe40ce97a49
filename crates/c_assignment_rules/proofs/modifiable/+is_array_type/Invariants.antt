use Rattle.std.proofs.Common.{length}
use Rattle.c_assignment_rules.proofs.modifiable.+is_array_type.Given as goal

abbrev pub decreases-is_array_type : goal.decreases-is_array_type
decreases-is_array_type l = length l.words.now
