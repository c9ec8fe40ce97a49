use Rattle.std.proofs.Common.{length}
use Rattle.c_call_rules.proofs.function_type.+callee_type.Given as goal

abbrev pub decreases-callee_type : goal.decreases-callee_type
decreases-callee_type l = length l.words.now
