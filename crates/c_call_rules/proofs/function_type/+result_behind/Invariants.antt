use Rattle.std.proofs.Common.{length}
use Rattle.c_call_rules.proofs.function_type.+result_behind.Given as goal

abbrev pub decreases-result_behind : goal.decreases-result_behind
decreases-result_behind l = length l.words.now
