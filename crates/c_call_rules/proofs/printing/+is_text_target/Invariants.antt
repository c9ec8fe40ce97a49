use Rattle.std.proofs.Common.{length}
use Rattle.c_call_rules.proofs.printing.+is_text_target.Given as goal

abbrev pub decreases-is_text_target : goal.decreases-is_text_target
decreases-is_text_target l = length l.words.now
