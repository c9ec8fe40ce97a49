use Rattle.c_call_rules.proofs.FineCalls.{called_fine, through_fine}
use Rattle.c_call_rules.proofs.laws.calls_keep_trees_valid.Goals as goal

pub returns : goal.returns
returns c = record { called = called_fine; through = through_fine }
