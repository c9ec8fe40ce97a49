use Rattle.c_call_rules.proofs.FinePrinting.{formatted_fine}
use Rattle.c_call_rules.proofs.laws.printing_keeps_trees_valid.Goals as goal

pub returns : goal.returns
returns c = formatted_fine
