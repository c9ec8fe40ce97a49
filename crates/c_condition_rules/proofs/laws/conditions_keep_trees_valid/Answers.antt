use Rattle.c_condition_rules.proofs.FineConditions.{conditional_fine, condition_fine, switch_fine}
use Rattle.c_condition_rules.proofs.laws.conditions_keep_trees_valid.Goals as goal

pub returns : goal.returns
returns c = record { conditional = conditional_fine; condition = condition_fine; switch = switch_fine }
