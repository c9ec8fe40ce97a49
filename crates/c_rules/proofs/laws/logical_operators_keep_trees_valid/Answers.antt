use Rattle.c_rules.proofs.FineUnary.{logical_fine, comma_fine}
use Rattle.c_rules.proofs.laws.logical_operators_keep_trees_valid.Goals as goal

pub returns : goal.returns
returns c = record { logical = logical_fine; comma = comma_fine }
