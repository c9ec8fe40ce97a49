use Rattle.c_rules.proofs.FineUnary.{unary_fine}
use Rattle.c_rules.proofs.laws.unary_operators_keep_trees_valid.Goals as goal

pub returns : goal.returns
returns c = unary_fine
