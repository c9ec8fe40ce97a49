use Rattle.c_rules.proofs.FineBinary.{binary_fine}
use Rattle.c_rules.proofs.laws.binary_operators_keep_trees_valid.Goals as goal

pub returns : goal.returns
returns c = binary_fine
