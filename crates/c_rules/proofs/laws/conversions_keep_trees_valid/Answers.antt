use Rattle.c_rules.proofs.FineConversions.{assigned_fine}
use Rattle.c_rules.proofs.laws.conversions_keep_trees_valid.Goals as goal

pub returns : goal.returns
returns c = assigned_fine
