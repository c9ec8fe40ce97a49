use Rattle.c_rules.proofs.FineConversions.{cast_fine}
use Rattle.c_rules.proofs.laws.casts_keep_trees_valid.Goals as goal

pub returns : goal.returns
returns c = cast_fine
