use Rattle.tac_ir.proofs.SameTags.{same_bounds, same_life}
use Rattle.tac_ir.proofs.laws.same_tags_allow_the_same_accesses.Goals as goal

pub returns : goal.returns
returns c = record { bounds = same_bounds; life = same_life }
