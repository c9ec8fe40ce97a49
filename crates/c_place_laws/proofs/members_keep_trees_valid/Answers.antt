use Rattle.c_place_laws.proofs.FineOperands.{selected_fine, arrow_fine}
use Rattle.c_place_laws.proofs.members_keep_trees_valid.Goals as goal

pub returns : goal.returns
returns c = record { selected = selected_fine; arrow = arrow_fine }
