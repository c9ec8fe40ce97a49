use Rattle.c_place_laws.proofs.FineOperands.{dereferenced_fine, address_fine, indexed_fine}
use Rattle.c_place_laws.proofs.pointers_keep_trees_valid.Goals as goal

pub returns : goal.returns
returns c = record { dereferenced = dereferenced_fine; address = address_fine; indexed = indexed_fine }
