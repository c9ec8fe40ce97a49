use Rattle.c_place_laws.proofs.FineOperands.{size_fine}
use Rattle.c_place_laws.proofs.sizes_are_valid.Goals as goal

pub returns : goal.returns
returns c = size_fine
