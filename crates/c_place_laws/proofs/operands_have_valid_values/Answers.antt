use Rattle.c_place_laws.proofs.FineOperands.{value_fine, enclosed_fine}
use Rattle.c_place_laws.proofs.operands_have_valid_values.Goals as goal

pub returns : goal.returns
returns c = record { value = value_fine; enclosed = enclosed_fine }
