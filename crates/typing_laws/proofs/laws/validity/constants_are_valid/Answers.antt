use Rattle.typing_laws.proofs.Validity.Primaries.{character_fine, integer_fine}
use Rattle.typing_laws.proofs.laws.validity.constants_are_valid.Goals as goal

pub returns : goal.returns
returns c = record { integer = integer_fine; character = character_fine }
