use Rattle.image_laws.proofs.Lowering.Programs.{integer_code}
use Rattle.image_laws.proofs.laws.lowering.lowered_integers_are_integer_code.Goals as goal

pub returns : goal.returns
returns _ = integer_code
