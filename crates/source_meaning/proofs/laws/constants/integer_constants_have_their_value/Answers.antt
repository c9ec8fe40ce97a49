use Rattle.source_meaning.proofs.Constants.Integers.{constant_finds}
use Rattle.source_meaning.proofs.laws.constants.integer_constants_have_their_value.Goals as goal

pub returns : goal.returns
returns c = constant_finds
