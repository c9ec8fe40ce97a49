use Rattle.source_meaning.proofs.Constants.Addresses.{address_finds}
use Rattle.source_meaning.proofs.laws.constants.address_constants_have_their_value.Goals as goal

pub returns : goal.returns
returns c = λ env ps e v s t h. address_finds env ps e v s t h
