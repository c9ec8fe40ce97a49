use Rattle.rv_isa.proofs.RoundTrip.{decoded-word}
use Rattle.rv_isa.proofs.laws.decode_of_encode.Goals as goal

pub returns : goal.returns
returns c = decoded-word
