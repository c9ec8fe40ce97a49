use Rattle.words.proofs.Extended.{extended_fits, extended_signed, extended_low}
use Rattle.words.proofs.laws.extension_keeps_the_integer.Goals as goal

pub returns : goal.returns
returns c = record { fits = extended_fits; integer = extended_signed; low = extended_low }
