use Rattle.sbcets_core.proofs.Spelling.{spelled}
use Rattle.sbcets_core.proofs.laws.hexadecimal_digits_spell_their_number.Goals as goal

pub returns : goal.returns
returns c = spelled
