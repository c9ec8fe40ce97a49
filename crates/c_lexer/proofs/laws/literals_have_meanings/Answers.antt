use Rattle.c_lexer.proofs.Soundness.{word_meaning}
use Rattle.c_lexer.proofs.laws.literals_have_meanings.Goals as goal

pub returns : goal.returns
returns c = word_meaning
