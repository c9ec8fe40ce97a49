use Rattle.c_lexer.proofs.Soundness.{word_spelled}
use Rattle.c_lexer.proofs.laws.words_have_their_spellings.Goals as goal

pub returns : goal.returns
returns c = word_spelled
