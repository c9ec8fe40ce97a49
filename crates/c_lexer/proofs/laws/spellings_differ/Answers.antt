use Rattle.c_lexer.proofs.Tables.{keyword_read, punctuator_read}
use Rattle.c_lexer.proofs.laws.spellings_differ.Goals as goal

pub returns : goal.returns
returns c = record { keywords = keyword_read; punctuators = punctuator_read }
