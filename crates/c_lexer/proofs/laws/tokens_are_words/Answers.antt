use Rattle.c_lexer.proofs.Soundness.{all_tokens, few_tokens, end_line}
use Rattle.c_lexer.proofs.laws.tokens_are_words.Goals as goal

pub returns : goal.returns
returns c = record { words = all_tokens; few = few_tokens; end = end_line }
