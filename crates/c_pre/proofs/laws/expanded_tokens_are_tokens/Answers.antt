use Rattle.c_pre.proofs.Origins.{all_come}
use Rattle.c_pre.proofs.laws.expanded_tokens_are_tokens.Goals as goal

pub returns : goal.returns
returns c = all_come
