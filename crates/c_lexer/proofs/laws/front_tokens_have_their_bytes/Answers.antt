use Rattle.c_lexer.proofs.Scanned.{front_within}
use Rattle.c_lexer.proofs.Soundness.{front_spelled}
use Rattle.c_lexer.proofs.laws.front_tokens_have_their_bytes.Goals as goal

pub returns : goal.returns
returns c = λ z w n h. (front_spelled z w n h, (front_within z w n h).0, (front_within z w n h).1)
