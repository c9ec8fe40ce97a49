use Rattle.obj_memory.proofs.Words.{unary_below, binary_below}
use Rattle.obj_memory.proofs.laws.operators_give_words.Goals as goal

pub returns : goal.returns
returns c = record { unary = unary_below; binary = binary_below }
