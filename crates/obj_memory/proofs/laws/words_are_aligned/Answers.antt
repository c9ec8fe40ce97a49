use Rattle.obj_memory.proofs.Soundness.{aligned_address}
use Rattle.obj_memory.proofs.laws.words_are_aligned.Goals as goal

pub returns : goal.returns
returns c = λ functions. aligned_address {functions = functions}
