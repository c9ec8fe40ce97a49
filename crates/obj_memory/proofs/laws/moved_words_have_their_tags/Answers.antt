use Rattle.obj_memory.proofs.Moving.{tag_moved, tag_not_moved}
use Rattle.obj_memory.proofs.laws.moved_words_have_their_tags.Goals as goal

pub returns : goal.returns
returns c = record { moved = λ functions. tag_moved {functions = functions}; kept = tag_not_moved }
