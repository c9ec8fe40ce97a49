use Rattle.obj_memory.proofs.Moving.{bytes_moved, bytes_moved_beside, moved_is, moved_other}
use Rattle.obj_memory.proofs.laws.moved_bytes_are_read.Goals as goal

pub returns : goal.returns
returns c = record {
  there = λ functions. bytes_moved {functions = functions};
  beside = λ functions. bytes_moved_beside {functions = functions};
  object = moved_is;
  other = moved_other;
}
