use Rattle.obj_memory.proofs.Making.{new_last, new_reads_zero, new_other}
use Rattle.obj_memory.proofs.laws.new_object_stands_last.Goals as goal

pub returns : goal.returns
returns c = record { last = new_last; zero = new_reads_zero; other = new_other }
