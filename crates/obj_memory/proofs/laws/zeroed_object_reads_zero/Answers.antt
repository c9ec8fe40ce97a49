use Rattle.obj_memory.proofs.Making.{zeroed_reads_zero, zeroed_object, zeroed_other}
use Rattle.obj_memory.proofs.laws.zeroed_object_reads_zero.Goals as goal

pub returns : goal.returns
returns c = record { zero = zeroed_reads_zero; object = zeroed_object; other = zeroed_other }
