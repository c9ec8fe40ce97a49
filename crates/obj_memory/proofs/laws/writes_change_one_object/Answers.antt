use Rattle.obj_memory.proofs.Reading.{bytes_of_written, written_other}
use Rattle.obj_memory.proofs.laws.writes_change_one_object.Goals as goal

pub returns : goal.returns
returns c = record { bytes = bytes_of_written; other = written_other }
