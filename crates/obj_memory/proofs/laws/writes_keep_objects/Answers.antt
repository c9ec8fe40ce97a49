use Rattle.obj_memory.proofs.Keeping.{keeps_bytes, keeps_value, keeps_moved, keeps_zeroed}
use Rattle.obj_memory.proofs.laws.writes_keep_objects.Goals as goal

pub returns : goal.returns
returns c = record { bytes = keeps_bytes; value = keeps_value; moved = keeps_moved; zeroed = keeps_zeroed }
