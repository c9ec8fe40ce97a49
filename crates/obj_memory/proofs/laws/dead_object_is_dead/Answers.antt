use Rattle.obj_memory.proofs.Making.{dead_is_dead, dead_object, dead_other}
use Rattle.obj_memory.proofs.laws.dead_object_is_dead.Goals as goal

pub returns : goal.returns
returns c = record { dead = dead_is_dead; object = dead_object; other = dead_other }
