use Rattle.obj_memory.proofs.Making.{disjoint_dead, disjoint_new, disjoint_bytes}
use Rattle.obj_memory.proofs.laws.live_objects_stay_disjoint.Goals as goal

pub returns : goal.returns
returns c = record { dead = disjoint_dead; new = disjoint_new; bytes = disjoint_bytes }
