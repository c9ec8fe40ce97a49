use Rattle.obj_memory.proofs.Continuing.{continues_new, continues_dead, continues_zeroed, continues_bytes}
use Rattle.obj_memory.proofs.Continuing.{continues_value, continues_moved}
use Rattle.obj_memory.proofs.laws.the_dead_stay_dead.Goals as goal

pub returns : goal.returns
returns c = record {
  new = continues_new;
  dead = continues_dead;
  zeroed = continues_zeroed;
  bytes = continues_bytes;
  value = continues_value;
  moved = continues_moved;
}
