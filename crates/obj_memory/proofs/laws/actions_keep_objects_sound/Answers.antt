use Rattle.obj_memory.proofs.Soundness.{sound_none, sound_new, sound_dead, sound_zeroed, sound_bytes, sound_value}
use Rattle.obj_memory.proofs.Soundness.{sound_moved}
use Rattle.obj_memory.proofs.laws.actions_keep_objects_sound.Goals as goal

pub returns : goal.returns
returns c = record {
  none = λ functions. sound_none {functions = functions};
  new = λ functions. sound_new {functions = functions};
  dead = λ functions. sound_dead {functions = functions};
  zeroed = λ functions. sound_zeroed {functions = functions};
  bytes = λ functions. sound_bytes {functions = functions};
  value = λ functions. sound_value {functions = functions};
  moved = λ functions. sound_moved {functions = functions};
}
