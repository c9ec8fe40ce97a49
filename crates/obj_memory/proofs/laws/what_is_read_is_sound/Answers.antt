use Rattle.obj_memory.proofs.Reading.{read_below, sound_read}
use Rattle.obj_memory.proofs.laws.what_is_read_is_sound.Goals as goal

pub returns : goal.returns
returns c = record {
  word = λ functions. read_below {functions = functions};
  tag = λ functions. sound_read {functions = functions};
}
