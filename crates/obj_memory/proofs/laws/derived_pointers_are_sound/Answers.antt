use Rattle.obj_memory.proofs.Judging.{sound_pointer, sound_offset, sound_narrowed, narrowed_part}
use Rattle.obj_memory.proofs.laws.derived_pointers_are_sound.Goals as goal

pub returns : goal.returns
returns c = record { whole = sound_pointer; moved = sound_offset; narrowed = sound_narrowed; part = narrowed_part }
