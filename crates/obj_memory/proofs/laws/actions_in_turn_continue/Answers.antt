use Rattle.obj_memory.proofs.Continuing.{continues_same, continues_then}
use Rattle.obj_memory.proofs.Soundness.{sound_tag_continues}
use Rattle.obj_memory.proofs.laws.actions_in_turn_continue.Goals as goal

pub returns : goal.returns
returns c = record { none = continues_same; more = continues_then; tag = sound_tag_continues }
