use Rattle.obj_memory.proofs.Judging.{judge_inside}
use Rattle.obj_memory.proofs.laws.judged_access_is_of_a_live_object.Goals as goal

pub returns : goal.returns
returns c = judge_inside
