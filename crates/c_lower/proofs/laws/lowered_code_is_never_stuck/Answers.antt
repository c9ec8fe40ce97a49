use Rattle.c_lower.proofs.Programs.{lower_never_stuck}
use Rattle.c_lower.proofs.laws.lowered_code_is_never_stuck.Goals as goal

pub returns : goal.returns
returns c = lower_never_stuck
