use Rattle.c_lower.proofs.Programs.{lower_follows}
use Rattle.c_lower.proofs.laws.lowered_code_follows_its_program.Goals as goal

pub returns : goal.returns
returns c = lower_follows
