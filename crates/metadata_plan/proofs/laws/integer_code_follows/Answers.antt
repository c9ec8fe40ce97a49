use Rattle.metadata_plan.proofs.Following.{code_follows}
use Rattle.metadata_plan.proofs.laws.integer_code_follows.Goals as goal

pub returns : goal.returns
returns c = code_follows
