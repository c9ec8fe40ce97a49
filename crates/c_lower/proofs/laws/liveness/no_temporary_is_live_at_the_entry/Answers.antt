use Rattle.c_lower.proofs.Liveness.Statements.{none_is_live}
use Rattle.c_lower.proofs.laws.liveness.no_temporary_is_live_at_the_entry.Goals as goal

pub returns : goal.returns
returns c = none_is_live
