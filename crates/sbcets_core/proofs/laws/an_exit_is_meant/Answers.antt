use Rattle.sbcets_core.proofs.Meant.{exit_meant}
use Rattle.sbcets_core.proofs.laws.an_exit_is_meant.Goals as goal

pub returns : goal.returns
returns c = exit_meant
