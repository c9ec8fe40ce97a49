use Rattle.sbcets_core.proofs.Meant.{limit_meant}
use Rattle.sbcets_core.proofs.laws.a_run_to_the_limit_is_meant.Goals as goal

pub returns : goal.returns
returns c = limit_meant
