use Rattle.check_insert.proofs.SameButChecks.{inserted_is_same}
use Rattle.check_insert.proofs.laws.checked_code_is_the_same_but_for_checks.Goals as goal

pub returns : goal.returns
returns c = inserted_is_same
