use Rattle.tac_ir.proofs.KeyedChecks.{check_keyed}
use Rattle.tac_ir.proofs.laws.checks_are_of_their_keys.Goals as goal

pub returns : goal.returns
returns c = check_keyed
