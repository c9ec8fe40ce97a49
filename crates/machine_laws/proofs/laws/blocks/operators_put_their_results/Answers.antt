use Rattle.machine_laws.proofs.Blocks.Local.{operate_puts, single_operator}
use Rattle.machine_laws.proofs.laws.blocks.operators_put_their_results.Goals as goal

pub returns-clause-puts : goal.returns-clause-puts
returns-clause-puts c = operate_puts

pub returns-clause-single : goal.returns-clause-single
returns-clause-single c = single_operator
