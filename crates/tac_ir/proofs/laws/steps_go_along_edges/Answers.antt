use Rattle.tac_ir.proofs.Along.{act_along}
use Rattle.tac_ir.proofs.laws.steps_go_along_edges.Goals as goal

pub returns : goal.returns
returns c = act_along
