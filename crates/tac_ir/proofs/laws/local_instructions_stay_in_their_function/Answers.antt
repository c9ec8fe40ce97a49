use Rattle.tac_ir.proofs.Along.{act_stays}
use Rattle.tac_ir.proofs.laws.local_instructions_stay_in_their_function.Goals as goal

pub returns : goal.returns
returns c = act_stays
