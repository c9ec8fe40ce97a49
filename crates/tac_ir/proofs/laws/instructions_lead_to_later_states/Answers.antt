use Rattle.tac_ir.proofs.Later.{act_later}
use Rattle.tac_ir.proofs.laws.instructions_lead_to_later_states.Goals as goal

pub returns : goal.returns
returns c = act_later
