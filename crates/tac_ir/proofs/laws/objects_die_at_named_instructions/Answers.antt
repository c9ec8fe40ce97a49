use Rattle.tac_ir.proofs.Living.{act_lives}
use Rattle.tac_ir.proofs.laws.objects_die_at_named_instructions.Goals as goal

pub returns : goal.returns
returns c = act_lives
