use Rattle.tac_ir.proofs.PlainVariables.PlainVariables.{act_keeps}
use Rattle.tac_ir.proofs.laws.plain_variables.plain_variables_change_at_named_instructions.Goals as goal

pub returns : goal.returns
returns c = λ g t i u temps frames s y e. act_keeps g t i u temps frames s y e
