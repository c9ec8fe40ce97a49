use Rattle.tac_ir.proofs.Turns.{is_stepping}
use Rattle.tac_ir.proofs.laws.steps_begin_at_most_one_turn.Goals as goal

pub returns : goal.returns
returns c = is_stepping
