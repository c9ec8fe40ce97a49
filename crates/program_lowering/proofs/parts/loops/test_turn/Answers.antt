use Rattle.program_lowering.proofs.StatementParts.LoopParts.{head_code}
use Rattle.program_lowering.proofs.parts.loops.test_turn.Goals as goal

pub returns : goal.returns
returns c = head_code c.in_ok-turn.ensures c.in_ok-branch.ensures c.in_ok-condition.ensures
