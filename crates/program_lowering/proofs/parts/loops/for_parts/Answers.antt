use Rattle.program_lowering.proofs.StatementParts.LoopParts.{for_head_code}
use Rattle.program_lowering.proofs.parts.loops.for_parts.Goals as goal

pub returns : goal.returns
returns c =
    for_head_code c.in_ok-inside.ensures c.in_ok-turn.ensures c.in_ok-condition.ensures c.in_ok-step.ensures
