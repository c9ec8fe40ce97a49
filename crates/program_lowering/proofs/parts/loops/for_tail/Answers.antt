use Rattle.program_lowering.proofs.StatementParts.LoopParts.{for_tail_code}
use Rattle.program_lowering.proofs.parts.loops.for_tail.Goals as goal

pub returns : goal.returns
returns c =
    for_tail_code c.requires.waits c.in_ok-setting.ensures c.in_ok-counted.ensures c.fill.ensures c.in_ok-entry.ensures
