use Rattle.program_lowering.proofs.StatementParts.BlockParts.{leave_there}
use Rattle.program_lowering.proofs.parts.block.leave.Goals as goal

pub returns-in_ok-exits : goal.returns-in_ok-exits
returns-in_ok-exits c =
    leave_there c.has_objects.ensures c.if-has_objects.true c.in_ok-block.ensures c.in_ok-exits.ensures
