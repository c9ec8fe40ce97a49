use Rattle.program_lowering.proofs.StatementParts.BlockParts.{ways_out}
use Rattle.program_lowering.proofs.parts.block.leave_block.Goals as goal

pub returns : goal.returns
returns c = ways_out c.in_ok-next.ensures c.in_ok-breaks.ensures c.in_ok-continues.ensures c.in_ok-returns.ensures
