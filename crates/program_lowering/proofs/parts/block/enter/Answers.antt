use Rattle.program_lowering.proofs.StatementParts.BlockParts.{entry_of}
use Rattle.program_lowering.proofs.parts.block.enter.Goals as goal

pub returns-in_ok-entry-in-Some : goal.returns-in_ok-entry-in-Some
returns-in_ok-entry-in-Some c = entry_of c.in-Some.is c.in_ok-entry-in-Some.ensures
