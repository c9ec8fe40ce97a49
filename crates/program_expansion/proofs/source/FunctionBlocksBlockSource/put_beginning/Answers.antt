use Rattle.std.proofs.Common.{false}
use Rattle.program_expansion.proofs.source.FunctionBlocksBlockSource.put_beginning.Goals as goal

pub returns : goal.returns
returns g c = c.in_ok-put_prologue.ensures false
