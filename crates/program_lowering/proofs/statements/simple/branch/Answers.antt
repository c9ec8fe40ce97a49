use Rattle.program_lowering.proofs.StatementParts.InitializerParts.{condition_some}
use Rattle.program_lowering.proofs.statements.simple.branch.Goals as goal

pub returns : goal.returns
returns c = condition_some c.in_ok-test.ensures c.in_ok-first.ensures
