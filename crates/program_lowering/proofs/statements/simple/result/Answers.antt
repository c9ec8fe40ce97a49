use Rattle.program_lowering.proofs.StatementCode.SingleStatements.{result_code}
use Rattle.program_lowering.proofs.statements.simple.result.Goals as goal

pub returns : goal.returns
returns c = result_code c.args.e.now c.in_ok-taken.ensures c.in_ok-first.ensures
