use Rattle.machine_laws.proofs.View.Leaving.{writes_bytes, writes_errors}
use Rattle.machine_laws.proofs.laws.view.write_sends_bytes.Goals as goal

pub returns-clause-output : goal.returns-clause-output
returns-clause-output c = writes_bytes

pub returns-clause-errors : goal.returns-clause-errors
returns-clause-errors c = writes_errors
