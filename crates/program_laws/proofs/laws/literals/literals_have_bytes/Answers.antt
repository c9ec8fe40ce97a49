use Rattle.program_laws.proofs.Literals.Ends.{literals_bytes}
use Rattle.program_laws.proofs.laws.literals.literals_have_bytes.Goals as goal

pub returns : goal.returns
returns c = literals_bytes
