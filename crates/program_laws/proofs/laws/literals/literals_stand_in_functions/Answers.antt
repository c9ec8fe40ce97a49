use Rattle.program_laws.proofs.Literals.Ends.{literals_stand}
use Rattle.program_laws.proofs.laws.literals.literals_stand_in_functions.Goals as goal

pub returns : goal.returns
returns c = literals_stand
