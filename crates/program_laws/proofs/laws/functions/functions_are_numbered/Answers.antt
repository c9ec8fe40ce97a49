use Rattle.program_laws.proofs.Functions.Main.{functions_stand}
use Rattle.program_laws.proofs.laws.functions.functions_are_numbered.Goals as goal

pub returns : goal.returns
returns c = functions_stand
