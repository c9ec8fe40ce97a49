use Rattle.program_laws.proofs.Functions.Main.{function_designated}
use Rattle.program_laws.proofs.laws.functions.defined_functions_are_designated.Goals as goal

pub returns : goal.returns
returns c = function_designated
