use Rattle.program_laws.proofs.Functions.Main.{types_are_those}
use Rattle.program_laws.proofs.laws.functions.function_types_have_signatures.Goals as goal

pub returns : goal.returns
returns c = types_are_those
