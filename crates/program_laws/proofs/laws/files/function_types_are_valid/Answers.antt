use Rattle.program_laws.proofs.Files.Functions.{function_types_end}
use Rattle.program_laws.proofs.laws.files.function_types_are_valid.Goals as goal

pub returns : goal.returns
returns c = function_types_end
