use Rattle.program_laws.proofs.Limits.Files.{unit_bounded}
use Rattle.program_laws.proofs.laws.limits.typed_functions_have_few_parameters.Goals as goal

pub returns : goal.returns
returns c = unit_bounded
