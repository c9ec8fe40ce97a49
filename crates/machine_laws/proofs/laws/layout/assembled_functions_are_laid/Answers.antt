use Rattle.machine_laws.proofs.CodeLayout.Laid.{laid}
use Rattle.machine_laws.proofs.laws.layout.assembled_functions_are_laid.Goals as goal

pub returns : goal.returns
returns c = laid
