use Rattle.program_laws.proofs.Functions.Main.{main_defined}
use Rattle.program_laws.proofs.laws.functions.main_is_defined.Goals as goal

pub returns : goal.returns
returns c = main_defined
