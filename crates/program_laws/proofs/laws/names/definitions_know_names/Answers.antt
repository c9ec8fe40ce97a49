use Rattle.program_laws.proofs.Names.Known.{definition_knows}
use Rattle.program_laws.proofs.laws.names.definitions_know_names.Goals as goal

pub returns : goal.returns
returns c = definition_knows
