use Rattle.program_laws.proofs.Names.Meant.{static_meant}
use Rattle.program_laws.proofs.laws.names.names_of_static_objects_are_meant.Goals as goal

pub returns : goal.returns
returns c = static_meant
