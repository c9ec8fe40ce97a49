use Rattle.program_laws.proofs.Names.Has.{program_has}
use Rattle.program_laws.proofs.laws.names.programs_have_their_files.Goals as goal

pub returns : goal.returns
returns c = program_has
