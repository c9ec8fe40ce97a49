use Rattle.program_laws.proofs.Names.Files.{file_whole}
use Rattle.program_laws.proofs.laws.bodies.files_have_valid_definitions.Goals as goal

pub returns : goal.returns
returns c = file_whole
