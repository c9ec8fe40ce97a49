use Rattle.program_laws.proofs.Statics.Files.{file_objects}
use Rattle.program_laws.proofs.laws.statics.static_objects_of_files_are_valid.Goals as goal

pub returns : goal.returns
returns c = file_objects
