use Rattle.program_laws.proofs.Programs.Units.{unit_valid}
use Rattle.program_laws.proofs.laws.programs.typed_files_are_valid.Goals as goal

pub returns : goal.returns
returns c = unit_valid
