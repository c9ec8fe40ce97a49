use Rattle.program_laws.proofs.Programs.Units.{file_valid}
use Rattle.program_laws.proofs.laws.programs.programs_are_valid.Goals as goal

pub returns : goal.returns
returns c = file_valid
