use Rattle.program_laws.proofs.Programs.Units.{sizes_within}
use Rattle.program_laws.proofs.laws.programs.objects_have_sizes.Goals as goal

pub returns : goal.returns
returns c = sizes_within
