use Rattle.program_laws.proofs.Sizes.Files.{file_sizes}
use Rattle.program_laws.proofs.laws.sizes.objects_with_linkage_are_complete.Goals as goal

pub returns : goal.returns
returns c = file_sizes
