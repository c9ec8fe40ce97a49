use Rattle.program_laws.proofs.TreeSizes.Words.{unit_count}
use Rattle.program_laws.proofs.laws.tree_sizes.words_are_counted.Goals as goal

pub returns : goal.returns
returns c = unit_count
