use Rattle.program_laws.proofs.TreeSizes.Recursion.{value_bound}
use Rattle.program_laws.proofs.laws.tree_sizes.expressions_have_few_nodes.Goals as goal

pub returns : goal.returns
returns c = value_bound
