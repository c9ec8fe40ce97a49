use Rattle.program_laws.proofs.TreeSizes.Recursion.{shape_bound, specification_bound}
use Rattle.program_laws.proofs.laws.tree_sizes.declarators_add_few_literals.Goals as goal

pub returns : goal.returns
returns c = record { declarator = shape_bound; specifiers = specification_bound }
