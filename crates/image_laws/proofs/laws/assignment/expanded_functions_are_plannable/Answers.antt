use Rattle.image_laws.proofs.Assignment.Expanded.{expanded_plannable}
use Rattle.image_laws.proofs.laws.assignment.expanded_functions_are_plannable.Goals as goal

pub returns : goal.returns
returns _ p e u c homes read write entries callees same closed definite small own =
    expanded_plannable p e u c homes read write entries callees same closed definite small own
