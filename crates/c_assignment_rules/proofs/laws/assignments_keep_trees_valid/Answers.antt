use Rattle.c_assignment_rules.proofs.FineWriting.{assignment_fine, compound_fine, stepped_fine}
use Rattle.c_assignment_rules.proofs.laws.assignments_keep_trees_valid.Goals as goal

pub returns : goal.returns
returns c = record { assignment = assignment_fine; compound = compound_fine; stepped = stepped_fine }
