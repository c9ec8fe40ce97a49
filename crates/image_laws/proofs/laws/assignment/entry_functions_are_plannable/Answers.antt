use Rattle.image_laws.proofs.Assignment.Alone.{entry_plannable}
use Rattle.image_laws.proofs.laws.assignment.entry_functions_are_plannable.Goals as goal

pub returns : goal.returns
returns _ p u m t takes gives = entry_plannable p u m t takes gives
