use Rattle.image_laws.proofs.Assignment.Laid.{plannable}
use Rattle.image_laws.proofs.laws.assignment.assigned_functions_are_plannable.Goals as goal

pub returns : goal.returns
returns _ p u count put begin c begins made f same small assigns names homes =
    plannable p u count put begin c begins made f same small assigns names homes
