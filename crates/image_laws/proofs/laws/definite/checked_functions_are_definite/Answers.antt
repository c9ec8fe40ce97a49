use Rattle.image_laws.proofs.Entered.Plans.{definite}
use Rattle.image_laws.proofs.laws.definite.checked_functions_are_definite.Goals as goal

pub returns : goal.returns
returns _ p x valid checked covered u c at whole = definite p x valid checked covered u c at whole
