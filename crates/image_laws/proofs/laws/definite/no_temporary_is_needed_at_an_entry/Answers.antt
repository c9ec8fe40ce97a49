use Rattle.image_laws.proofs.Entered.Functions.{unneeded}
use Rattle.image_laws.proofs.laws.definite.no_temporary_is_needed_at_an_entry.Goals as goal

pub returns : goal.returns
returns _ p r valid checked u c at z live = unneeded p r valid checked u c at z live
