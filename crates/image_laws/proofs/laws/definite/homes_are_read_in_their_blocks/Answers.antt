use Rattle.image_laws.proofs.Entered.Functions.{homes_entered}
use Rattle.image_laws.proofs.laws.definite.homes_are_read_in_their_blocks.Goals as goal

pub returns : goal.returns
returns _ p r valid checked u c at = homes_entered p r valid checked u c at
