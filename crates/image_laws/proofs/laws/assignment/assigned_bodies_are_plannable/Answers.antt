use Rattle.image_laws.proofs.Assignment.Alone.{alone_plannable}
use Rattle.image_laws.proofs.laws.assignment.assigned_bodies_are_plannable.Goals as goal

pub returns : goal.returns
returns _ p u count f small assigns names homes = alone_plannable p u count f small assigns names homes
