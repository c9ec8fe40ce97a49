use Rattle.image_laws.proofs.Propagation.Encodable.{propagated_startable}
use Rattle.image_laws.proofs.laws.propagation.propagated_programs_are_startable.Goals as goal

pub returns : goal.returns
returns _ = propagated_startable
