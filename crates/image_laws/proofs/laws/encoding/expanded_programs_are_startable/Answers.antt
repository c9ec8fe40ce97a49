use Rattle.image_laws.proofs.Encoding.Programs.{startable}
use Rattle.image_laws.proofs.laws.encoding.expanded_programs_are_startable.Goals as goal

pub returns : goal.returns
returns _ e homes runtime = startable e homes runtime
