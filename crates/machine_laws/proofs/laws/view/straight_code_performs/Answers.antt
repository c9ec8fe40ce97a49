use Rattle.machine_laws.proofs.View.Straight.{straight}
use Rattle.machine_laws.proofs.laws.view.straight_code_performs.Goals as goal

pub returns : goal.returns
returns c = straight
