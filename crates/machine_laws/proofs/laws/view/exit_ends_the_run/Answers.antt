use Rattle.machine_laws.proofs.View.Leaving.{exits}
use Rattle.machine_laws.proofs.laws.view.exit_ends_the_run.Goals as goal

pub returns : goal.returns
returns c = exits
