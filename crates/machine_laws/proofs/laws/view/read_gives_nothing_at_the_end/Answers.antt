use Rattle.machine_laws.proofs.View.Leaving.{reads_nothing}
use Rattle.machine_laws.proofs.laws.view.read_gives_nothing_at_the_end.Goals as goal

pub returns : goal.returns
returns c = reads_nothing
