use Rattle.machine_laws.proofs.View.Leaving.{reads_byte}
use Rattle.machine_laws.proofs.laws.view.read_takes_a_byte.Goals as goal

pub returns : goal.returns
returns c = reads_byte
