use Rattle.machine_laws.proofs.View.Places.{load_data}
use Rattle.machine_laws.proofs.laws.view.loads_are_of_memory.Goals as goal

pub returns : goal.returns
returns c = load_data
