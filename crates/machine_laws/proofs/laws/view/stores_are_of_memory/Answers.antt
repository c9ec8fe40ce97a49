use Rattle.machine_laws.proofs.View.Places.{store_data}
use Rattle.machine_laws.proofs.laws.view.stores_are_of_memory.Goals as goal

pub returns : goal.returns
returns c = store_data
