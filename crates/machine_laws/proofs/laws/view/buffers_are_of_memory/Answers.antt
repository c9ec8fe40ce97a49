use Rattle.machine_laws.proofs.View.Places.{sent_data, received_data}
use Rattle.machine_laws.proofs.laws.view.buffers_are_of_memory.Goals as goal

pub returns-clause-sent : goal.returns-clause-sent
returns-clause-sent c = sent_data

pub returns-clause-received : goal.returns-clause-received
returns-clause-received c = received_data
