use Rattle.rv_sim.proofs.Behaves.{machine_is_machine}
use Rattle.rv_sim.proofs.laws.machine_is_machine.Goals as goal

pub returns : goal.returns
returns c = machine_is_machine
