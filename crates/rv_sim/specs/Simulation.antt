-- A machine that runs, or has stopped for good.
use Rattle.std.specs.Prelude.{Option, Some, None}
use Rattle.rv_sim.specs.declared.stop.Stop.{Stop}
use Rattle.rv_sim.specs.declared.stop.Stop.TheVariants.{Exited, Trap, Limit, InputFault, OutputFault}
use Rattle.rv_sim.specs.State.{MachineState}

pub record Simulation : Type 0 where
  pub state : MachineState
  pub stopped : Option Stop

-- after Limit the machine may run on; any other answer is its last
abbrev pub last_stop : Stop → Option Stop
last_stop Limit = None
last_stop (Exited status) = Some (Exited status)
last_stop (Trap kind pc) = Some (Trap kind pc)
last_stop InputFault = Some InputFault
last_stop OutputFault = Some OutputFault
