-- The behaviour of the machine: what it shows within each number of instructions.
use Rattle.std.specs.Prelude.{ℕ, List, [], Option, Some, None}
use Rattle.behaviours.specs.Shown.{End, Status, Fault, Shown}
use Rattle.behaviours.specs.Behaviour.{Behaviour}
use Rattle.rv_sim.specs.declared.stop.Stop.{Stop}
use Rattle.rv_sim.specs.declared.stop.Stop.TheVariants.{Exited, Trap, Limit, InputFault, OutputFault}
use Rattle.rv_sim.specs.State.{MachineState}
use Rattle.rv_sim.specs.Run.{Configuration, Turn, runs}

-- where nothing was shown yet
abbrev pub begun : MachineState → List ℕ → Configuration
begun s input = record { state = s; input = input; output = []; errors = []; taken = 0; accesses = [] }

-- a run has ended with a status or by a trap; the other answers end none
abbrev pub end_of : Option Stop → Option End
end_of None = None
end_of (Some (Exited status)) = Some (Status status)
end_of (Some (Trap kind pc)) = Some Fault
end_of (Some Limit) = None
end_of (Some InputFault) = None
end_of (Some OutputFault) = None

abbrev pub shown_by : Turn → Shown
shown_by t = record {
  output = t.0.output;
  errors = t.0.errors;
  taken = t.0.taken;
  accesses = t.0.accesses;
  ending = end_of t.1;
}

-- a budget of n is n instructions: each is one turn, and one unit of work
unfoldable pub behaviour : MachineState → List ℕ → Behaviour
behaviour s input n = record { shown = shown_by (runs n (begun s input)); turns = n; work = n }
