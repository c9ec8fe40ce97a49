use Rattle.std.proofs.Common.{◌≡◌, ◌+◌, ◌-◌, length}
use Rattle.data_flow.specs.NodeSets.{node_count, absent}
use Rattle.data_flow.proofs.Solving.{Solving, Kills}
use Rattle.data_flow.proofs.solver.least_runs.Given as goal

abbrev pub invariant-loop-done : goal.invariant-loop-done
invariant-loop-done l = record {
  solving : Solving l.edges l.generated l.killed l.killing l.begun l.firsts.items l.runs.items l.done;
  kills : Kills l.killed l.killing;
  begun_size : node_count l.begun ≡ node_count l.initial.begun;
  killing_size : node_count l.killing ≡ node_count l.initial.begun;
}

abbrev pub decreases-loop-done : goal.decreases-loop-done
decreases-loop-done l = absent l.begun + (length l.firsts.items - l.done)
