use Rattle.std.proofs.Common.{◌≡◌, ◌≤◌, ℕ, Some, true, false, length}
use Rattle.std.specs.Prelude.{slice_get}
use Rattle.data_flow.specs.NodeSets.{is_in, node_count}
use Rattle.data_flow.specs.Runs.{AreFound, Grows, is_covered}
use Rattle.data_flow.proofs.solver.visit_runs.Given as goal

abbrev pub invariant-loop-left : goal.invariant-loop-left
invariant-loop-left l = record {
  within : l.left ≤ length l.nodes;
  found : AreFound l.flow.edges.now l.flow.generated.now l.flow.killed.now l.begun l.firsts.items l.runs.items;
  grows : Grows l.initial.begun l.begun l.initial.firsts.items l.firsts.items l.initial.runs.items l.runs.items;
  covered : (k v : ℕ) → l.left ≤ k → slice_get l.nodes k ≡ Some v → is_in l.but v ≡ false
      → is_covered l.runs.items v ≡ true;
  size : node_count l.begun ≡ node_count l.initial.begun;
}

abbrev pub decreases-loop-left : goal.decreases-loop-left
decreases-loop-left l = l.left
