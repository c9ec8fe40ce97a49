use Rattle.std.proofs.Common.{◌≡◌, ◌<◌, ℕ, Some, ◌+◌, ◌-◌, length}
use Rattle.std.specs.Prelude.{slice_get}
use Rattle.data_flow.specs.NodeSets.{absent}
use Rattle.check_elim.specs.Searches.{Listed, IsFollowed, IsExploring}
use Rattle.check_elim.proofs.graph.predecessors.Given as goal

abbrev pub invariant-loop-done : goal.invariant-loop-done
invariant-loop-done l = record {
  exploring : IsExploring l.function l.reached l.before;
  entry : l.function.entry < length l.function.code → Listed l.reached l.function.entry;
  done : (k v : ℕ) → k < l.done → slice_get l.reached.nodes.items k ≡ Some v
      → IsFollowed l.function l.reached l.before v;
}

abbrev pub decreases-loop-done : goal.decreases-loop-done
decreases-loop-done l = absent l.reached.set + (length l.reached.nodes.items - l.done)
