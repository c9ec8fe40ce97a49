use Rattle.std.proofs.Common.{◌≡◌, ◌<◌, ℕ, Some, ◌+◌, ◌-◌, length}
use Rattle.std.specs.Prelude.{slice_get}
use Rattle.data_flow.specs.NodeSets.{absent}
use Rattle.check_elim.specs.Searches.{IsSearching, IsDone}
use Rattle.check_elim.specs.Seeking.{fact_of}
use Rattle.check_elim.proofs.search.is_open.Given as goal

abbrev pub invariant-loop-done : goal.invariant-loop-done
invariant-loop-done l = record {
  searching : IsSearching l.sought.function.now (fact_of l.sought) l.node l.visited;
  done : (k v : ℕ) → k < l.done → slice_get l.visited.nodes.items k ≡ Some v
      → IsDone l.sought.function.now (fact_of l.sought) l.visited v;
}

abbrev pub decreases-loop-done : goal.decreases-loop-done
decreases-loop-done l = absent l.visited.set + (length l.visited.nodes.items - l.done)
