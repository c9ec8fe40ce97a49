use Rattle.std.proofs.Common.{◌≡◌, ℕ, ◌<◌, ◌⊎◌, true, Some}
use Rattle.std.specs.Prelude.{slice_get}
use Rattle.data_flow.specs.Relations.{Has}
use Rattle.data_flow.specs.NodeSets.{is_in, node_count}
use Rattle.data_flow.proofs.solver.insert_all.Given as goal

abbrev pub invariant-loop-node : goal.invariant-loop-node
invariant-loop-node l = record {
  has : (k v : ℕ) → k < l.node-index → slice_get l.nodes k ≡ Some v → is_in l.set v ≡ true;
  only : (v : ℕ) → is_in l.set v ≡ true → (is_in l.initial.set v ≡ true) ⊎ Has l.nodes v;
  size : node_count l.set ≡ node_count l.initial.set;
}
