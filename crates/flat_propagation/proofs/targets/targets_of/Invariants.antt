use Rattle.std.proofs.Common.{◌≡◌, ℕ, ◌<◌, drop}
use Rattle.std.specs.Prelude.{◌||◌}
use Rattle.data_flow.specs.NodeSets.{is_in, node_count}
use Rattle.flat_propagation.specs.Known.{some_jumps_to, is_target}
use Rattle.flat_propagation.proofs.targets.targets_of.Given as goal

abbrev pub invariant-loop-place : goal.invariant-loop-place
invariant-loop-place l = record {
  size : l.count ≡ node_count l.set;
  has : (q : ℕ) → q < l.count → (is_in l.set q || some_jumps_to l.place (drop l.place l.body) q) ≡ is_target l.body q;
}
