use Rattle.std.proofs.Common.{◌≡◌, length}
use Rattle.data_flow.specs.Stretches.{HaveBounds}
use Rattle.data_flow.proofs.bounds.all_bounds.Given as goal

abbrev pub invariant-loop-node : goal.invariant-loop-node
invariant-loop-node l = record {
  size : length l.bounds.items ≡ l.node;
  bounds : HaveBounds l.edges l.bounds.items;
}
