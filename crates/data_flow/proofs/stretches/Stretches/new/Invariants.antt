use Rattle.std.proofs.Common.{◌≡◌, length}
use Rattle.data_flow.specs.Stretches.{AreStretches}
use Rattle.data_flow.proofs.stretches.Stretches.new.Given as goal

abbrev pub invariant-loop-node : goal.invariant-loop-node
invariant-loop-node l = record {
  size : length l.stretches.starts.items ≡ l.node;
  stretches : AreStretches l.edges l.stretches;
}
