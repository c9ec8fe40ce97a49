use Rattle.std.proofs.Common.{◌≤◌}
use Rattle.data_flow.specs.declared.relation.Relation.{Relation}
use Rattle.data_flow.specs.Stretches.{IsStretch, AreStretches}
use Rattle.data_flow.proofs.stretches.Stretches.first_from.Given as goal

abbrev pub invariant-loop-next : goal.invariant-loop-next
invariant-loop-next l = record {
  from : l.bound ≤ l.first;
  stretch : (edges : Relation) → AreStretches edges l.self → IsStretch edges l.first l.node;
}

abbrev pub decreases-loop-next : goal.decreases-loop-next
decreases-loop-next l = l.first
