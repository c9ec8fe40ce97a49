use Rattle.data_flow.specs.Stretches.{IsInner}
use Rattle.data_flow.proofs.stretches.Stretches.inner_of.Given as goal

abbrev pub invariant-loop-first : goal.invariant-loop-first
invariant-loop-first l = IsInner l.graph.edges.now l.first l.node

abbrev pub decreases-loop-first : goal.decreases-loop-first
decreases-loop-first l = l.first
