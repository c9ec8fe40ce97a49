use Rattle.data_flow.specs.Stretches.{IsCover}
use Rattle.data_flow.proofs.cover.nearest.Given as goal

abbrev pub invariant-loop : goal.invariant-loop
invariant-loop l = IsCover l.graph.edges.now l.node l.cover
