use Rattle.data_flow.specs.Stretches.{HaveSources}
use Rattle.data_flow.proofs.bounds.all_sources.Given as goal

abbrev pub invariant-loop-node : goal.invariant-loop-node
invariant-loop-node l = HaveSources l.edges l.sources.items
