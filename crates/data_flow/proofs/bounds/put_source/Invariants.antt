use Rattle.data_flow.specs.Stretches.{HaveSources}
use Rattle.data_flow.proofs.bounds.put_source.Given as goal

abbrev pub invariant-loop-other : goal.invariant-loop-other
invariant-loop-other l = HaveSources l.edges l.sources.items
