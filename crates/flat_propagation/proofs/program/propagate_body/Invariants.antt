use Rattle.std.proofs.Common.{◌≡◌, ℕ, ◌+◌, ◌++◌, drop}
use Rattle.flat_propagation.specs.Known.{arriving_at}
use Rattle.flat_propagation.specs.Propagated.{rewritten_from}
use Rattle.flat_propagation.specs.Tables.{facts_of, IsBefore}
use Rattle.flat_propagation.proofs.program.propagate_body.Given as goal

abbrev pub invariant-loop-place : goal.invariant-loop-place
invariant-loop-place l = record {
  list : l.list.items ++ rewritten_from l.body l.place (drop l.place l.body) ≡ rewritten_from l.body 0 l.body;
  facts : (y : ℕ) → facts_of l.table y ≡ arriving_at l.body l.place y;
  before : IsBefore l.table (l.place + 1);
}
