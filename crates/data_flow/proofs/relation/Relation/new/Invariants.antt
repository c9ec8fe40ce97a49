use Rattle.std.proofs.Common.{◌≡◌, ℕ, [], length}
use Rattle.std.specs.Prelude.{slice_get}
use Rattle.data_flow.specs.Relations.{items_of}
use Rattle.data_flow.proofs.relation.Relation.new.Given as goal

abbrev pub invariant-loop : goal.invariant-loop
invariant-loop l = record {
  size : length l.rows.items ≡ l.counter;
  none : (a : ℕ) → items_of (slice_get l.rows.items a) ≡ [];
}
