use Rattle.std.proofs.Common.{◌≡◌, ◌<◌, ◌≤◌, ℕ, Some}
use Rattle.std.specs.Prelude.{slice_get}
use Rattle.data_flow.proofs.bounds.bounds_of.Given as goal

abbrev pub invariant-loop-other : goal.invariant-loop-other
invariant-loop-other l = record {
  least : (k v : ℕ) → k < l.other-index → slice_get l.list k ≡ Some v → l.first ≤ v;
  greatest : (k v : ℕ) → k < l.other-index → slice_get l.list k ≡ Some v → v ≤ l.last;
}
