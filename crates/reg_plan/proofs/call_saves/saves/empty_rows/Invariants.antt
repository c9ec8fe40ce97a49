use Rattle.std.proofs.Common.{◌≡◌, ℕ, length, []}
use Rattle.std.specs.Prelude.{slice_get}
use Rattle.reg_plan.specs.Saves.Saves.{items_of}
use Rattle.reg_plan.proofs.call_saves.saves.empty_rows.Given as goal

abbrev pub invariant-loop : goal.invariant-loop
invariant-loop l = record {
  size : length l.rows.items ≡ l.counter;
  empty : (k : ℕ) → items_of (slice_get l.rows.items k) ≡ [];
}
