use Rattle.std.proofs.Common.{◌≡◌, ℕ, ◌+◌, ◌<◌, length}
use Rattle.flat_propagation.specs.Tables.{fact_among, AreBefore}
use Rattle.flat_propagation.proofs.table.reach.Given as goal

abbrev pub invariant-loop-step : goal.invariant-loop-step
invariant-loop-step l = record {
  size : length l.entries.items ≡ length l.initial.entries.items + l.step;
  facts : (block y : ℕ) → fact_among l.entries.items block y ≡ fact_among l.initial.entries.items block y;
  before : (time : ℕ) → 0 < time → AreBefore l.initial.entries.items time → AreBefore l.entries.items time;
}
