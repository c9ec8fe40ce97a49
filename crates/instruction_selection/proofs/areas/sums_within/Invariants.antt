use Rattle.std.proofs.Common.{◌≡◌, ℕ, ◌*◌, ◌<◌, ◌≤◌, get_or, length}
use Rattle.instruction_selection.specs.Areas.{sum_before}
use Rattle.instruction_selection.proofs.areas.sums_within.Given as goal

abbrev pub invariant-loop-i : goal.invariant-loop-i
invariant-loop-i l = record {
  size : length l.table.items ≡ l.i;
  sum : l.sum ≡ sum_before l.numbers l.i;
  room : 5 * l.sum ≤ l.room;
  each : (j : ℕ) → j < l.i → get_or l.table.items j 0 ≡ sum_before l.numbers j;
}
