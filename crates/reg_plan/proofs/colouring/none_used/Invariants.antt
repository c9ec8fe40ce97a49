use Rattle.std.proofs.Common.{◌≡◌, ℕ, [], length}
use Rattle.reg_plan.specs.Colours.{range_of}
use Rattle.reg_plan.proofs.colouring.none_used.Given as goal

abbrev pub invariant-loop : goal.invariant-loop
invariant-loop l = record {
  count : length l.used.items ≡ l.counter;
  none : (r : ℕ) → range_of l.used.items r ≡ [];
}
