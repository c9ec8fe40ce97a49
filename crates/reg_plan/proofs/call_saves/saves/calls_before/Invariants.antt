use Rattle.std.proofs.Common.{◌≡◌, ◌≤◌, ◌+◌, ℕ, length, Some}
use Rattle.std.specs.Prelude.{slice_get}
use Rattle.reg_plan.specs.Saves.Saves.{calls_before}
use Rattle.reg_plan.proofs.call_saves.saves.calls_before.Given as goal

abbrev pub invariant-loop-place : goal.invariant-loop-place
invariant-loop-place l = record {
  size : length l.before.items ≡ l.place + 1;
  each : (pc : ℕ) → pc ≤ l.place → slice_get l.before.items pc ≡ Some (calls_before l.body pc);
  count : l.count ≡ calls_before l.body l.place;
  small : l.count ≤ l.place;
}
