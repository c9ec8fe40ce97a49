use Rattle.std.proofs.Common.{◌≡◌, ℕ, length, true}
use Rattle.std.specs.Prelude.{slice_get}
use Rattle.reg_plan.specs.Saves.Saves.{is_call_at, items_of, calls_before, saved_below}
use Rattle.reg_plan.proofs.call_saves.saves.rows_of.Given as goal

abbrev pub invariant-loop-register : goal.invariant-loop-register
invariant-loop-register l = record {
  size : length l.rows.items ≡ calls_before l.function.body (length l.function.body);
  rows : (pc : ℕ) → is_call_at l.function.body pc ≡ true
      → items_of (slice_get l.rows.items (calls_before l.function.body pc))
      ≡ saved_below l.function l.plan pc l.register;
}
