use Rattle.std.proofs.Common.{◌≡◌, ◌≤◌, ℕ, length, ◌&&◌, if◌then◌else◌}
use Rattle.std.specs.Prelude.{slice_get, nat_le, nat_lt}
use Rattle.reg_plan.specs.Saves.Saves.{items_of, with_last}
use Rattle.reg_plan.proofs.call_saves.rows.put_between.Given as goal

abbrev pub invariant-loop-k : goal.invariant-loop-k
invariant-loop-k l = record {
  end : l.fn.to ≤ l.fn.from → l.k ≡ l.fn.from;
  size : length l.rows.items ≡ length l.initial.rows.items;
  rows : (j : ℕ) → items_of (slice_get l.rows.items j)
      ≡ (if nat_le l.fn.from j && nat_lt j l.k
      then with_last (items_of (slice_get l.initial.rows.items j)) l.fn.register
      else items_of (slice_get l.initial.rows.items j));
}
