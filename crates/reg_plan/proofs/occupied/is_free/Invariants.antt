use Rattle.std.proofs.Common.{◌≡◌, ◌<◌, ℕ, false, true, Some}
use Rattle.std.specs.Prelude.{slice_get}
use Rattle.reg_plan.specs.declared.plan.LiveInterval.{LiveInterval}
use Rattle.reg_plan.specs.Accepted.{holds, covers}
use Rattle.reg_plan.proofs.occupied.is_free.Given as goal

abbrev pub invariant-loop-interval : goal.invariant-loop-interval
invariant-loop-interval l = (k pc : ℕ) (i : LiveInterval) → k < l.interval-index → slice_get l.range k ≡ Some i
    → holds i pc ≡ true → covers l.used pc ≡ false
