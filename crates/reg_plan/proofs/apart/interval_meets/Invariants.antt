use Rattle.std.proofs.Common.{◌≡◌, ◌<◌, ℕ, true, Some}
use Rattle.std.specs.Prelude.{slice_get}
use Rattle.reg_plan.specs.declared.plan.LiveInterval.{LiveInterval}
use Rattle.reg_plan.specs.Accepted.{holds}
use Rattle.reg_plan.proofs.apart.interval_meets.Given as goal

abbrev pub invariant-loop-right : goal.invariant-loop-right
invariant-loop-right l = (k pc : ℕ) (i : LiveInterval) → k < l.right-index → slice_get l.range k ≡ Some i → pc < l.count
    → holds l.left pc ≡ true → holds i pc ≡ true → ⊥
