use Rattle.std.proofs.Common.{◌≡◌, ◌<◌, ℕ, false}
use Rattle.reg_plan.specs.Effects.{is_among}
use Rattle.reg_plan.specs.Accepted.{IsLive}
use Rattle.reg_plan.proofs.closed.none_is_lost.Given as goal

abbrev pub invariant-loop-register : goal.invariant-loop-register
invariant-loop-register l = (y : ℕ) → y < l.register → IsLive l.plan l.to y → is_among l.made y ≡ false
    → IsLive l.plan l.from y
