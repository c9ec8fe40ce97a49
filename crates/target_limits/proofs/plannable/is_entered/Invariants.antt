use Rattle.std.proofs.Common.{ℕ, ◌<◌}
use Rattle.reg_plan.specs.Accepted.{IsLive}
use Rattle.target_limits.proofs.plannable.is_entered.Given as goal

abbrev pub invariant-loop-register : goal.invariant-loop-register
invariant-loop-register l = (y : ℕ) → y < l.register → IsLive l.plan 0 y → y < l.function.parameters
