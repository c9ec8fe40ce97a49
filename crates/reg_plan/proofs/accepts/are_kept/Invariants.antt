use Rattle.std.proofs.Common.{◌<◌, ℕ}
use Rattle.reg_plan.specs.Tests.{IsKept}
use Rattle.reg_plan.proofs.accepts.are_kept.Given as goal

abbrev pub invariant-loop-register : goal.invariant-loop-register
invariant-loop-register l = (x : ℕ) → x < l.register → IsKept l.function l.plan l.count x
