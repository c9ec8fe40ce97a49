use Rattle.std.proofs.Common.{◌<◌, ℕ}
use Rattle.reg_plan.specs.Colours.{range_of}
use Rattle.reg_plan.specs.Tests.{Meet, AreApart}
use Rattle.reg_plan.proofs.accepts.is_apart.Given as goal

abbrev pub invariant-loop-other : goal.invariant-loop-other
invariant-loop-other l = (y : ℕ) → y < l.other
    → Meet l.count (range_of l.plan.live.items l.register) (range_of l.plan.live.items y)
    → AreApart l.function l.plan l.register y
