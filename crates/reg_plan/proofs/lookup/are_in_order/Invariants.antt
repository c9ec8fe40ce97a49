use Rattle.std.proofs.Common.{◌<◌, ℕ}
use Rattle.reg_plan.specs.Colours.{range_of}
use Rattle.reg_plan.specs.Order.{IsInOrder}
use Rattle.reg_plan.proofs.lookup.are_in_order.Given as goal

abbrev pub invariant-loop-register : goal.invariant-loop-register
invariant-loop-register l = (y : ℕ) → y < l.register → IsInOrder (range_of l.plan.live.items y)
