use Rattle.std.proofs.Common.{subst, sym}
use Rattle.reg_plan.specs.Order.{IsInOrder}
use Rattle.reg_plan.proofs.lookup.LiveLookup.is_live.Goals as goal

pub covers_in_order-requires : goal.covers_in_order-requires
covers_in_order-requires c =
    subst IsInOrder (sym c.range_of.ensures) (c.requires.order c.if-self.true c.args.register)
