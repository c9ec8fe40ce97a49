use Rattle.std.proofs.Common.{arith}
use Rattle.reg_plan.proofs.Order.{ordered}
use Rattle.reg_plan.proofs.lookup.is_in_order.Goals as goal

pub returns : goal.returns
returns c _ =
    let r = c.loop-next.invariant in
    ordered c.args.range.now
    (λ k d lt. r.starts k d (omega (arith, lt, c.loop-next-test.false)))
    (λ k d lt. r.ends k d (omega (arith, lt, c.loop-next-test.false)))
