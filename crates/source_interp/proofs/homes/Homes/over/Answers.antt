use Rattle.std.proofs.Common.{arith}
use Rattle.source_interp.proofs.Housing.{over_more}
use Rattle.source_interp.proofs.homes.Homes.over.Goals as goal

pub loop-i-preserved : goal.loop-i-preserved
loop-i-preserved c =
    over_more c.args.self.now c.args.inner.now c.loop-i.items.items c.push.new.self.items c.loop-i.i c.home.result
    c.home-in-loop-i.result c.over.result c.loop-i.invariant (omega (
      arith,
      c.loop-i-test.true,
      c.loop-i.auto.i-end,
      c.max-i-end.ensures,
      c.count.ensures,
      c.count-2.ensures,
    )) c.home.ensures c.home-in-loop-i.ensures c.over.ensures
    c.in_ok-push.ensures.items
