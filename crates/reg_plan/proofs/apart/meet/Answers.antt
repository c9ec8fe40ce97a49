use Rattle.std.proofs.Common.{arith}
use Rattle.std.proofs.lemmas.Option.{slice_get_within}
use Rattle.reg_plan.proofs.GivingOut.{covers_by}
use Rattle.reg_plan.proofs.apart.meet.Goals as goal

pub returns-clause-no : goal.returns-clause-no
returns-clause-no c m =
    let o = covers_by c.args.left.now m.0 m.2 in
    absurd (c.loop-interval.invariant o.0 m.0 o.1
    (let l = slice_get_within c.args.left.now o.0 o.1 o.2 in omega (arith, c.loop-interval-test.false)) o.2 m.1
    o.3 m.3)
