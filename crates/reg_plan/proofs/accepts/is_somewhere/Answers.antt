use Rattle.std.proofs.Common.{arith}
use Rattle.std.proofs.lemmas.Option.{slice_get_within}
use Rattle.reg_plan.proofs.GivingOut.{covers_by}
use Rattle.reg_plan.proofs.accepts.is_somewhere.Goals as goal

pub returns-clause-no : goal.returns-clause-no
returns-clause-no c pc lt h =
    let o = covers_by c.args.range.now pc h in
    absurd (c.loop-interval.invariant o.0 pc o.1
    (let l = slice_get_within c.args.range.now o.0 o.1 o.2 in omega (arith, c.loop-interval-test.false)) o.2 lt o.3)
