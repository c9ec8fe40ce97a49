use Rattle.std.proofs.Common.{arith}
use Rattle.std.proofs.lemmas.Option.{slice_get_within}
use Rattle.reg_plan.proofs.GivingOut.{covers_by}
use Rattle.reg_plan.proofs.apart.interval_meets.Goals as goal

pub returns-clause-no : goal.returns-clause-no
returns-clause-no c pc lt h k =
    let o = covers_by c.args.range.now pc k in
    absurd (c.loop-right.invariant o.0 pc o.1
    (let l = slice_get_within c.args.range.now o.0 o.1 o.2 in omega (arith, c.loop-right-test.false)) o.2 lt h o.3)
