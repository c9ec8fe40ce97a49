use Rattle.std.proofs.Common.{◌-◌, length, arith}
use Rattle.reg_plan.proofs.Saves.Calls.{calls_grow, count_at, puts_between}
use Rattle.reg_plan.proofs.call_saves.rows.put_interval.Goals as goal

pub put_between-requires : goal.put_between-requires
put_between-requires c =
    let body = c.args.body.now in
    let n = c.end_before.result in
    let e = count_at c.args.before.now body c.requires.counts n c.end_before.ensures.within in
    let l = calls_grow body n (length body - n) (length body) (omega (arith, c.end_before.ensures.within)) in
    omega (arith, e, l, c.requires.size)

pub returns : goal.returns
returns c =
    let body = c.args.body.now in
    puts_between body c.args.rows.now.items c.put_between.new.rows.items c.args.register _ _ c.first_before.result
    c.end_before.result c.args.interval.start c.args.interval.end
    (count_at c.args.before.now body c.requires.counts c.first_before.result c.first_before.ensures.within)
    (count_at c.args.before.now body c.requires.counts c.end_before.result c.end_before.ensures.within)
    c.first_before.ensures.first c.end_before.ensures.end c.put_between.ensures.size c.in_ok-put.ensures.rows
