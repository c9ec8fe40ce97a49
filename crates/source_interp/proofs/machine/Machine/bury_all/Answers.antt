use Rattle.std.proofs.Common.{drop, ap, ◌∙◌, Err, arith}
use Rattle.std.proofs.lemmas.List.{drop_all}
use Rattle.std.proofs.lemmas.Result.{err_from_is_err_and}
use Rattle.source_interp.proofs.Acting.{begins_all}
use Rattle.source_interp.proofs.Burying.{all_buried, none_buried, one_buried, without_all}
use Rattle.source_interp.proofs.machine.Machine.bury_all.Goals as goal

pub loop-i-init : goal.loop-i-init
loop-i-init c g o = begins_all g c.args.self.now o (without_all c.args.homes.now)

pub loop-i-preserved : goal.loop-i-preserved
loop-i-preserved c g o =
    one_buried g o c.args.self.now c.loop-i.self c.bury_home.new.self c.args.homes.now c.loop-i.i
    c.nth-home.result (c.loop-i.invariant g o) c.loop-i-test.true c.nth-home.ensures c.in_ok-bury_home.field-0
    c.bury_home.result c.in_ok-bury_home.was (c.bury_home.ensures g o)

pub returns-in_err-bury_home : goal.returns-in_err-bury_home
returns-in_err-bury_home c g o =
    let p = err_from_is_err_and c.from_residual.result c.from_residual.ensures.1 in none_buried g o c.args.self.now
    c.loop-i.self c.bury_home.new.self c.args.homes.now c.loop-i.i c.nth-home.result (c.loop-i.invariant g o)
    c.loop-i-test.true c.nth-home.ensures c.in_err-bury_home.field-0.0 c.bury_home.result c.from_residual.result
    c.in_err-bury_home.was (p.1 ∙ ap Err p.2) (c.bury_home.ensures g o)

pub returns : goal.returns
returns c g o =
    all_buried g o c.args.self.now c.loop-i.self c.args.homes.now (drop c.loop-i.i c.args.homes.now)
    (drop_all c.loop-i.i c.args.homes.now (omega (arith, c.loop-i-test.false))) (c.loop-i.invariant g o)
