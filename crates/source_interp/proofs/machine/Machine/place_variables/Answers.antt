use Rattle.std.proofs.Common.{drop, ap, ◌∙◌, Err, arith}
use Rattle.std.proofs.lemmas.List.{drop_all}
use Rattle.std.proofs.lemmas.Result.{err_from_is_err_and}
use Rattle.source_interp.specs.Homes.{home_of, housed}
use Rattle.source_interp.proofs.Entering.{all_placed, none_placed, one_placed, placing_begins}
use Rattle.source_interp.proofs.machine.Machine.place_variables.Goals as goal

pub loop-i-init : goal.loop-i-init
loop-i-init c g o = placing_begins g o c.args.self.now c.new-homes.result c.args.variables.now c.new-homes.ensures

pub loop-i-preserved : goal.loop-i-preserved
loop-i-preserved c g o =
    one_placed g o c.args.self.now c.loop-i.self c.place_variable.new.self c.loop-i.homes c.args.variables.now
    c.loop-i.i
    c.nth-variable.result (c.loop-i.invariant g o) c.loop-i-test.true c.nth-variable.ensures (home_of
    c.in_ok-home.home) (housed c.place_variable.result) c.push.new.self (ap housed c.in_ok-home.was)
    c.in_ok-push.ensures
    (c.place_variable.ensures g o)

pub returns-in_err-home : goal.returns-in_err-home
returns-in_err-home c g o =
    let p = err_from_is_err_and c.from_residual.result c.from_residual.ensures.1 in none_placed g o c.args.self.now
    c.loop-i.self c.place_variable.new.self c.loop-i.homes c.args.variables.now c.loop-i.i c.nth-variable.result
    (c.loop-i.invariant g o) c.loop-i-test.true c.nth-variable.ensures c.in_err-home.field-0.0 (housed
    c.place_variable.result) c.from_residual.result (ap housed c.in_err-home.was) (p.1 ∙ ap Err p.2)
    (c.place_variable.ensures g o)

pub returns : goal.returns
returns c g o =
    all_placed g o c.args.self.now c.loop-i.self c.loop-i.homes c.args.variables.now (drop c.loop-i.i
    c.args.variables.now) (drop_all c.loop-i.i c.args.variables.now (omega (arith, c.loop-i-test.false)))
    (c.loop-i.invariant g o)
