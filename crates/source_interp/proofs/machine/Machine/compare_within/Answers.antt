use Rattle.std.proofs.Common.{sym, ap, ◌∙◌, Err}
use Rattle.std.proofs.lemmas.Result.{err_from_is_err_and}
use Rattle.std.proofs.Common.{arith}
use Rattle.source_interp.proofs.Comparing.{compare_begins, compare_ends, not_seen, pair_ends, pair_goes_on}
use Rattle.source_interp.proofs.machine.Machine.compare_within.Goals as goal

pub loop-init : goal.loop-init
loop-init c g o =
    compare_begins c.args.line g c.args.self.now o c.args.count c.args.left c.args.right

pub loop-preserved : goal.loop-preserved
loop-preserved c g o =
    pair_goes_on c.args.line g o c.args.self.now c.loop.self c.look_at_both.new.self c.args.count c.loop.counter
    c.loop-test.true c.args.left c.args.right c.loop.first c.loop.second (c.loop.invariant g o)
    c.in_ok-pair.pair c.look_at_both.result c.in_ok-pair.was (c.look_at_both.ensures g o) c.moved-first.result
    c.moved-second.result (sym c.goes_on.ensures ∙ c.if-goes_on.true) c.moved-first.ensures
    c.moved-second.ensures

pub returns-in_err-pair : goal.returns-in_err-pair
returns-in_err-pair c g o =
    let p = err_from_is_err_and c.from_residual.result c.from_residual.ensures.1 in not_seen c.args.line g o
    c.args.self.now c.loop.self c.look_at_both.new.self c.args.count c.loop.counter c.loop-test.true c.args.left
    c.args.right c.loop.first c.loop.second (c.loop.invariant g o) c.in_err-pair.field-0.0 c.look_at_both.result
    c.from_residual.result c.in_err-pair.was (p.1 ∙ ap Err p.2) (c.look_at_both.ensures g o)

pub returns-else-goes_on : goal.returns-else-goes_on
returns-else-goes_on c g o =
    pair_ends c.args.line g o c.args.self.now c.loop.self c.look_at_both.new.self c.args.count c.loop.counter
    c.loop-test.true c.args.left c.args.right c.loop.first c.loop.second (c.loop.invariant g o)
    c.in_ok-pair.pair c.look_at_both.result c.in_ok-pair.was (c.look_at_both.ensures g o) c.order.result (sym
    c.goes_on.ensures ∙ c.if-goes_on.false) c.order.ensures

pub returns : goal.returns
returns c g o =
    compare_ends c.args.line g o c.args.self.now c.loop.self c.args.count c.loop.counter (omega (
      arith,
      c.loop-test.false,
    )) c.args.left c.args.right c.loop.first c.loop.second (c.loop.invariant g o)
