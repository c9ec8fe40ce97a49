use Rattle.std.proofs.Common.{ap, ◌∙◌, Err}
use Rattle.std.proofs.lemmas.Result.{err_from_is_err_and}
use Rattle.source_interp.specs.Outside.{outside}
use Rattle.std.proofs.Common.{arith}
use Rattle.source_meaning.specs.Calls.{write_parameters}
use Rattle.source_interp.proofs.Acting.{begins_all}
use Rattle.source_interp.proofs.Calling.{all_written, none_written, one_written}
use Rattle.source_interp.proofs.machine.Machine.write_parameters.Goals as goal

pub loop-i-init : goal.loop-i-init
loop-i-init g c e w i =
    begins_all e c.args.self.now (outside w (g.T.Trace.noted c.args.trace.now) i) (write_parameters
    c.args.parameters.now c.args.homes.now c.args.line c.args.arguments.now)

pub loop-i-preserved : goal.loop-i-preserved
loop-i-preserved g c e w i =
    one_written c.args.parameters.now c.args.homes.now c.args.arguments.now c.args.line c.loop-i.i
    c.nth-parameter.result c.loop-i-test.true c.nth-parameter.ensures e c.args.self.now c.loop-i.self
    c.write_nth.new.self (outside w (g.T.Trace.noted c.args.trace.now) i) (outside w (g.T.Trace.noted
    c.loop-i.trace) i) (outside w (g.T.Trace.noted c.write_nth.new.trace) i) c.home.result c.home.ensures
    (c.loop-i.invariant e w i) c.in_ok-write_nth.field-0 c.write_nth.result c.in_ok-write_nth.was
    (c.write_nth.ensures e w i)

pub returns-in_err-write_nth : goal.returns-in_err-write_nth
returns-in_err-write_nth g c e w i =
    let p = err_from_is_err_and c.from_residual.result c.from_residual.ensures.1 in none_written
    c.args.parameters.now c.args.homes.now c.args.arguments.now c.args.line c.loop-i.i c.nth-parameter.result
    c.loop-i-test.true c.nth-parameter.ensures e c.args.self.now c.loop-i.self c.write_nth.new.self (outside w
    (g.T.Trace.noted c.args.trace.now) i) (outside w (g.T.Trace.noted c.loop-i.trace) i) (outside w
    (g.T.Trace.noted c.write_nth.new.trace) i) c.home.result c.home.ensures (c.loop-i.invariant e w i)
    c.in_err-write_nth.field-0.0 c.write_nth.result c.from_residual.result c.in_err-write_nth.was (p.1 ∙ ap Err
    p.2) (c.write_nth.ensures e w i)

pub returns : goal.returns
returns g c e w i =
    all_written c.args.parameters.now c.args.homes.now c.args.arguments.now c.args.line c.loop-i.i (omega
    (arith, c.loop-i-test.false)) e c.args.self.now c.loop-i.self (outside w (g.T.Trace.noted c.args.trace.now)
    i) (outside w (g.T.Trace.noted c.loop-i.trace) i) (c.loop-i.invariant e w i)
