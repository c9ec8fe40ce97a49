use Rattle.std.proofs.Common.{ap, refl, ◌∙◌, Ok, Err}
use Rattle.std.proofs.lemmas.Result.{err_from_is_err_and}
use Rattle.source_meaning.specs.State.{◌>>◌, tally}
use Rattle.source_interp.specs.Outside.{outside}
use Rattle.c_tree.specs.View.{function_of}
use Rattle.source_meaning.specs.Calls.{call_tests, header_of, lay_out}
use Rattle.source_interp.proofs.Acting.{stop_acts, then_acts}
use Rattle.source_interp.proofs.machine.Machine.set_up.Goals as goal

pub returns-in_err-call_tests : goal.returns-in_err-call_tests
returns-in_err-call_tests g c e w i limits =
    let p = err_from_is_err_and c.from_residual-in_err-call_tests.result
    c.from_residual-in_err-call_tests.ensures.1 in then_acts e c.args.self.now c.tally.new.self
    c.call_tests.new.self (outside w (g.T.Trace.noted c.args.trace.now) i) (outside w (g.T.Trace.noted
    c.args.trace.now) i) (outside w (g.T.Trace.noted c.args.trace.now) i) (Ok tt) tt
    c.from_residual-in_err-call_tests.result (tally 1) (λ _. ((call_tests e (header_of (function_of
    c.args.function.now)) c.args.line) >> (lay_out (header_of (function_of c.args.function.now))
    c.args.arguments.now c.args.line))) refl (c.tally.ensures e (outside w (g.T.Trace.noted c.args.trace.now)
    i)) (stop_acts e c.tally.new.self c.call_tests.new.self (outside w (g.T.Trace.noted c.args.trace.now) i)
    (outside w (g.T.Trace.noted c.args.trace.now) i) c.call_tests.result
    c.from_residual-in_err-call_tests.result c.in_err-call_tests.field-0.0 (call_tests e (header_of (function_of
    c.args.function.now)) c.args.line) (λ _. (lay_out (header_of (function_of c.args.function.now))
    c.args.arguments.now c.args.line)) c.in_err-call_tests.was (p.1 ∙ ap Err p.2) (c.call_tests.ensures e
    (outside w (g.T.Trace.noted c.args.trace.now) i) limits))

pub returns : goal.returns
returns g c e w i limits =
    then_acts e c.args.self.now c.tally.new.self c.lay_out.new.self (outside w (g.T.Trace.noted
    c.args.trace.now) i) (outside w (g.T.Trace.noted c.args.trace.now) i) (outside w (g.T.Trace.noted
    c.lay_out.new.trace) i) (Ok tt) tt c.lay_out.result (tally 1) (λ _. ((call_tests e (header_of (function_of
    c.args.function.now)) c.args.line) >> (lay_out (header_of (function_of c.args.function.now))
    c.args.arguments.now c.args.line))) refl (c.tally.ensures e (outside w (g.T.Trace.noted c.args.trace.now)
    i)) (then_acts e c.tally.new.self c.call_tests.new.self c.lay_out.new.self (outside w (g.T.Trace.noted
    c.args.trace.now) i) (outside w (g.T.Trace.noted c.args.trace.now) i) (outside w (g.T.Trace.noted
    c.lay_out.new.trace) i) c.call_tests.result c.in_ok-call_tests.field-0 c.lay_out.result (call_tests e
    (header_of (function_of c.args.function.now)) c.args.line) (λ _. (lay_out (header_of (function_of
    c.args.function.now)) c.args.arguments.now c.args.line)) c.in_ok-call_tests.was (c.call_tests.ensures e
    (outside w (g.T.Trace.noted c.args.trace.now) i) limits) (c.lay_out.ensures e w i))
