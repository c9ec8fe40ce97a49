use Rattle.std.proofs.Common.{ap, ◌∙◌, Err, false}
use Rattle.std.proofs.lemmas.Result.{err_from_is_err_and}
use Rattle.source_meaning.specs.State.{◌>>◌, read_state, skip}
use Rattle.source_interp.specs.Outside.{outside}
use Rattle.source_meaning.specs.State.{InObject}
use Rattle.source_meaning.specs.Actions.{home_value}
use Rattle.source_meaning.specs.Structures.{write_rvalue}
use Rattle.source_interp.proofs.Calling.{writes_home, writes_nowhere}
use Rattle.source_interp.proofs.Acting.{stop_acts, then_acts}
use Rattle.source_interp.proofs.machine.Machine.write_parameter.Goals as goal

pub returns-in_err-pointer-in-Some : goal.returns-in_err-pointer-in-Some
returns-in_err-pointer-in-Some g c e w i =
    let p = err_from_is_err_and c.from_residual.result c.from_residual.ensures.1 in writes_home e
    c.args.self.now c.args.self.now (outside w (g.T.Trace.noted c.args.trace.now) i) (outside w (g.T.Trace.noted
    c.args.trace.now) i) c.args.kind c.args.home c.args.line c.args.argument.now c.in-Some.number
    c.from_residual.result c.in-Some.is (stop_acts e c.args.self.now c.args.self.now (outside w (g.T.Trace.noted
    c.args.trace.now) i) (outside w (g.T.Trace.noted c.args.trace.now) i) c.pointer_to.result
    c.from_residual.result c.in_err-pointer-in-Some.field-0.0 (read_state (λ s. home_value (InObject
    c.in-Some.number) s.objects)) (λ pointer. (write_rvalue c.args.kind false pointer c.args.line
    c.args.argument.now >> skip)) c.in_err-pointer-in-Some.was (p.1 ∙ ap Err p.2) (c.pointer_to.ensures e
    (outside w (g.T.Trace.noted c.args.trace.now) i)))

pub returns-in_ok-pointer-in-Some : goal.returns-in_ok-pointer-in-Some
returns-in_ok-pointer-in-Some g c e w i =
    writes_home e c.args.self.now c.store_rvalue.new.self (outside w (g.T.Trace.noted c.args.trace.now) i)
    (outside w (g.T.Trace.noted c.store_rvalue.new.trace) i) c.args.kind c.args.home c.args.line
    c.args.argument.now c.in-Some.number c.store_rvalue.result c.in-Some.is (then_acts e c.args.self.now
    c.args.self.now c.store_rvalue.new.self (outside w (g.T.Trace.noted c.args.trace.now) i) (outside w
    (g.T.Trace.noted c.args.trace.now) i) (outside w (g.T.Trace.noted c.store_rvalue.new.trace) i)
    c.pointer_to.result c.in_ok-pointer-in-Some.pointer c.store_rvalue.result (read_state (λ s. home_value
    (InObject c.in-Some.number) s.objects)) (λ pointer. (write_rvalue c.args.kind false pointer c.args.line
    c.args.argument.now >> skip)) c.in_ok-pointer-in-Some.was (c.pointer_to.ensures e (outside w
    (g.T.Trace.noted c.args.trace.now) i)) (c.store_rvalue.ensures e w i))

pub returns-in-None : goal.returns-in-None
returns-in-None g c e w i =
    writes_nowhere e c.args.self.now (outside w (g.T.Trace.noted c.args.trace.now) i) c.args.kind c.args.home
    c.args.line c.args.argument.now c.in-None.is
