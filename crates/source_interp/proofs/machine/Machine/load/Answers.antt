use Rattle.std.proofs.Common.{ap, ◌∙◌, Err}
use Rattle.std.proofs.lemmas.Result.{err_from_is_err_and}
use Rattle.source_interp.specs.Outside.{outside}
use Rattle.source_interp.proofs.Accesses.{loads, loads_none}
use Rattle.source_interp.proofs.machine.Machine.load.Goals as goal

pub returns-in_err-place : goal.returns-in_err-place
returns-in_err-place g c e w i =
    let p = err_from_is_err_and c.from_residual.result c.from_residual.ensures.1 in
    loads_none e c.args.self.now c.args.self.now (outside w (g.T.Trace.noted c.args.trace.now) i)
    (outside w (g.T.Trace.noted c.args.trace.now) i) c.in_err-place.field-0.0 c.args.scalar c.args.is_judged
    c.args.pointer c.args.line c.size.result c.located.result c.from_residual.result c.size.ensures.value
    c.in_err-place.was (p.1 ∙ ap Err p.2)
    (c.located.ensures e (outside w (g.T.Trace.noted c.args.trace.now) i))

pub returns : goal.returns
returns g c e w i =
    loads e c.args.self.now c.args.self.now c.read_scalar.new.self (outside w (g.T.Trace.noted c.args.trace.now) i)
    (outside w (g.T.Trace.noted c.args.trace.now) i) (outside w (g.T.Trace.noted c.read_scalar.new.trace) i)
    c.args.scalar c.args.is_judged c.args.pointer c.args.line c.size.result c.in_ok-place.place c.located.result
    c.read_scalar.result c.size.ensures.value c.in_ok-place.was
    (c.located.ensures e (outside w (g.T.Trace.noted c.args.trace.now) i)) (c.read_scalar.ensures e w i)
