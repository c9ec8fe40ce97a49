use Rattle.std.proofs.Common.{ap, ◌∙◌, Err}
use Rattle.std.proofs.lemmas.Result.{err_from_is_err_and}
use Rattle.source_interp.specs.Outside.{outside}
use Rattle.source_interp.proofs.Accesses.{reads_no_scalar, reads_scalar}
use Rattle.source_interp.proofs.machine.Machine.read_scalar.Goals as goal

pub returns-in_err-note : goal.returns-in_err-note
returns-in_err-note g c e w i =
    let p = err_from_is_err_and c.from_residual.result c.from_residual.ensures.1 in
    reads_no_scalar e c.args.self.now c.note.new.self (outside w (g.T.Trace.noted c.args.trace.now) i)
    (outside w (g.T.Trace.noted c.note.new.trace) i) c.in_err-note.field-0.0 c.args.scalar c.args.address c.size.result
    c.args.place c.note.result c.from_residual.result c.size.ensures.value c.in_err-note.was (p.1 ∙ ap Err p.2)
    (c.note.ensures e w i)

pub returns : goal.returns
returns g c e w i =
    reads_scalar e c.args.self.now c.note.new.self c.note.new.self (outside w (g.T.Trace.noted c.args.trace.now) i)
    (outside w (g.T.Trace.noted c.note.new.trace) i) (outside w (g.T.Trace.noted c.note.new.trace) i)
    c.args.scalar c.args.address c.size.result c.args.place c.in_ok-note.field-0 c.note.result c.scalar_at.result
    c.size.ensures.value c.in_ok-note.was (c.note.ensures e w i)
    (c.scalar_at.ensures e (outside w (g.T.Trace.noted c.note.new.trace) i))
