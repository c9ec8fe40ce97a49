use Rattle.std.proofs.Common.{ap, ◌∙◌, Err, Ok}
use Rattle.std.proofs.lemmas.Result.{err_from_is_err_and}
use Rattle.source_interp.specs.Outside.{outside}
use Rattle.source_interp.proofs.Updates.{located_then, not_located, not_read, not_renewed, not_written, read_then}
use Rattle.source_interp.proofs.Updates.{renewed_then, written_then}
use Rattle.source_interp.proofs.machine.Machine.update.Goals as goal

pub returns-in_err-place : goal.returns-in_err-place
returns-in_err-place g c e w i =
    let p = err_from_is_err_and c.from_residual.result c.from_residual.ensures.1 in not_located c.args.updating.update
    c.args.updating.scalar c.args.updating.fixity c.args.right c.args.line c.args.pointer e c.args.self.now
    c.args.self.now c.args.self.now (outside w (g.T.Trace.noted c.args.trace.now) i) (outside w (g.T.Trace.noted
    c.args.trace.now) i) (outside w (g.T.Trace.noted c.args.trace.now) i) c.args.is_judged c.args.place_line
    c.size.result c.size.ensures.value c.in_err-place.field-0.0 c.located.result c.from_residual.result
    c.in_err-place.was (p.1 ∙ ap Err p.2) (c.located.ensures e (outside w (g.T.Trace.noted c.args.trace.now) i))

pub returns-in_err-old : goal.returns-in_err-old
returns-in_err-old g c e w i =
    let p = err_from_is_err_and c.from_residual-in_err-old.result c.from_residual-in_err-old.ensures.1 in located_then
    c.args.updating.update c.args.updating.scalar c.args.updating.fixity c.args.right c.args.line c.args.pointer e
    c.args.self.now c.args.self.now c.read_scalar.new.self (outside w (g.T.Trace.noted c.args.trace.now) i) (outside w
    (g.T.Trace.noted c.args.trace.now) i) (outside w (g.T.Trace.noted c.read_scalar.new.trace) i) c.args.is_judged
    c.args.place_line c.size.result c.size.ensures.value c.in_ok-place.place c.located.result
    c.from_residual-in_err-old.result c.in_ok-place.was (c.located.ensures e (outside w (g.T.Trace.noted
    c.args.trace.now) i)) (not_read c.args.updating.update c.args.updating.scalar c.args.updating.fixity c.args.right
    c.args.line c.args.pointer e c.args.self.now c.read_scalar.new.self c.read_scalar.new.self (outside w
    (g.T.Trace.noted c.args.trace.now) i) (outside w (g.T.Trace.noted c.read_scalar.new.trace) i) (outside w
    (g.T.Trace.noted c.read_scalar.new.trace) i) c.in_ok-place.place c.in_err-old.field-0.0 c.read_scalar.result
    c.from_residual-in_err-old.result c.in_err-old.was (p.1 ∙ ap Err p.2) (c.read_scalar.ensures e w i))

pub returns-in_err-new : goal.returns-in_err-new
returns-in_err-new g c e w i =
    let p = err_from_is_err_and c.from_residual-in_err-new.result c.from_residual-in_err-new.ensures.1 in located_then
    c.args.updating.update c.args.updating.scalar c.args.updating.fixity c.args.right c.args.line c.args.pointer e
    c.args.self.now c.args.self.now c.read_scalar.new.self (outside w (g.T.Trace.noted c.args.trace.now) i) (outside w
    (g.T.Trace.noted c.args.trace.now) i) (outside w (g.T.Trace.noted c.read_scalar.new.trace) i) c.args.is_judged
    c.args.place_line c.size.result c.size.ensures.value c.in_ok-place.place c.located.result
    c.from_residual-in_err-new.result c.in_ok-place.was (c.located.ensures e (outside w (g.T.Trace.noted
    c.args.trace.now) i)) (read_then c.args.updating.update c.args.updating.scalar c.args.updating.fixity c.args.right
    c.args.line c.args.pointer e c.args.self.now c.read_scalar.new.self c.read_scalar.new.self (outside w
    (g.T.Trace.noted c.args.trace.now) i) (outside w (g.T.Trace.noted c.read_scalar.new.trace) i) (outside w
    (g.T.Trace.noted c.read_scalar.new.trace) i) c.in_ok-place.place c.in_ok-old.old c.read_scalar.result
    c.from_residual-in_err-new.result c.in_ok-old.was (c.read_scalar.ensures e w i) (not_renewed c.args.updating.update
    c.args.updating.scalar c.args.updating.fixity c.args.right c.args.line c.args.pointer e c.read_scalar.new.self
    c.read_scalar.new.self c.read_scalar.new.self (outside w (g.T.Trace.noted c.read_scalar.new.trace) i) (outside w
    (g.T.Trace.noted c.read_scalar.new.trace) i) (outside w (g.T.Trace.noted c.read_scalar.new.trace) i)
    c.in_ok-place.place c.in_ok-old.old c.in_err-new.field-0.0 c.new_value.result c.from_residual-in_err-new.result
    c.in_err-new.was (p.1 ∙ ap Err p.2) (c.new_value.ensures c.read_scalar.new.self e (outside w (g.T.Trace.noted
    c.read_scalar.new.trace) i))))

pub returns-in_err-write_scalar : goal.returns-in_err-write_scalar
returns-in_err-write_scalar g c e w i =
    let p = err_from_is_err_and c.from_residual-in_err-write_scalar.result c.from_residual-in_err-write_scalar.ensures.1
    in located_then c.args.updating.update c.args.updating.scalar c.args.updating.fixity c.args.right c.args.line
    c.args.pointer e c.args.self.now c.args.self.now c.write_scalar.new.self (outside w (g.T.Trace.noted
    c.args.trace.now) i) (outside w (g.T.Trace.noted c.args.trace.now) i) (outside w (g.T.Trace.noted
    c.write_scalar.new.trace) i) c.args.is_judged c.args.place_line c.size.result c.size.ensures.value
    c.in_ok-place.place c.located.result c.from_residual-in_err-write_scalar.result c.in_ok-place.was (c.located.ensures
    e (outside w (g.T.Trace.noted c.args.trace.now) i)) (read_then c.args.updating.update c.args.updating.scalar
    c.args.updating.fixity c.args.right c.args.line c.args.pointer e c.args.self.now c.read_scalar.new.self
    c.write_scalar.new.self (outside w (g.T.Trace.noted c.args.trace.now) i) (outside w (g.T.Trace.noted
    c.read_scalar.new.trace) i) (outside w (g.T.Trace.noted c.write_scalar.new.trace) i) c.in_ok-place.place
    c.in_ok-old.old c.read_scalar.result c.from_residual-in_err-write_scalar.result c.in_ok-old.was
    (c.read_scalar.ensures e w i) (renewed_then c.args.updating.update c.args.updating.scalar c.args.updating.fixity
    c.args.right c.args.line c.args.pointer e c.read_scalar.new.self c.read_scalar.new.self c.write_scalar.new.self
    (outside w (g.T.Trace.noted c.read_scalar.new.trace) i) (outside w (g.T.Trace.noted c.read_scalar.new.trace) i)
    (outside w (g.T.Trace.noted c.write_scalar.new.trace) i) c.in_ok-place.place c.in_ok-old.old c.in_ok-new.new
    c.new_value.result c.from_residual-in_err-write_scalar.result c.in_ok-new.was (c.new_value.ensures
    c.read_scalar.new.self e (outside w (g.T.Trace.noted c.read_scalar.new.trace) i)) (not_written
    c.args.updating.update c.args.updating.scalar c.args.updating.fixity c.args.right c.args.line c.args.pointer e
    c.read_scalar.new.self c.read_scalar.new.self c.write_scalar.new.self (outside w (g.T.Trace.noted
    c.read_scalar.new.trace) i) (outside w (g.T.Trace.noted c.read_scalar.new.trace) i) (outside w (g.T.Trace.noted
    c.write_scalar.new.trace) i) c.in_ok-place.place c.in_ok-old.old c.in_ok-new.new c.in_err-write_scalar.field-0.0
    c.write_scalar.result c.from_residual-in_err-write_scalar.result c.in_err-write_scalar.was (p.1 ∙ ap Err p.2)
    (c.write_scalar.ensures e w i))))

pub returns : goal.returns
returns g c e w i =
    located_then c.args.updating.update c.args.updating.scalar c.args.updating.fixity c.args.right c.args.line
    c.args.pointer e c.args.self.now c.args.self.now c.write_scalar.new.self (outside w (g.T.Trace.noted
    c.args.trace.now) i) (outside w (g.T.Trace.noted c.args.trace.now) i) (outside w (g.T.Trace.noted
    c.write_scalar.new.trace) i) c.args.is_judged c.args.place_line c.size.result c.size.ensures.value
    c.in_ok-place.place c.located.result (Ok c.given.result) c.in_ok-place.was (c.located.ensures e (outside w
    (g.T.Trace.noted c.args.trace.now) i)) (read_then c.args.updating.update c.args.updating.scalar
    c.args.updating.fixity c.args.right c.args.line c.args.pointer e c.args.self.now c.read_scalar.new.self
    c.write_scalar.new.self (outside w (g.T.Trace.noted c.args.trace.now) i) (outside w (g.T.Trace.noted
    c.read_scalar.new.trace) i) (outside w (g.T.Trace.noted c.write_scalar.new.trace) i) c.in_ok-place.place
    c.in_ok-old.old c.read_scalar.result (Ok c.given.result) c.in_ok-old.was (c.read_scalar.ensures e w i) (renewed_then
    c.args.updating.update c.args.updating.scalar c.args.updating.fixity c.args.right c.args.line c.args.pointer e
    c.read_scalar.new.self c.read_scalar.new.self c.write_scalar.new.self (outside w (g.T.Trace.noted
    c.read_scalar.new.trace) i) (outside w (g.T.Trace.noted c.read_scalar.new.trace) i) (outside w (g.T.Trace.noted
    c.write_scalar.new.trace) i) c.in_ok-place.place c.in_ok-old.old c.in_ok-new.new c.new_value.result (Ok
    c.given.result) c.in_ok-new.was (c.new_value.ensures c.read_scalar.new.self e (outside w (g.T.Trace.noted
    c.read_scalar.new.trace) i)) (written_then c.args.updating.update c.args.updating.scalar c.args.updating.fixity
    c.args.right c.args.line c.args.pointer e c.read_scalar.new.self c.read_scalar.new.self c.write_scalar.new.self
    (outside w (g.T.Trace.noted c.read_scalar.new.trace) i) (outside w (g.T.Trace.noted c.read_scalar.new.trace) i)
    (outside w (g.T.Trace.noted c.write_scalar.new.trace) i) c.in_ok-place.place c.in_ok-old.old c.in_ok-new.new
    c.given.result c.in_ok-write_scalar.field-0 c.write_scalar.result c.in_ok-write_scalar.was c.given.ensures
    (c.write_scalar.ensures e w i))))
