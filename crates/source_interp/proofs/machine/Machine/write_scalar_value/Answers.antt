use Rattle.std.proofs.Common.{ap, ◌∙◌, Err}
use Rattle.std.proofs.lemmas.Result.{err_from_is_err_and}
use Rattle.source_interp.specs.Outside.{outside}
use Rattle.source_interp.proofs.Structures.{stored_none, stored_value}
use Rattle.source_interp.proofs.machine.Machine.write_scalar_value.Goals as goal

pub returns-in_err-store : goal.returns-in_err-store
returns-in_err-store g c e w i =
    let p = err_from_is_err_and c.from_residual.result c.from_residual.ensures.1 in stored_none e c.args.self.now
    c.store.new.self (outside w (g.T.Trace.noted c.args.trace.now) i) (outside w (g.T.Trace.noted c.store.new.trace) i)
    c.args.scalar c.args.is_judged c.args.pointer c.args.line c.args.value c.in_err-store.field-0.0 c.store.result
    c.from_residual.result c.in_err-store.was (p.1 ∙ ap Err p.2) (c.store.ensures e w i)

pub returns : goal.returns
returns g c e w i =
    stored_value e c.args.self.now c.store.new.self (outside w (g.T.Trace.noted c.args.trace.now) i) (outside w
    (g.T.Trace.noted c.store.new.trace) i) c.args.scalar c.args.is_judged c.args.pointer c.args.line c.args.value
    c.in_ok-store.field-0 c.plain.result c.store.result c.in_ok-store.was c.plain.ensures (c.store.ensures e w i)
