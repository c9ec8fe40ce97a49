use Rattle.std.proofs.Common.{ap, ◌∙◌, Err}
use Rattle.std.proofs.lemmas.Result.{err_from_is_err_and}
use Rattle.source_interp.proofs.Updates.{changes_none, changes_plain}
use Rattle.source_interp.proofs.machine.Machine.update_plain.Goals as goal

pub returns-in_err-new : goal.returns-in_err-new
returns-in_err-new c g o =
    let p = err_from_is_err_and c.from_residual.result c.from_residual.ensures.1 in changes_none g c.args.self.now
    c.args.self.now o c.args.updating.update c.args.updating.scalar c.args.updating.fixity c.args.right c.args.line
    c.args.variable c.plain_value-old.result (c.plain_value-old.ensures g o) c.in_err-new.field-0.0 c.new_value.result
    c.from_residual.result c.in_err-new.was (p.1 ∙ ap Err p.2) (c.new_value.ensures c.args.self.now g o)

pub returns : goal.returns
returns c g o =
    changes_plain g c.args.self.now c.set_plain.new.self o c.args.updating.update c.args.updating.scalar
    c.args.updating.fixity c.args.right c.args.line c.args.variable c.plain_value-old.result (c.plain_value-old.ensures
    g o) c.in_ok-new.new c.given.result c.new_value.result c.in_ok-new.was c.given.ensures (c.new_value.ensures
    c.args.self.now g o) (c.set_plain.ensures g o)
