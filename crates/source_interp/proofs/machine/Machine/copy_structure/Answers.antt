use Rattle.std.proofs.Common.{ap, ◌∙◌, Err}
use Rattle.std.proofs.lemmas.Result.{err_from_is_err_and}
use Rattle.source_interp.proofs.Structures.{copies, copies_not_from, copies_not_to}
use Rattle.source_interp.proofs.machine.Machine.copy_structure.Goals as goal

pub returns-in_err-to : goal.returns-in_err-to
returns-in_err-to c g o =
    let p = err_from_is_err_and c.from_residual.result c.from_residual.ensures.1 in copies_not_to g c.args.self.now
    c.args.self.now o c.args.size c.args.is_judged c.args.pointer c.args.line c.args.value c.in_err-to.field-0.0
    c.located.result c.from_residual.result c.in_err-to.was (p.1 ∙ ap Err p.2) (c.located.ensures g o)

pub returns-in_err-from : goal.returns-in_err-from
returns-in_err-from c g o =
    let p = err_from_is_err_and c.from_residual-in_err-from.result c.from_residual-in_err-from.ensures.1 in
    copies_not_from g c.args.self.now c.args.self.now o c.args.size c.args.is_judged c.args.pointer c.args.line
    c.args.value c.in_ok-to.to c.in_err-from.field-0.0 c.located.result c.located-2.result
    c.from_residual-in_err-from.result c.in_ok-to.was c.in_err-from.was (p.1 ∙ ap Err p.2) (c.located.ensures g o)
    (c.located-2.ensures g o)

pub returns : goal.returns
returns c g o =
    copies g c.args.self.now c.move_bytes.new.self o c.args.size c.args.is_judged c.args.pointer c.args.line
    c.args.value c.in_ok-to.to c.in_ok-from.from c.located.result c.located-2.result c.move_bytes.result c.in_ok-to.was
    c.in_ok-from.was (c.located.ensures g o) (c.located-2.ensures g o) (c.move_bytes.ensures g o)
