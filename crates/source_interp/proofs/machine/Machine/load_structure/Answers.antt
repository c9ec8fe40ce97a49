use Rattle.std.proofs.Common.{ap, ◌∙◌, Err}
use Rattle.std.proofs.lemmas.Result.{err_from_is_err_and}
use Rattle.source_interp.proofs.Structures.{loads_no_structure, loads_structure}
use Rattle.source_interp.proofs.machine.Machine.load_structure.Goals as goal

pub returns-in_err-located : goal.returns-in_err-located
returns-in_err-located c g o =
    let p = err_from_is_err_and c.from_residual.result c.from_residual.ensures.1 in loads_no_structure g c.args.self.now
    c.args.self.now o c.args.size c.args.is_judged c.args.pointer c.args.line c.in_err-located.field-0.0
    c.located.result c.from_residual.result c.in_err-located.was (p.1 ∙ ap Err p.2) (c.located.ensures g o)

pub returns : goal.returns
returns c g o =
    loads_structure g c.args.self.now c.args.self.now o c.args.size c.args.is_judged c.args.pointer c.args.line
    c.in_ok-located.field-0 c.located.result c.in_ok-located.was (c.located.ensures g o)
