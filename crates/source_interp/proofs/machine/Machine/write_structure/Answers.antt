use Rattle.std.proofs.Common.{ap, ◌∙◌, Err}
use Rattle.std.proofs.lemmas.Result.{err_from_is_err_and}
use Rattle.source_meaning.specs.Structures.{copy_value}
use Rattle.source_interp.proofs.Structures.{gives_no_place, gives_place}
use Rattle.source_interp.proofs.machine.Machine.write_structure.Goals as goal

pub returns-in_err-copy_value : goal.returns-in_err-copy_value
returns-in_err-copy_value c g o =
    let p = err_from_is_err_and c.from_residual.result c.from_residual.ensures.1 in gives_no_place g c.args.self.now
    c.copy_value.new.self o o (copy_value c.args.value.now.contents c.args.size c.args.is_judged c.args.pointer
    c.args.line c.args.value.now.value) c.args.pointer c.in_err-copy_value.field-0.0 c.copy_value.result
    c.from_residual.result c.in_err-copy_value.was (p.1 ∙ ap Err p.2) (c.copy_value.ensures g o)

pub returns : goal.returns
returns c g o =
    gives_place g c.args.self.now c.copy_value.new.self o o (copy_value c.args.value.now.contents c.args.size
    c.args.is_judged c.args.pointer c.args.line c.args.value.now.value) c.args.pointer c.in_ok-copy_value.field-0
    c.plain.result c.copy_value.result c.in_ok-copy_value.was c.plain.ensures (c.copy_value.ensures g o)
