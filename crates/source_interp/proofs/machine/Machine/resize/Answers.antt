use Rattle.std.proofs.Common.{ap, ◌∙◌, Err}
use Rattle.std.proofs.lemmas.Result.{err_from_is_err_and}
use Rattle.source_meaning.specs.Heap.{freed, replace_block}
use Rattle.source_interp.proofs.Acting.{stop_acts, then_acts}
use Rattle.source_interp.proofs.machine.Machine.resize.Goals as goal

pub returns-in_err-number : goal.returns-in_err-number
returns-in_err-number c g o limits =
    let p = err_from_is_err_and c.from_residual.result c.from_residual.ensures.1 in stop_acts g c.args.self.now
    c.freed.new.self o o c.freed.result c.from_residual.result c.in_err-number.field-0.0 (freed c.args.old
    c.args.line) (λ number. (replace_block g number c.args.size c.args.line)) c.in_err-number.was (p.1 ∙ ap Err
    p.2) (c.freed.ensures g o)

pub returns : goal.returns
returns c g o limits =
    then_acts g c.args.self.now c.freed.new.self c.replace_block.new.self o o o c.freed.result
    c.in_ok-number.number c.replace_block.result (freed c.args.old c.args.line) (λ number. (replace_block g
    number c.args.size c.args.line)) c.in_ok-number.was (c.freed.ensures g o) (c.replace_block.ensures g o
    limits)
