use Rattle.std.proofs.Common.{ap, ◌∙◌, Err}
use Rattle.std.proofs.lemmas.Result.{err_from_is_err_and}
use Rattle.source_meaning.specs.Heap.{allocate}
use Rattle.source_interp.specs.Heaping.{replace_by}
use Rattle.source_interp.proofs.Acting.{stop_acts, then_acts}
use Rattle.source_interp.proofs.machine.Machine.replace_block.Goals as goal

pub returns-in_err-new : goal.returns-in_err-new
returns-in_err-new c g o limits =
    let p = err_from_is_err_and c.from_residual.result c.from_residual.ensures.1 in stop_acts g c.args.self.now
    c.allocate.new.self o o c.allocate.result c.from_residual.result c.in_err-new.field-0.0 (allocate g
    c.args.size c.args.line) (λ new. (replace_by c.args.number new c.args.size c.args.line)) c.in_err-new.was
    (p.1 ∙ ap Err p.2) (c.allocate.ensures g o limits)

pub returns : goal.returns
returns c g o limits =
    then_acts g c.args.self.now c.allocate.new.self c.replace_by.new.self o o o c.allocate.result
    c.in_ok-new.new c.replace_by.result (allocate g c.args.size c.args.line) (λ new. (replace_by c.args.number
    new c.args.size c.args.line)) c.in_ok-new.was (c.allocate.ensures g o limits) (c.replace_by.ensures g o)
