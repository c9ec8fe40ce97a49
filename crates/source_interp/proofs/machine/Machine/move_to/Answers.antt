use Rattle.std.proofs.Common.{ap, ◌∙◌, Ok, Err}
use Rattle.std.proofs.lemmas.Result.{err_from_is_err_and}
use Rattle.source_meaning.specs.State.{◌>>◌, done}
use Rattle.source_meaning.specs.Heap.{move_block, release}
use Rattle.source_interp.proofs.Acting.{done_acts, stop_acts, then_acts}
use Rattle.source_interp.proofs.machine.Machine.move_to.Goals as goal

pub returns-in_err-move_block : goal.returns-in_err-move_block
returns-in_err-move_block c g o =
    let p = err_from_is_err_and c.from_residual.result c.from_residual.ensures.1 in stop_acts g c.args.self.now
    c.move_block.new.self o o c.move_block.result c.from_residual.result c.in_err-move_block.field-0.0
    (move_block c.args.number c.args.new c.args.size c.args.line) (λ _. ((release c.args.number) >> done
    c.args.new)) c.in_err-move_block.was (p.1 ∙ ap Err p.2) (c.move_block.ensures g o)

pub returns-in_err-release : goal.returns-in_err-release
returns-in_err-release c g o =
    let p = err_from_is_err_and c.from_residual-in_err-release.result c.from_residual-in_err-release.ensures.1
    in then_acts g c.args.self.now c.move_block.new.self c.release.new.self o o o c.move_block.result
    c.in_ok-move_block.field-0 c.from_residual-in_err-release.result (move_block c.args.number c.args.new
    c.args.size c.args.line) (λ _. ((release c.args.number) >> done c.args.new)) c.in_ok-move_block.was
    (c.move_block.ensures g o) (stop_acts g c.move_block.new.self c.release.new.self o o c.release.result
    c.from_residual-in_err-release.result c.in_err-release.field-0.0 (release c.args.number) (λ _. done
    c.args.new) c.in_err-release.was (p.1 ∙ ap Err p.2) (c.release.ensures g o))

pub returns : goal.returns
returns c g o =
    then_acts g c.args.self.now c.move_block.new.self c.release.new.self o o o c.move_block.result
    c.in_ok-move_block.field-0 (Ok c.args.new) (move_block c.args.number c.args.new c.args.size c.args.line) (λ
    _. ((release c.args.number) >> done c.args.new)) c.in_ok-move_block.was (c.move_block.ensures g o)
    (then_acts g c.move_block.new.self c.release.new.self c.release.new.self o o o c.release.result
    c.in_ok-release.field-0 (Ok c.args.new) (release c.args.number) (λ _. done c.args.new) c.in_ok-release.was
    (c.release.ensures g o) (done_acts g c.release.new.self o c.args.new))
