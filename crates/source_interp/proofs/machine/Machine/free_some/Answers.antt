use Rattle.std.proofs.Common.{ap, ◌∙◌, Ok, Err}
use Rattle.std.proofs.lemmas.Result.{err_from_is_err_and}
use Rattle.source_meaning.specs.State.{◌>>◌, done}
use Rattle.source_meaning.specs.Actions.{integer}
use Rattle.source_meaning.specs.Heap.{freed, release}
use Rattle.source_interp.proofs.Acting.{gives_acts, stop_acts, then_acts}
use Rattle.source_interp.proofs.machine.Machine.free_some.Goals as goal

pub returns-in_err-number : goal.returns-in_err-number
returns-in_err-number c g o =
    let p = err_from_is_err_and c.from_residual.result c.from_residual.ensures.1 in stop_acts g c.args.self.now
    c.freed.new.self o o c.freed.result c.from_residual.result c.in_err-number.field-0.0 (freed c.args.pointer
    c.args.line) (λ number. ((release number) >> done (integer 0))) c.in_err-number.was (p.1 ∙ ap Err p.2)
    (c.freed.ensures g o)

pub returns-in_err-release : goal.returns-in_err-release
returns-in_err-release c g o =
    let p = err_from_is_err_and c.from_residual-in_err-release.result c.from_residual-in_err-release.ensures.1
    in then_acts g c.args.self.now c.freed.new.self c.release.new.self o o o c.freed.result
    c.in_ok-number.number c.from_residual-in_err-release.result (freed c.args.pointer c.args.line) (λ number.
    ((release number) >> done (integer 0))) c.in_ok-number.was (c.freed.ensures g o) (stop_acts g
    c.freed.new.self c.release.new.self o o c.release.result c.from_residual-in_err-release.result
    c.in_err-release.field-0.0 (release c.in_ok-number.number) (λ _. done (integer 0)) c.in_err-release.was (p.1
    ∙ ap Err p.2) (c.release.ensures g o))

pub returns : goal.returns
returns c g o =
    then_acts g c.args.self.now c.freed.new.self c.release.new.self o o o c.freed.result c.in_ok-number.number
    (Ok c.integer.result) (freed c.args.pointer c.args.line) (λ number. ((release number) >> done (integer 0)))
    c.in_ok-number.was (c.freed.ensures g o) (then_acts g c.freed.new.self c.release.new.self c.release.new.self
    o o o c.release.result c.in_ok-release.field-0 (Ok c.integer.result) (release c.in_ok-number.number) (λ _.
    done (integer 0)) c.in_ok-release.was (c.release.ensures g o) (gives_acts g c.release.new.self o
    c.integer.result (integer 0) c.integer.ensures))
