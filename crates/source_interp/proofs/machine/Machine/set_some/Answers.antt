use Rattle.std.proofs.Common.{ap, subst, ◌∙◌, Ok, Err, true}
use Rattle.std.proofs.lemmas.Result.{err_from_is_err_and}
use Rattle.source_meaning.specs.State.{◌>>◌, done}
use Rattle.source_interp.specs.Standing.{Acts}
use Rattle.std.specs.Prelude.{replicate}
use Rattle.source_meaning.specs.Actions.{located}
use Rattle.source_meaning.specs.Bytes.{set_bytes}
use Rattle.source_interp.proofs.Acting.{done_acts, stop_acts, then_acts}
use Rattle.source_interp.proofs.machine.Machine.set_some.Goals as goal

pub returns-in_err-place : goal.returns-in_err-place
returns-in_err-place c g o =
    let p = err_from_is_err_and c.from_residual.result c.from_residual.ensures.1 in stop_acts g c.args.self.now
    c.args.self.now o o c.located.result c.from_residual.result c.in_err-place.field-0.0 (located true
    c.args.size c.args.to c.args.line) (λ place. ((set_bytes (replicate c.args.size c.args.byte) place) >> done
    c.args.to)) c.in_err-place.was (p.1 ∙ ap Err p.2) (c.located.ensures g o)

pub returns-in_err-set_bytes : goal.returns-in_err-set_bytes
returns-in_err-set_bytes c g o =
    let p = err_from_is_err_and c.from_residual-in_err-set_bytes.result
    c.from_residual-in_err-set_bytes.ensures.1 in then_acts g c.args.self.now c.args.self.now
    c.set_bytes.new.self o o o c.located.result c.in_ok-place.place c.from_residual-in_err-set_bytes.result
    (located true c.args.size c.args.to c.args.line) (λ place. ((set_bytes (replicate c.args.size c.args.byte)
    place) >> done c.args.to)) c.in_ok-place.was (c.located.ensures g o) (stop_acts g c.args.self.now
    c.set_bytes.new.self o o c.set_bytes.result c.from_residual-in_err-set_bytes.result
    c.in_err-set_bytes.field-0.0 (set_bytes (replicate c.args.size c.args.byte) c.in_ok-place.place) (λ _. done
    c.args.to) c.in_err-set_bytes.was (p.1 ∙ ap Err p.2) (subst (λ bs. Acts g c.args.self.now
    c.set_bytes.new.self o o c.set_bytes.result (set_bytes bs c.in_ok-place.place))
    (c.as_slice-whole.ensures.value ∙ c.in_ok-bytes.ensures.items_if_clones_equal (λ y e. e))
    (c.set_bytes.ensures g o)))

pub returns : goal.returns
returns c g o =
    then_acts g c.args.self.now c.args.self.now c.set_bytes.new.self o o o c.located.result c.in_ok-place.place
    (Ok c.args.to) (located true c.args.size c.args.to c.args.line) (λ place. ((set_bytes (replicate c.args.size
    c.args.byte) place) >> done c.args.to)) c.in_ok-place.was (c.located.ensures g o) (then_acts g
    c.args.self.now c.set_bytes.new.self c.set_bytes.new.self o o o c.set_bytes.result c.in_ok-set_bytes.field-0
    (Ok c.args.to) (set_bytes (replicate c.args.size c.args.byte) c.in_ok-place.place) (λ _. done c.args.to)
    c.in_ok-set_bytes.was (subst (λ bs. Acts g c.args.self.now c.set_bytes.new.self o o c.set_bytes.result
    (set_bytes bs c.in_ok-place.place)) (c.as_slice-whole.ensures.value ∙
    c.in_ok-bytes.ensures.items_if_clones_equal (λ y e. e)) (c.set_bytes.ensures g o)) (done_acts g
    c.set_bytes.new.self o c.args.to))
