use Rattle.std.proofs.Common.{ap, refl, ◌∙◌, Ok, Err, true}
use Rattle.std.proofs.lemmas.Result.{err_from_is_err_and}
use Rattle.source_meaning.specs.State.{◌>>◌, tally}
use Rattle.source_meaning.specs.Actions.{located}
use Rattle.source_interp.specs.Routines.{byte_at}
use Rattle.source_interp.proofs.Acting.{stop_acts, then_acts}
use Rattle.source_interp.proofs.machine.Machine.look.Goals as goal

pub returns-in_err-place : goal.returns-in_err-place
returns-in_err-place c g o =
    let p = err_from_is_err_and c.from_residual.result c.from_residual.ensures.1 in stop_acts g c.args.self.now
    c.args.self.now o o c.located.result c.from_residual.result c.in_err-place.field-0.0 (located true 1
    c.args.pointer c.args.line) (λ place. ((tally 1) >> (byte_at place))) c.in_err-place.was (p.1 ∙ ap Err p.2)
    (c.located.ensures g o)

pub returns : goal.returns
returns c g o =
    then_acts g c.args.self.now c.args.self.now c.tally.new.self o o o c.located.result c.in_ok-place.place
    c.byte_at.result (located true 1 c.args.pointer c.args.line) (λ place. ((tally 1) >> (byte_at place)))
    c.in_ok-place.was (c.located.ensures g o) (then_acts g c.args.self.now c.tally.new.self c.tally.new.self o o
    o (Ok tt) tt c.byte_at.result (tally 1) (λ _. (byte_at c.in_ok-place.place)) refl (c.tally.ensures g o)
    (c.byte_at.ensures g o))
