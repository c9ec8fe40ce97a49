use Rattle.std.proofs.Common.{refl, ap, ◌∙◌, Ok, Err, false}
use Rattle.std.proofs.lemmas.Result.{err_from_is_err_and}
use Rattle.obj_memory.specs.Objects.{object_at}
use Rattle.source_meaning.specs.State.{◌>>◌, read_state, tally}
use Rattle.source_meaning.specs.Actions.{located}
use Rattle.source_meaning.specs.Structures.{with_contents}
use Rattle.source_interp.proofs.Acting.{stop_acts, then_acts}
use Rattle.source_interp.proofs.machine.Machine.taken_at.Goals as goal

pub returns-in_err-place : goal.returns-in_err-place
returns-in_err-place c g o =
    let p = err_from_is_err_and c.from_residual.result c.from_residual.ensures.1 in stop_acts g c.args.self.now
    c.args.self.now o o c.located.result c.from_residual.result c.in_err-place.field-0.0 (located false c.args.size
    c.args.pointer c.args.line) (λ p. tally c.args.size >> read_state (λ s. with_contents c.args.size p.offset
    (object_at s.objects p.object))) c.in_err-place.was (p.1 ∙ ap Err p.2) (c.located.ensures g o)

pub returns : goal.returns
returns c g o =
    then_acts g c.args.self.now c.args.self.now c.tally.new.self o o o c.located.result c.in_ok-place.place
    c.contents_at.result (located false c.args.size c.args.pointer c.args.line) (λ p. tally c.args.size >> read_state
    (λ s. with_contents c.args.size p.offset (object_at s.objects p.object))) c.in_ok-place.was (c.located.ensures g o)
    (then_acts g c.args.self.now c.tally.new.self c.tally.new.self o o o (Ok tt) tt c.contents_at.result (tally
    c.args.size) (λ _. read_state (λ s. with_contents c.args.size c.in_ok-place.place.offset (object_at s.objects
    c.in_ok-place.place.object))) refl (c.tally.ensures g o) (c.contents_at.ensures g o))
