use Rattle.std.proofs.Common.{ap, ◌∙◌, Ok, Err, true}
use Rattle.std.proofs.lemmas.Result.{err_from_is_err_and}
use Rattle.source_meaning.specs.State.{◌>>=◌, ◌>>◌, done}
use Rattle.source_meaning.specs.Actions.{located, move_bytes}
use Rattle.source_interp.proofs.Acting.{done_acts, stop_acts, then_acts}
use Rattle.source_interp.proofs.machine.Machine.move_some.Goals as goal

pub returns-in_err-place : goal.returns-in_err-place
returns-in_err-place c g o =
    let p = err_from_is_err_and c.from_residual.result c.from_residual.ensures.1 in stop_acts g c.args.self.now
    c.args.self.now o o c.located.result c.from_residual.result c.in_err-place.field-0.0 (located true
    c.args.size c.args.to c.args.line) (λ place. ((located true c.args.size c.args.from c.args.line) >>= λ
    source. ((move_bytes c.args.size place source) >> done c.args.to))) c.in_err-place.was (p.1 ∙ ap Err p.2)
    (c.located.ensures g o)

pub returns-in_err-source : goal.returns-in_err-source
returns-in_err-source c g o =
    let p = err_from_is_err_and c.from_residual-in_err-source.result c.from_residual-in_err-source.ensures.1 in
    then_acts g c.args.self.now c.args.self.now c.args.self.now o o o c.located.result c.in_ok-place.place
    c.from_residual-in_err-source.result (located true c.args.size c.args.to c.args.line) (λ place. ((located
    true c.args.size c.args.from c.args.line) >>= λ source. ((move_bytes c.args.size place source) >> done
    c.args.to))) c.in_ok-place.was (c.located.ensures g o) (stop_acts g c.args.self.now c.args.self.now o o
    c.located-2.result c.from_residual-in_err-source.result c.in_err-source.field-0.0 (located true c.args.size
    c.args.from c.args.line) (λ source. ((move_bytes c.args.size c.in_ok-place.place source) >> done c.args.to))
    c.in_err-source.was (p.1 ∙ ap Err p.2) (c.located-2.ensures g o))

pub returns-in_err-move_bytes : goal.returns-in_err-move_bytes
returns-in_err-move_bytes c g o =
    let p = err_from_is_err_and c.from_residual-in_err-move_bytes.result
    c.from_residual-in_err-move_bytes.ensures.1 in then_acts g c.args.self.now c.args.self.now
    c.move_bytes.new.self o o o c.located.result c.in_ok-place.place c.from_residual-in_err-move_bytes.result
    (located true c.args.size c.args.to c.args.line) (λ place. ((located true c.args.size c.args.from
    c.args.line) >>= λ source. ((move_bytes c.args.size place source) >> done c.args.to))) c.in_ok-place.was
    (c.located.ensures g o) (then_acts g c.args.self.now c.args.self.now c.move_bytes.new.self o o o
    c.located-2.result c.in_ok-source.source c.from_residual-in_err-move_bytes.result (located true c.args.size
    c.args.from c.args.line) (λ source. ((move_bytes c.args.size c.in_ok-place.place source) >> done c.args.to))
    c.in_ok-source.was (c.located-2.ensures g o) (stop_acts g c.args.self.now c.move_bytes.new.self o o
    c.move_bytes.result c.from_residual-in_err-move_bytes.result c.in_err-move_bytes.field-0.0 (move_bytes
    c.args.size c.in_ok-place.place c.in_ok-source.source) (λ _. done c.args.to) c.in_err-move_bytes.was (p.1 ∙
    ap Err p.2) (c.move_bytes.ensures g o)))

pub returns : goal.returns
returns c g o =
    then_acts g c.args.self.now c.args.self.now c.move_bytes.new.self o o o c.located.result c.in_ok-place.place
    (Ok c.args.to) (located true c.args.size c.args.to c.args.line) (λ place. ((located true c.args.size
    c.args.from c.args.line) >>= λ source. ((move_bytes c.args.size place source) >> done c.args.to)))
    c.in_ok-place.was (c.located.ensures g o) (then_acts g c.args.self.now c.args.self.now c.move_bytes.new.self
    o o o c.located-2.result c.in_ok-source.source (Ok c.args.to) (located true c.args.size c.args.from
    c.args.line) (λ source. ((move_bytes c.args.size c.in_ok-place.place source) >> done c.args.to))
    c.in_ok-source.was (c.located-2.ensures g o) (then_acts g c.args.self.now c.move_bytes.new.self
    c.move_bytes.new.self o o o c.move_bytes.result c.in_ok-move_bytes.field-0 (Ok c.args.to) (move_bytes
    c.args.size c.in_ok-place.place c.in_ok-source.source) (λ _. done c.args.to) c.in_ok-move_bytes.was
    (c.move_bytes.ensures g o) (done_acts g c.move_bytes.new.self o c.args.to)))
