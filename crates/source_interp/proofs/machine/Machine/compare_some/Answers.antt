use Rattle.std.proofs.Common.{ap, ◌∙◌, Err, true}
use Rattle.std.proofs.lemmas.Result.{err_from_is_err_and}
use Rattle.source_meaning.specs.State.{◌>>=◌}
use Rattle.source_meaning.specs.Actions.{located}
use Rattle.source_interp.specs.Comparing.{compare_at}
use Rattle.source_interp.proofs.Acting.{stop_acts, then_acts}
use Rattle.source_interp.proofs.machine.Machine.compare_some.Goals as goal

pub returns-in_err-place : goal.returns-in_err-place
returns-in_err-place c g o =
    let p = err_from_is_err_and c.from_residual.result c.from_residual.ensures.1 in stop_acts g c.args.self.now
    c.args.self.now o o c.located.result c.from_residual.result c.in_err-place.field-0.0 (located true
    c.args.size c.args.left c.args.line) (λ place. ((located true c.args.size c.args.right c.args.line) >>= λ
    other. (compare_at c.args.size place other))) c.in_err-place.was (p.1 ∙ ap Err p.2) (c.located.ensures g o)

pub returns-in_err-other : goal.returns-in_err-other
returns-in_err-other c g o =
    let p = err_from_is_err_and c.from_residual-in_err-other.result c.from_residual-in_err-other.ensures.1 in
    then_acts g c.args.self.now c.args.self.now c.args.self.now o o o c.located.result c.in_ok-place.place
    c.from_residual-in_err-other.result (located true c.args.size c.args.left c.args.line) (λ place. ((located
    true c.args.size c.args.right c.args.line) >>= λ other. (compare_at c.args.size place other)))
    c.in_ok-place.was (c.located.ensures g o) (stop_acts g c.args.self.now c.args.self.now o o
    c.located-2.result c.from_residual-in_err-other.result c.in_err-other.field-0.0 (located true c.args.size
    c.args.right c.args.line) (λ other. (compare_at c.args.size c.in_ok-place.place other)) c.in_err-other.was
    (p.1 ∙ ap Err p.2) (c.located-2.ensures g o))

pub returns : goal.returns
returns c g o =
    then_acts g c.args.self.now c.args.self.now c.compare_at.new.self o o o c.located.result c.in_ok-place.place
    c.compare_at.result (located true c.args.size c.args.left c.args.line) (λ place. ((located true c.args.size
    c.args.right c.args.line) >>= λ other. (compare_at c.args.size place other))) c.in_ok-place.was
    (c.located.ensures g o) (then_acts g c.args.self.now c.args.self.now c.compare_at.new.self o o o
    c.located-2.result c.in_ok-other.other c.compare_at.result (located true c.args.size c.args.right
    c.args.line) (λ other. (compare_at c.args.size c.in_ok-place.place other)) c.in_ok-other.was
    (c.located-2.ensures g o) (c.compare_at.ensures g o))
