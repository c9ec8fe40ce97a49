use Rattle.std.proofs.Common.{ap, ◌∙◌, Ok, Err}
use Rattle.std.proofs.lemmas.Result.{err_from_is_err_and}
use Rattle.source_meaning.specs.State.{◌>>=◌, done}
use Rattle.source_meaning.specs.Bytes.{look}
use Rattle.source_interp.proofs.Acting.{done_acts, stop_acts, then_acts}
use Rattle.source_interp.proofs.machine.Machine.look_at_both.Goals as goal

pub returns-in_err-first : goal.returns-in_err-first
returns-in_err-first c g o =
    let p = err_from_is_err_and c.from_residual.result c.from_residual.ensures.1 in stop_acts g c.args.self.now
    c.look.new.self o o c.look.result c.from_residual.result c.in_err-first.field-0.0 (look c.args.left
    c.args.line) (λ x. ((look c.args.right c.args.line) >>= λ y. done (record { first = x; second = y })))
    c.in_err-first.was (p.1 ∙ ap Err p.2) (c.look.ensures g o)

pub returns-in_err-second : goal.returns-in_err-second
returns-in_err-second c g o =
    let p = err_from_is_err_and c.from_residual-in_err-second.result c.from_residual-in_err-second.ensures.1 in
    then_acts g c.args.self.now c.look.new.self c.look-2.new.self o o o c.look.result c.in_ok-first.first
    c.from_residual-in_err-second.result (look c.args.left c.args.line) (λ x. ((look c.args.right c.args.line)
    >>= λ y. done (record { first = x; second = y }))) c.in_ok-first.was (c.look.ensures g o) (stop_acts g
    c.look.new.self c.look-2.new.self o o c.look-2.result c.from_residual-in_err-second.result
    c.in_err-second.field-0.0 (look c.args.right c.args.line) (λ y. done (record {
      first = c.in_ok-first.first;
      second = y;
    })) c.in_err-second.was (p.1 ∙ ap Err p.2) (c.look-2.ensures g o))

pub returns : goal.returns
returns c g o =
    then_acts g c.args.self.now c.look.new.self c.look-2.new.self o o o c.look.result c.in_ok-first.first (Ok
    (record { first = c.in_ok-first.first; second = c.in_ok-second.second })) (look c.args.left c.args.line) (λ
    x. ((look c.args.right c.args.line) >>= λ y. done (record { first = x; second = y }))) c.in_ok-first.was
    (c.look.ensures g o) (then_acts g c.look.new.self c.look-2.new.self c.look-2.new.self o o o c.look-2.result
    c.in_ok-second.second (Ok (record { first = c.in_ok-first.first; second = c.in_ok-second.second })) (look
    c.args.right c.args.line) (λ y. done (record { first = c.in_ok-first.first; second = y }))
    c.in_ok-second.was (c.look-2.ensures g o) (done_acts g c.look-2.new.self o (record {
      first =
          c.in_ok-first.first;
      second = c.in_ok-second.second;
    })))
