use Rattle.std.proofs.Common.{◌++◌, ap, subst, ◌∙◌, Ok, Err, true, false, length}
use Rattle.std.proofs.lemmas.Result.{err_from_is_err_and}
use Rattle.source_meaning.specs.State.{◌>>=◌, ◌>>◌, done}
use Rattle.source_interp.specs.Standing.{Acts}
use Rattle.std.proofs.Common.{◌-◌}
use Rattle.std.specs.Prelude.{replicate}
use Rattle.source_meaning.specs.Actions.{located}
use Rattle.source_meaning.specs.Bytes.{set_bytes}
use Rattle.source_meaning.specs.Strings.{scan_within}
use Rattle.source_interp.specs.Routines.{behind_scan}
use Rattle.source_interp.proofs.Acting.{done_acts, stop_acts, then_acts}
use Rattle.source_interp.proofs.machine.Machine.copy_some.Goals as goal

pub returns-in_err-bytes : goal.returns-in_err-bytes
returns-in_err-bytes c g o =
    let p = err_from_is_err_and c.from_residual.result c.from_residual.ensures.1 in stop_acts g c.args.self.now
    c.scan_within.new.self o o c.scan_within.result c.from_residual.result c.in_err-bytes.field-0.0 (scan_within
    c.args.size (behind_scan false c.args.line) c.args.from c.args.line) (λ bytes. ((located true c.args.size
    c.args.to c.args.line) >>= λ place. ((set_bytes (bytes ++ replicate (c.args.size - length bytes) 0) place)
    >> done c.args.to))) c.in_err-bytes.was (p.1 ∙ ap Err p.2) (c.scan_within.ensures g o)

pub returns-in_err-place : goal.returns-in_err-place
returns-in_err-place c g o =
    let p = err_from_is_err_and c.from_residual-in_err-place.result c.from_residual-in_err-place.ensures.1 in
    then_acts g c.args.self.now c.scan_within.new.self c.scan_within.new.self o o o c.scan_within.result
    c.in_ok-bytes.bytes c.from_residual-in_err-place.result (scan_within c.args.size (behind_scan false
    c.args.line) c.args.from c.args.line) (λ bytes. ((located true c.args.size c.args.to c.args.line) >>= λ
    place. ((set_bytes (bytes ++ replicate (c.args.size - length bytes) 0) place) >> done c.args.to)))
    c.in_ok-bytes.was (c.scan_within.ensures g o) (stop_acts g c.scan_within.new.self c.scan_within.new.self o o
    c.located.result c.from_residual-in_err-place.result c.in_err-place.field-0.0 (located true c.args.size
    c.args.to c.args.line) (λ place. ((set_bytes (c.in_ok-bytes.bytes ++ replicate (c.args.size - length
    c.in_ok-bytes.bytes) 0) place) >> done c.args.to)) c.in_err-place.was (p.1 ∙ ap Err p.2) (c.located.ensures
    g o))

pub returns-in_err-set_bytes : goal.returns-in_err-set_bytes
returns-in_err-set_bytes c g o =
    let p = err_from_is_err_and c.from_residual-in_err-set_bytes.result
    c.from_residual-in_err-set_bytes.ensures.1 in then_acts g c.args.self.now c.scan_within.new.self
    c.set_bytes.new.self o o o c.scan_within.result c.in_ok-bytes.bytes c.from_residual-in_err-set_bytes.result
    (scan_within c.args.size (behind_scan false c.args.line) c.args.from c.args.line) (λ bytes. ((located true
    c.args.size c.args.to c.args.line) >>= λ place. ((set_bytes (bytes ++ replicate (c.args.size - length bytes)
    0) place) >> done c.args.to))) c.in_ok-bytes.was (c.scan_within.ensures g o) (then_acts g
    c.scan_within.new.self c.scan_within.new.self c.set_bytes.new.self o o o c.located.result
    c.in_ok-place.place c.from_residual-in_err-set_bytes.result (located true c.args.size c.args.to c.args.line)
    (λ place. ((set_bytes (c.in_ok-bytes.bytes ++ replicate (c.args.size - length c.in_ok-bytes.bytes) 0) place)
    >> done c.args.to)) c.in_ok-place.was (c.located.ensures g o) (stop_acts g c.scan_within.new.self
    c.set_bytes.new.self o o c.set_bytes.result c.from_residual-in_err-set_bytes.result
    c.in_err-set_bytes.field-0.0 (set_bytes (c.in_ok-bytes.bytes ++ replicate (c.args.size - length
    c.in_ok-bytes.bytes) 0) c.in_ok-place.place) (λ _. done c.args.to) c.in_err-set_bytes.was (p.1 ∙ ap Err p.2)
    (subst (λ bs. Acts g c.scan_within.new.self c.set_bytes.new.self o o c.set_bytes.result (set_bytes bs
    c.in_ok-place.place)) (c.as_slice-whole.ensures ∙ c.in_ok-all.ensures) (c.set_bytes.ensures g o))))

pub returns : goal.returns
returns c g o =
    then_acts g c.args.self.now c.scan_within.new.self c.set_bytes.new.self o o o c.scan_within.result
    c.in_ok-bytes.bytes (Ok c.args.to) (scan_within c.args.size (behind_scan false c.args.line) c.args.from
    c.args.line) (λ bytes. ((located true c.args.size c.args.to c.args.line) >>= λ place. ((set_bytes (bytes ++
    replicate (c.args.size - length bytes) 0) place) >> done c.args.to))) c.in_ok-bytes.was
    (c.scan_within.ensures g o) (then_acts g c.scan_within.new.self c.scan_within.new.self c.set_bytes.new.self
    o o o c.located.result c.in_ok-place.place (Ok c.args.to) (located true c.args.size c.args.to c.args.line)
    (λ place. ((set_bytes (c.in_ok-bytes.bytes ++ replicate (c.args.size - length c.in_ok-bytes.bytes) 0) place)
    >> done c.args.to)) c.in_ok-place.was (c.located.ensures g o) (then_acts g c.scan_within.new.self
    c.set_bytes.new.self c.set_bytes.new.self o o o c.set_bytes.result c.in_ok-set_bytes.field-0 (Ok c.args.to)
    (set_bytes (c.in_ok-bytes.bytes ++ replicate (c.args.size - length c.in_ok-bytes.bytes) 0)
    c.in_ok-place.place) (λ _. done c.args.to) c.in_ok-set_bytes.was (subst (λ bs. Acts g c.scan_within.new.self
    c.set_bytes.new.self o o c.set_bytes.result (set_bytes bs c.in_ok-place.place)) (c.as_slice-whole.ensures ∙
    c.in_ok-all.ensures) (c.set_bytes.ensures g o)) (done_acts g c.set_bytes.new.self o c.args.to)))
