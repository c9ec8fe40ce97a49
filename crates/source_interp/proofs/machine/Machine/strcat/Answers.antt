use Rattle.std.proofs.Common.{ap, subst, ◌∙◌, Ok, Err, length}
use Rattle.std.proofs.lemmas.Result.{err_from_is_err_and}
use Rattle.source_meaning.specs.State.{◌>>=◌, ◌>>◌, done}
use Rattle.source_interp.specs.Standing.{Acts}
use Rattle.obj_memory.specs.Judgement.{moved}
use Rattle.source_meaning.specs.Strings.{scan, write_string}
use Rattle.source_interp.proofs.Acting.{done_acts, stop_acts, then_acts}
use Rattle.source_interp.proofs.machine.Machine.strcat.Goals as goal

pub returns-in_err-before : goal.returns-in_err-before
returns-in_err-before c g o =
    let p = err_from_is_err_and c.from_residual.result c.from_residual.ensures.1 in stop_acts g c.args.self.now
    c.scan.new.self o o c.scan.result c.from_residual.result c.in_err-before.field-0.0 (scan c.args.to
    c.args.line) (λ before. ((scan c.args.from c.args.line) >>= λ bytes. ((write_string (moved (length before)
    c.args.to) bytes c.args.line) >> done c.args.to))) c.in_err-before.was (p.1 ∙ ap Err p.2) (c.scan.ensures g
    o)

pub returns-in_err-bytes : goal.returns-in_err-bytes
returns-in_err-bytes c g o =
    let p = err_from_is_err_and c.from_residual-in_err-bytes.result c.from_residual-in_err-bytes.ensures.1 in
    then_acts g c.args.self.now c.scan.new.self c.scan-2.new.self o o o c.scan.result c.in_ok-before.before
    c.from_residual-in_err-bytes.result (scan c.args.to c.args.line) (λ before. ((scan c.args.from c.args.line)
    >>= λ bytes. ((write_string (moved (length before) c.args.to) bytes c.args.line) >> done c.args.to)))
    c.in_ok-before.was (c.scan.ensures g o) (stop_acts g c.scan.new.self c.scan-2.new.self o o c.scan-2.result
    c.from_residual-in_err-bytes.result c.in_err-bytes.field-0.0 (scan c.args.from c.args.line) (λ bytes.
    ((write_string (moved (length c.in_ok-before.before) c.args.to) bytes c.args.line) >> done c.args.to))
    c.in_err-bytes.was (p.1 ∙ ap Err p.2) (c.scan-2.ensures g o))

pub returns-in_err-write_string : goal.returns-in_err-write_string
returns-in_err-write_string c g o =
    let p = err_from_is_err_and c.from_residual-in_err-write_string.result
    c.from_residual-in_err-write_string.ensures.1 in then_acts g c.args.self.now c.scan.new.self
    c.write_string.new.self o o o c.scan.result c.in_ok-before.before c.from_residual-in_err-write_string.result
    (scan c.args.to c.args.line) (λ before. ((scan c.args.from c.args.line) >>= λ bytes. ((write_string (moved
    (length before) c.args.to) bytes c.args.line) >> done c.args.to))) c.in_ok-before.was (c.scan.ensures g o)
    (then_acts g c.scan.new.self c.scan-2.new.self c.write_string.new.self o o o c.scan-2.result
    c.in_ok-bytes.bytes c.from_residual-in_err-write_string.result (scan c.args.from c.args.line) (λ bytes.
    ((write_string (moved (length c.in_ok-before.before) c.args.to) bytes c.args.line) >> done c.args.to))
    c.in_ok-bytes.was (c.scan-2.ensures g o) (stop_acts g c.scan-2.new.self c.write_string.new.self o o
    c.write_string.result c.from_residual-in_err-write_string.result c.in_err-write_string.field-0.0
    (write_string (moved (length c.in_ok-before.before) c.args.to) c.in_ok-bytes.bytes c.args.line) (λ _. done
    c.args.to) c.in_err-write_string.was (p.1 ∙ ap Err p.2) (subst (λ p. Acts g c.scan-2.new.self
    c.write_string.new.self o o c.write_string.result (write_string p c.in_ok-bytes.bytes c.args.line))
    (c.moved.ensures ∙ ap (λ bs. moved (length bs) c.args.to) c.as_slice.ensures) (c.write_string.ensures g
    o))))

pub returns : goal.returns
returns c g o =
    then_acts g c.args.self.now c.scan.new.self c.write_string.new.self o o o c.scan.result
    c.in_ok-before.before (Ok c.args.to) (scan c.args.to c.args.line) (λ before. ((scan c.args.from c.args.line)
    >>= λ bytes. ((write_string (moved (length before) c.args.to) bytes c.args.line) >> done c.args.to)))
    c.in_ok-before.was (c.scan.ensures g o) (then_acts g c.scan.new.self c.scan-2.new.self
    c.write_string.new.self o o o c.scan-2.result c.in_ok-bytes.bytes (Ok c.args.to) (scan c.args.from
    c.args.line) (λ bytes. ((write_string (moved (length c.in_ok-before.before) c.args.to) bytes c.args.line) >>
    done c.args.to)) c.in_ok-bytes.was (c.scan-2.ensures g o) (then_acts g c.scan-2.new.self
    c.write_string.new.self c.write_string.new.self o o o c.write_string.result c.in_ok-write_string.field-0 (Ok
    c.args.to) (write_string (moved (length c.in_ok-before.before) c.args.to) c.in_ok-bytes.bytes c.args.line)
    (λ _. done c.args.to) c.in_ok-write_string.was (subst (λ p. Acts g c.scan-2.new.self c.write_string.new.self
    o o c.write_string.result (write_string p c.in_ok-bytes.bytes c.args.line)) (c.moved.ensures ∙ ap (λ bs.
    moved (length bs) c.args.to) c.as_slice.ensures) (c.write_string.ensures g o)) (done_acts g
    c.write_string.new.self o c.args.to)))
