use Rattle.std.proofs.Common.{ap, ◌∙◌, Ok, Err, length}
use Rattle.std.proofs.lemmas.Result.{err_from_is_err_and}
use Rattle.source_meaning.specs.State.{done}
use Rattle.source_meaning.specs.Actions.{integer}
use Rattle.source_meaning.specs.Strings.{scan}
use Rattle.source_interp.proofs.Acting.{gives_acts, stop_acts, then_acts}
use Rattle.source_interp.proofs.machine.Machine.strlen.Goals as goal

pub returns-in_err-bytes : goal.returns-in_err-bytes
returns-in_err-bytes c g o =
    let p = err_from_is_err_and c.from_residual.result c.from_residual.ensures.1 in stop_acts g c.args.self.now
    c.scan.new.self o o c.scan.result c.from_residual.result c.in_err-bytes.field-0.0 (scan c.args.string
    c.args.line) (λ bytes. done (integer (length bytes))) c.in_err-bytes.was (p.1 ∙ ap Err p.2) (c.scan.ensures
    g o)

pub returns : goal.returns
returns c g o =
    then_acts g c.args.self.now c.scan.new.self c.scan.new.self o o o c.scan.result c.in_ok-bytes.bytes (Ok
    c.integer.result) (scan c.args.string c.args.line) (λ bytes. done (integer (length bytes)))
    c.in_ok-bytes.was (c.scan.ensures g o) (gives_acts g c.scan.new.self o c.integer.result (integer (length
    c.in_ok-bytes.bytes)) (c.integer.ensures ∙ ap (λ bs. integer (length bs)) c.as_slice.ensures))
