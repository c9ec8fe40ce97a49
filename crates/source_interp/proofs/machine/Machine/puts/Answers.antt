use Rattle.std.proofs.Common.{◌++◌, ◌∷◌, [], ap, subst, ◌∙◌, Ok, Err}
use Rattle.std.proofs.lemmas.Result.{err_from_is_err_and}
use Rattle.source_meaning.specs.State.{◌>>◌, done}
use Rattle.source_interp.specs.Outside.{outside}
use Rattle.source_interp.specs.Standing.{Acts}
use Rattle.source_meaning.specs.Actions.{integer, put_bytes}
use Rattle.source_meaning.specs.Strings.{scan}
use Rattle.source_interp.proofs.Acting.{gives_acts, stop_acts, then_acts}
use Rattle.source_interp.proofs.machine.Machine.puts.Goals as goal

pub returns-in_err-bytes : goal.returns-in_err-bytes
returns-in_err-bytes g c e a i =
    let p = err_from_is_err_and c.from_residual.result c.from_residual.ensures.1 in stop_acts e c.args.self.now
    c.scan.new.self (outside (g.O.Sink.taken c.args.output.now) a i) (outside (g.O.Sink.taken c.args.output.now)
    a i) c.scan.result c.from_residual.result c.in_err-bytes.field-0.0 (scan c.args.string c.args.line) (λ
    bytes. ((put_bytes (bytes ++ (10 ∷ []))) >> done (integer 0))) c.in_err-bytes.was (p.1 ∙ ap Err p.2)
    (c.scan.ensures e (outside (g.O.Sink.taken c.args.output.now) a i))

pub returns-in_err-put_bytes : goal.returns-in_err-put_bytes
returns-in_err-put_bytes g c e a i =
    let p = err_from_is_err_and c.from_residual-in_err-put_bytes.result
    c.from_residual-in_err-put_bytes.ensures.1 in then_acts e c.args.self.now c.scan.new.self
    c.put_bytes.new.self (outside (g.O.Sink.taken c.args.output.now) a i) (outside (g.O.Sink.taken
    c.args.output.now) a i) (outside (g.O.Sink.taken c.put_bytes.new.output) a i) c.scan.result
    c.in_ok-bytes.bytes c.from_residual-in_err-put_bytes.result (scan c.args.string c.args.line) (λ bytes.
    ((put_bytes (bytes ++ (10 ∷ []))) >> done (integer 0))) c.in_ok-bytes.was (c.scan.ensures e (outside
    (g.O.Sink.taken c.args.output.now) a i)) (stop_acts e c.scan.new.self c.put_bytes.new.self (outside
    (g.O.Sink.taken c.args.output.now) a i) (outside (g.O.Sink.taken c.put_bytes.new.output) a i)
    c.put_bytes.result c.from_residual-in_err-put_bytes.result c.in_err-put_bytes.field-0.0 (put_bytes
    (c.in_ok-bytes.bytes ++ (10 ∷ []))) (λ _. done (integer 0)) c.in_err-put_bytes.was (p.1 ∙ ap Err p.2) (subst
    (λ bs. Acts e c.scan.new.self c.put_bytes.new.self (outside (g.O.Sink.taken c.args.output.now) a i) (outside
    (g.O.Sink.taken c.put_bytes.new.output) a i) c.put_bytes.result (put_bytes bs))
    (c.as_slice-whole.ensures.value ∙ c.in_ok-append.ensures ∙ ap (λ xs. xs ++ (10 ∷ []))
    c.into_vec-all.ensures) (c.put_bytes.ensures e a i)))

pub returns : goal.returns
returns g c e a i =
    then_acts e c.args.self.now c.scan.new.self c.put_bytes.new.self (outside (g.O.Sink.taken c.args.output.now)
    a i) (outside (g.O.Sink.taken c.args.output.now) a i) (outside (g.O.Sink.taken c.put_bytes.new.output) a i)
    c.scan.result c.in_ok-bytes.bytes (Ok c.integer.result) (scan c.args.string c.args.line) (λ bytes.
    ((put_bytes (bytes ++ (10 ∷ []))) >> done (integer 0))) c.in_ok-bytes.was (c.scan.ensures e (outside
    (g.O.Sink.taken c.args.output.now) a i)) (then_acts e c.scan.new.self c.put_bytes.new.self
    c.put_bytes.new.self (outside (g.O.Sink.taken c.args.output.now) a i) (outside (g.O.Sink.taken
    c.put_bytes.new.output) a i) (outside (g.O.Sink.taken c.put_bytes.new.output) a i) c.put_bytes.result
    c.in_ok-put_bytes.field-0 (Ok c.integer.result) (put_bytes (c.in_ok-bytes.bytes ++ (10 ∷ []))) (λ _. done
    (integer 0)) c.in_ok-put_bytes.was (subst (λ bs. Acts e c.scan.new.self c.put_bytes.new.self (outside
    (g.O.Sink.taken c.args.output.now) a i) (outside (g.O.Sink.taken c.put_bytes.new.output) a i)
    c.put_bytes.result (put_bytes bs)) (c.as_slice-whole.ensures.value ∙ c.in_ok-append.ensures ∙ ap (λ xs. xs
    ++ (10 ∷ [])) c.into_vec-all.ensures) (c.put_bytes.ensures e a i)) (gives_acts e c.put_bytes.new.self
    (outside (g.O.Sink.taken c.put_bytes.new.output) a i) c.integer.result (integer 0) c.integer.ensures))
