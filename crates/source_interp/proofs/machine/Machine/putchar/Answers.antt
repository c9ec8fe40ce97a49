use Rattle.std.proofs.Common.{ap, ◌∙◌, Err}
use Rattle.std.proofs.lemmas.Result.{err_from_is_err_and}
use Rattle.source_interp.specs.Outside.{outside}
use Rattle.source_interp.proofs.Putting.{puts_character, puts_no_character}
use Rattle.source_interp.proofs.machine.Machine.putchar.Goals as goal

pub returns-in_err-put_bytes : goal.returns-in_err-put_bytes
returns-in_err-put_bytes g c e a i =
    let p = err_from_is_err_and c.from_residual.result c.from_residual.ensures.1 in
    puts_no_character e c.args.self.now c.args.self.now c.put_bytes.new.self
    (outside (g.O.Sink.taken c.args.output.now) a i) (outside (g.O.Sink.taken c.put_bytes.new.output) a i)
    c.args.character c.in_err-put_bytes.field-0.0 c.put_bytes.result c.from_residual.result c.in_err-put_bytes.was
    (p.1 ∙ ap Err p.2) (c.put_bytes.ensures e a i)

pub returns : goal.returns
returns g c e a i =
    puts_character e c.args.self.now c.args.self.now c.put_bytes.new.self
    (outside (g.O.Sink.taken c.args.output.now) a i) (outside (g.O.Sink.taken c.put_bytes.new.output) a i)
    c.args.character c.integer.result c.in_ok-put_bytes.field-0 c.put_bytes.result c.in_ok-put_bytes.was
    c.integer.ensures (c.put_bytes.ensures e a i)
