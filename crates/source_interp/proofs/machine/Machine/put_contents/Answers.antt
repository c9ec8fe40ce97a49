use Rattle.std.proofs.Common.{ap, ◌∙◌, Err}
use Rattle.std.proofs.lemmas.Result.{err_from_is_err_and}
use Rattle.source_interp.proofs.Structures.{puts_contents, puts_no_contents}
use Rattle.source_interp.proofs.machine.Machine.put_contents.Goals as goal

pub returns-in_err-to : goal.returns-in_err-to
returns-in_err-to c g o =
    let p = err_from_is_err_and c.from_residual.result c.from_residual.ensures.1 in puts_no_contents g c.args.self.now
    c.args.self.now o c.args.size c.args.is_judged c.args.pointer c.args.line c.args.value c.args.contents.now
    c.in_err-to.field-0.0 c.located.result c.from_residual.result c.in_err-to.was (p.1 ∙ ap Err p.2) (c.located.ensures
    g o)

pub returns : goal.returns
returns c g o =
    puts_contents g c.args.self.now c.put_range.new.self o c.args.size c.args.is_judged c.args.pointer c.args.line
    c.args.value c.args.contents.now c.tally.new.self c.in_ok-to.to c.located.result c.put_range.result c.in_ok-to.was
    (c.located.ensures g o) (c.tally.ensures g o) (c.put_range.ensures g o)
