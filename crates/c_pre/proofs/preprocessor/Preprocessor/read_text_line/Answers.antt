use Rattle.std.proofs.lemmas.Result.{err_from_is_err_and}
use Rattle.c_pre.specs.Outcomes.{state_of}
use Rattle.c_pre.proofs.LineReading.{text_line_read, text_line_failed}
use Rattle.c_pre.proofs.preprocessor.Preprocessor.read_text_line.Goals as goal

pub returns-in_err-self : goal.returns-in_err-self
returns-in_err-self c =
    let error = err_from_is_err_and c.from_residual.result c.from_residual.ensures.1 in
    rw (error.1, error.2)
    (text_line_failed (state_of c.args.self.now) c.args.line.now c.args.out.now.items
    c.in_err-self.field-0.0 c.in_err-self.ensures)

pub returns : goal.returns
returns c = (
  text_line_read (state_of c.args.self.now) c.args.line.now c.args.out.now.items c.expand_run.new.out.items
      c.in_ok-self.field-0 c.in_ok-self.ensures.0,
  c.in_ok-self.ensures.1,
)
