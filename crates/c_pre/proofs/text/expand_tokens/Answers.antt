use Rattle.std.proofs.Common.{◌+◌, ◌-◌, length, take, drop, length-drop, arith}
use Rattle.std.proofs.lemmas.List.{length-take-le}
use Rattle.std.proofs.lemmas.Result.{err_from_is_err_and}
use Rattle.c_pre.specs.Outcomes.{state_of}
use Rattle.c_pre.proofs.Cutting.{first_run}
use Rattle.c_pre.proofs.Wholes.{line_read, line_failed, end_read, end_failed}
use Rattle.c_pre.proofs.text.expand_tokens.Goals as goal

pub returns-in_err-read_line-clause-value : goal.returns-in_err-read_line-clause-value
returns-in_err-read_line-clause-value c =
    let tokens = c.args.tokens.now in
    let at = c.loop-at.at in
    let len = c.run_len-len.result in
    let error = err_from_is_err_and c.from_residual-in_err-read_line.result
    c.from_residual-in_err-read_line.ensures.1 in
    rw (error.1, error.2)
    (line_failed tokens (drop at tokens) (take len (take (length tokens - at) (drop at tokens)))
    (drop (at + len) tokens) (state_of c.loop-at.preprocessor) c.loop-at.out.items
    c.loop-at.invariant.same (first_run tokens at len c.loop-at-test.true c.run_len-len.ensures.value)
    c.in_err-read_line.field-0.0 c.in_err-read_line.ensures)

pub loop-at-preserved : goal.loop-at-preserved
loop-at-preserved c =
    let tokens = c.args.tokens.now in
    let at = c.loop-at.at in
    let len = c.run_len-len.result in
    record {
      same = line_read tokens (drop at tokens) (take len (take (length tokens - at) (drop at tokens)))
          (drop (at + len) tokens) (state_of c.loop-at.preprocessor) c.loop-at.out.items
          c.loop-at.invariant.same (first_run tokens at len c.loop-at-test.true c.run_len-len.ensures.value)
          (state_of c.read_line.new.self) c.read_line.new.out.items c.in_ok-read_line.ensures.0;
      few = c.in_ok-read_line.ensures.1;
      within = omega (
        arith,
        c.run_len-len.ensures.within,
        length-drop at tokens,
        length-take-le (length tokens - at)
            (drop at tokens) (omega (arith, length-drop at tokens)),
      );
    }

pub returns-in_err-finish-clause-value : goal.returns-in_err-finish-clause-value
returns-in_err-finish-clause-value c =
    let error = err_from_is_err_and c.from_residual-in_err-finish.result c.from_residual-in_err-finish.ensures.1 in
    rw (error.1, error.2)
    (end_failed c.args.tokens.now c.loop-at.at (state_of c.loop-at.preprocessor) c.loop-at.out.items
    c.loop-at.invariant.same c.loop-at-test.false c.loop-at.invariant.few
    c.in_err-finish.field-0.0 c.in_err-finish.ensures)

pub returns-clause-value : goal.returns-clause-value
returns-clause-value c =
    end_read c.args.tokens.now c.loop-at.at (state_of c.loop-at.preprocessor) c.loop-at.out.items
    c.loop-at.invariant.same c.loop-at-test.false c.loop-at.invariant.few c.in_ok-finish.ensures
