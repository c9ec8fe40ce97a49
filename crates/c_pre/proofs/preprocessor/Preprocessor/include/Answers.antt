use Rattle.std.proofs.Common.{◌+◌, ◌-◌, length, take, drop, length-drop, sym, ap, ◌∙◌, arith}
use Rattle.std.proofs.lemmas.List.{length-take-le}
use Rattle.std.proofs.lemmas.Result.{err_from_is_err_and}
use Rattle.c_pre.specs.Lines.{lines}
use Rattle.c_pre.specs.Reading.{define_lines}
use Rattle.c_pre.specs.Outcomes.{state_of}
use Rattle.c_pre.proofs.Cutting.{first_line}
use Rattle.c_pre.proofs.Including.{line_defined, line_refused}
use Rattle.c_pre.proofs.preprocessor.Preprocessor.include.Goals as goal

pub returns-in_err-define_line : goal.returns-in_err-define_line
returns-in_err-define_line c =
    let tokens = c.tokens-tokens.result.now in
    let from = c.loop-from.from in
    let len = c.line_len-len.result in
    let same = ap (λ t. define_lines c.args.at (lines t) (state_of c.args.self.now)) (sym c.tokens-tokens.ensures)
    ∙ c.loop-from.invariant.same in
    let error = err_from_is_err_and c.from_residual.result c.from_residual.ensures.1 in
    rw (error.1, error.2)
    (line_refused c.args.at _ (state_of c.loop-from.self) (drop from tokens)
    (take len (take (length tokens - from) (drop from tokens))) (drop (from + len) tokens)
    same (first_line tokens from len c.loop-from-test.true c.line_len-len.ensures.value)
    c.in_err-define_line.field-0.0 c.in_err-define_line.ensures)

pub loop-from-preserved : goal.loop-from-preserved
loop-from-preserved c =
    let tokens = c.tokens-tokens.result.now in
    let from = c.loop-from.from in
    let len = c.line_len-len.result in
    record {
      same = line_defined c.args.at _ (state_of c.loop-from.self) (drop from tokens)
          (take len (take (length tokens - from) (drop from tokens))) (drop (from + len) tokens)
          c.loop-from.invariant.same (first_line tokens from len c.loop-from-test.true c.line_len-len.ensures.value)
          (state_of c.define_line.new.self) c.in_ok-define_line.ensures;
      within = omega (
        arith,
        c.line_len-len.ensures.within,
        length-drop from tokens,
        length-take-le
            (length tokens - from) (drop from tokens) (omega (arith, length-drop from tokens)),
      );
    }
