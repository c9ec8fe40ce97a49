use Rattle.std.proofs.Common.{sym}
use Rattle.c_pre.specs.Outcomes.{state_of, line_of_kind}
use Rattle.c_pre.proofs.Traces.{quiet_follows}
use Rattle.c_pre.proofs.LineReading.{in_skipped, as_text, as_directive}
use Rattle.c_pre.proofs.preprocessor.Preprocessor.read_line.Goals as goal

pub returns-then-not-is_reading : goal.returns-then-not-is_reading
returns-then-not-is_reading c =
    let e = in_skipped (state_of c.args.self.now) c.args.line.now c.line_of-at.result (line_of_kind c.of-kind.result)
    c.line_of-at.ensures c.of-kind.ensures (sym c.if-not-is_reading.ensures) in
    rw e (quiet_follows _ _ _ _ c.requires c.follow.ensures)

pub returns-then-is_text : goal.returns-then-is_text
returns-then-is_text c =
    let e = as_text (state_of c.args.self.now) c.args.line.now c.line_of-at.result (line_of_kind c.of-kind.result)
    c.line_of-at.ensures c.of-kind.ensures (sym c.if-not-is_reading.ensures) (sym c.if-is_text.ensures) in
    rw e c.read_text_line.ensures

pub returns : goal.returns
returns c =
    let e = as_directive (state_of c.args.self.now) c.args.line.now c.line_of-at.result (line_of_kind c.of-kind.result)
    c.line_of-at.ensures c.of-kind.ensures (sym c.if-not-is_reading.ensures) (sym c.if-is_text.ensures) in
    rw e (quiet_follows _ _ _ _ c.requires c.obey.ensures)
