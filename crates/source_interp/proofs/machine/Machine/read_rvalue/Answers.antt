use Rattle.std.proofs.Common.{sym, ap, subst, ◌∙◌, Ok, Err}
use Rattle.std.proofs.lemmas.Result.{err_from_is_err_and}
use Rattle.source_meaning.specs.Actions.{read_lvalue}
use Rattle.source_interp.specs.Outside.{outside}
use Rattle.source_interp.specs.Standing.{Acts}
use Rattle.source_interp.proofs.Structures.{found_none, found_value, reads_contents, reads_place}
use Rattle.source_interp.proofs.machine.Machine.read_rvalue.Goals as goal

pub returns-then-has_contents : goal.returns-then-has_contents
returns-then-has_contents g c e w i =
    reads_contents e c.args.self.now (outside w (g.T.Trace.noted c.args.trace.now) i) _ c.args.kind c.args.is_judged _
    c.args.line c.part.result (sym c.has_contents.ensures ∙ c.if-has_contents.true) (λ x same. c.part.ensures
    c.args.self.now x same e (outside w (g.T.Trace.noted c.args.trace.now) i))

pub returns-in_err-value : goal.returns-in_err-value
returns-in_err-value g c e w i =
    let p = err_from_is_err_and c.from_residual.result c.from_residual.ensures.1 in reads_place e c.args.self.now
    c.read_lvalue.new.self (outside w (g.T.Trace.noted c.args.trace.now) i) (outside w (g.T.Trace.noted
    c.read_lvalue.new.trace) i) c.args.from.contents c.args.kind c.args.is_judged c.args.from.value c.args.line
    c.from_residual.result (sym c.has_contents.ensures ∙ c.if-has_contents.false) (found_none e c.args.self.now
    c.read_lvalue.new.self (outside w (g.T.Trace.noted c.args.trace.now) i) (outside w (g.T.Trace.noted
    c.read_lvalue.new.trace) i) (read_lvalue c.args.kind c.args.is_judged c.args.from.value c.args.line)
    c.in_err-value.field-0.0 c.read_lvalue.result c.from_residual.result c.in_err-value.was (p.1 ∙ ap Err p.2) (subst (λ
    v. Acts e c.args.self.now c.read_lvalue.new.self (outside w (g.T.Trace.noted c.args.trace.now) i) (outside w
    (g.T.Trace.noted c.read_lvalue.new.trace) i) c.read_lvalue.result (read_lvalue c.args.kind c.args.is_judged v
    c.args.line)) c.value.ensures (c.read_lvalue.ensures e w i)))

pub returns : goal.returns
returns g c e w i =
    reads_place e c.args.self.now c.read_lvalue.new.self (outside w (g.T.Trace.noted c.args.trace.now) i) (outside w
    (g.T.Trace.noted c.read_lvalue.new.trace) i) c.args.from.contents c.args.kind c.args.is_judged c.args.from.value
    c.args.line (Ok c.plain.result) (sym c.has_contents.ensures ∙ c.if-has_contents.false) (found_value e
    c.args.self.now c.read_lvalue.new.self (outside w (g.T.Trace.noted c.args.trace.now) i) (outside w (g.T.Trace.noted
    c.read_lvalue.new.trace) i) (read_lvalue c.args.kind c.args.is_judged c.args.from.value c.args.line)
    c.in_ok-value.value c.plain.result c.read_lvalue.result c.in_ok-value.was c.plain.ensures (subst (λ v. Acts e
    c.args.self.now c.read_lvalue.new.self (outside w (g.T.Trace.noted c.args.trace.now) i) (outside w (g.T.Trace.noted
    c.read_lvalue.new.trace) i) c.read_lvalue.result (read_lvalue c.args.kind c.args.is_judged v c.args.line))
    c.value.ensures (c.read_lvalue.ensures e w i)))
