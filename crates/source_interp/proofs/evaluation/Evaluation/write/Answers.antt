use Rattle.std.proofs.Common.{refl, subst, ap, ◌∙◌, Err}
use Rattle.std.proofs.lemmas.Result.{err_from_is_err_and}
use Rattle.source_meaning.specs.Structures.{write_rvalue}
use Rattle.interpreter_tasks.specs.Actions as action
use Rattle.source_interp.specs.Outside.{outside}
use Rattle.source_interp.specs.Standing.{Acts}
use Rattle.source_interp.proofs.ActionLaws as law
use Rattle.source_interp.proofs.Evaluating.{two_operands, two_operands_stop}
use Rattle.source_interp.proofs.evaluation.Evaluation.write.Goals as goal

pub returns-in_err-stored : goal.returns-in_err-stored
returns-in_err-stored g c w i =
    let p = err_from_is_err_and c.from_residual.result c.from_residual.ensures.1 in two_operands_stop (action.Write
    c.args.kind c.args.is_judged c.args.line) (λ x y. write_rvalue c.args.kind c.args.is_judged x.value c.args.line y)
    (law.writes c.args.kind c.args.is_judged c.args.line) c.args.self.now c.take-value.new.self c.take-pointer.new.self
    (record c.take-pointer.new.self { machine = c.write_rvalue.new.self }) (outside w (g.T.Trace.noted c.args.trace.now)
    i) (outside w (g.T.Trace.noted c.write_rvalue.new.trace) i) c.take-pointer.result c.take-value.result
    c.write_rvalue.result c.take-value.ensures.first c.take-value.ensures.rest c.take-pointer.ensures.first
    c.take-pointer.ensures.rest (λ e. subst (λ y. Acts e c.take-pointer.new.self.machine c.write_rvalue.new.self
    (outside w (g.T.Trace.noted c.args.trace.now) i) (outside w (g.T.Trace.noted c.write_rvalue.new.trace) i)
    c.write_rvalue.result (write_rvalue c.args.kind c.args.is_judged y c.args.line c.take-value.result)) c.value.ensures
    (c.write_rvalue.ensures e w i)) c.in_err-stored.field-0.0 c.from_residual.result c.in_err-stored.was (p.1 ∙ ap Err
    p.2)

pub returns : goal.returns
returns g c w i =
    two_operands (action.Write c.args.kind c.args.is_judged c.args.line) (λ x y. write_rvalue c.args.kind
    c.args.is_judged x.value c.args.line y) (law.writes c.args.kind c.args.is_judged c.args.line) c.args.self.now
    c.take-value.new.self c.take-pointer.new.self (record c.take-pointer.new.self { machine = c.write_rvalue.new.self })
    (outside w (g.T.Trace.noted c.args.trace.now) i) (outside w (g.T.Trace.noted c.write_rvalue.new.trace) i)
    c.take-pointer.result c.take-value.result c.write_rvalue.result c.take-value.ensures.first c.take-value.ensures.rest
    c.take-pointer.ensures.first c.take-pointer.ensures.rest (λ e. subst (λ y. Acts e c.take-pointer.new.self.machine
    c.write_rvalue.new.self (outside w (g.T.Trace.noted c.args.trace.now) i) (outside w (g.T.Trace.noted
    c.write_rvalue.new.trace) i) c.write_rvalue.result (write_rvalue c.args.kind c.args.is_judged y c.args.line
    c.take-value.result)) c.value.ensures (c.write_rvalue.ensures e w i)) c.leave.new.self c.in_ok-stored.stored
    c.leave.result c.in_ok-stored.was refl c.leave.ensures.left c.leave.ensures.failed
