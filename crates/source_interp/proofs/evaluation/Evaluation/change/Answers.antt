use Rattle.std.proofs.Common.{refl, subst, ap, ◌∙◌, Ok, Err}
use Rattle.std.proofs.lemmas.Result.{err_from_is_err_and}
use Rattle.source_meaning.specs.Actions.{update, updated}
use Rattle.source_meaning.specs.Structures.{as_rvalue}
use Rattle.interpreter_tasks.specs.Actions as action
use Rattle.source_interp.specs.Outside.{outside}
use Rattle.source_interp.specs.Standing.{Acts}
use Rattle.source_interp.proofs.ActionLaws as law
use Rattle.source_interp.proofs.Evaluating.{as_value, as_value_stops, two_operands, two_operands_stop}
use Rattle.source_interp.proofs.evaluation.Evaluation.change.Goals as goal

pub returns-in_err-value : goal.returns-in_err-value
returns-in_err-value g c w i =
    let p = err_from_is_err_and c.from_residual.result c.from_residual.ensures.1 in two_operands_stop (action.Change
    c.args.updating.update c.args.updating.scalar c.args.is_judged c.args.place_line c.args.line c.args.updating.fixity)
    (λ x y. as_rvalue (update c.args.updating.scalar c.args.is_judged x.value c.args.place_line (updated
    c.args.updating.update c.args.updating.scalar y.value c.args.line) c.args.updating.fixity)) (law.changes
    c.args.updating.update c.args.updating.scalar c.args.is_judged c.args.place_line c.args.line c.args.updating.fixity)
    c.args.self.now c.take-right.new.self c.take-pointer.new.self (record c.take-pointer.new.self {
      machine =
          c.update.new.self;
    }) (outside w (g.T.Trace.noted c.args.trace.now) i) (outside w (g.T.Trace.noted
    c.update.new.trace) i) c.take-pointer.result c.take-right.result (Err c.in_err-value.field-0.0)
    c.take-right.ensures.first c.take-right.ensures.rest c.take-pointer.ensures.first c.take-pointer.ensures.rest (λ e.
    subst (λ y. Acts e c.take-pointer.new.self.machine c.update.new.self (outside w (g.T.Trace.noted c.args.trace.now)
    i) (outside w (g.T.Trace.noted c.update.new.trace) i) (Err c.in_err-value.field-0.0) (as_rvalue (update
    c.args.updating.scalar c.args.is_judged c.take-pointer.result.value c.args.place_line (updated
    c.args.updating.update c.args.updating.scalar y c.args.line) c.args.updating.fixity))) c.value-2.ensures (subst (λ
    x. Acts e c.take-pointer.new.self.machine c.update.new.self (outside w (g.T.Trace.noted c.args.trace.now) i)
    (outside w (g.T.Trace.noted c.update.new.trace) i) (Err c.in_err-value.field-0.0) (as_rvalue (update
    c.args.updating.scalar c.args.is_judged x c.args.place_line (updated c.args.updating.update c.args.updating.scalar
    c.value-2.result c.args.line) c.args.updating.fixity))) c.value.ensures (as_value_stops e
    c.take-pointer.new.self.machine c.update.new.self (outside w (g.T.Trace.noted c.args.trace.now) i) (outside w
    (g.T.Trace.noted c.update.new.trace) i) c.update.result c.in_err-value.field-0.0 (update c.args.updating.scalar
    c.args.is_judged c.value.result c.args.place_line (updated c.args.updating.update c.args.updating.scalar
    c.value-2.result c.args.line) c.args.updating.fixity) c.in_err-value.was (c.update.ensures e w i))))
    c.in_err-value.field-0.0 c.from_residual.result refl (p.1 ∙ ap Err p.2)

pub returns : goal.returns
returns g c w i =
    two_operands (action.Change c.args.updating.update c.args.updating.scalar c.args.is_judged c.args.place_line
    c.args.line c.args.updating.fixity) (λ x y. as_rvalue (update c.args.updating.scalar c.args.is_judged x.value
    c.args.place_line (updated c.args.updating.update c.args.updating.scalar y.value c.args.line)
    c.args.updating.fixity)) (law.changes c.args.updating.update c.args.updating.scalar c.args.is_judged
    c.args.place_line c.args.line c.args.updating.fixity) c.args.self.now c.take-right.new.self c.take-pointer.new.self
    (record c.take-pointer.new.self { machine = c.update.new.self }) (outside w (g.T.Trace.noted c.args.trace.now) i)
    (outside w (g.T.Trace.noted c.update.new.trace) i) c.take-pointer.result c.take-right.result (Ok c.plain.result)
    c.take-right.ensures.first c.take-right.ensures.rest c.take-pointer.ensures.first c.take-pointer.ensures.rest (λ e.
    subst (λ y. Acts e c.take-pointer.new.self.machine c.update.new.self (outside w (g.T.Trace.noted c.args.trace.now)
    i) (outside w (g.T.Trace.noted c.update.new.trace) i) (Ok c.plain.result) (as_rvalue (update c.args.updating.scalar
    c.args.is_judged c.take-pointer.result.value c.args.place_line (updated c.args.updating.update
    c.args.updating.scalar y c.args.line) c.args.updating.fixity))) c.value-2.ensures (subst (λ x. Acts e
    c.take-pointer.new.self.machine c.update.new.self (outside w (g.T.Trace.noted c.args.trace.now) i) (outside w
    (g.T.Trace.noted c.update.new.trace) i) (Ok c.plain.result) (as_rvalue (update c.args.updating.scalar
    c.args.is_judged x c.args.place_line (updated c.args.updating.update c.args.updating.scalar c.value-2.result
    c.args.line) c.args.updating.fixity))) c.value.ensures (as_value e c.take-pointer.new.self.machine c.update.new.self
    (outside w (g.T.Trace.noted c.args.trace.now) i) (outside w (g.T.Trace.noted c.update.new.trace) i) c.update.result
    c.in_ok-value.value c.plain.result (update c.args.updating.scalar c.args.is_judged c.value.result c.args.place_line
    (updated c.args.updating.update c.args.updating.scalar c.value-2.result c.args.line) c.args.updating.fixity)
    c.in_ok-value.was c.plain.ensures (c.update.ensures e w i)))) c.leave.new.self c.plain.result c.leave.result refl
    refl c.leave.ensures.left c.leave.ensures.failed
