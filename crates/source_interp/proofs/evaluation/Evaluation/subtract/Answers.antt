use Rattle.std.proofs.Common.{refl, subst, ap, ◌∙◌, Ok, Err}
use Rattle.std.proofs.lemmas.Result.{err_from_is_err_and}
use Rattle.source_meaning.specs.State.{done}
use Rattle.source_meaning.specs.Actions.{difference_value}
use Rattle.source_meaning.specs.Structures.{as_rvalue}
use Rattle.interpreter_tasks.specs.Actions as action
use Rattle.source_interp.specs.Standing.{Acts}
use Rattle.source_interp.proofs.ActionLaws as law
use Rattle.source_interp.proofs.Evaluating.{as_value, as_value_stops, two_operands, two_operands_stop}
use Rattle.source_interp.proofs.evaluation.Evaluation.subtract.Goals as goal

pub returns-in_err-value : goal.returns-in_err-value
returns-in_err-value c o =
    let p = err_from_is_err_and c.from_residual.result c.from_residual.ensures.1 in two_operands_stop
    (action.Difference c.args.size) (λ x y. (as_rvalue (done (difference_value c.args.size x.value y.value))))
    (law.differs c.args.size) c.args.self.now c.take-right.new.self
    c.take-left.new.self c.take-left.new.self o o c.take-left.result c.take-right.result (Err c.in_err-value.field-0.0)
    c.take-right.ensures.first c.take-right.ensures.rest c.take-left.ensures.first c.take-left.ensures.rest (λ g. subst
    (λ y. Acts g c.take-left.new.self.machine c.take-left.new.self.machine o o (Err c.in_err-value.field-0.0) (as_rvalue
    (done (difference_value c.args.size c.take-left.result.value y)))) c.value-2.ensures (subst (λ x. Acts g
    c.take-left.new.self.machine c.take-left.new.self.machine o o (Err c.in_err-value.field-0.0) (as_rvalue (done
    (difference_value c.args.size x c.value-2.result)))) c.value.ensures (as_value_stops g
    c.take-left.new.self.machine c.take-left.new.self.machine o o c.subtracted.result c.in_err-value.field-0.0 (done
    (difference_value c.args.size c.value.result c.value-2.result)) c.in_err-value.was (c.subtracted.ensures
    c.take-left.new.self.machine g o)))) c.in_err-value.field-0.0 c.from_residual.result refl (p.1 ∙ ap Err p.2)

pub returns : goal.returns
returns c o =
    two_operands (action.Difference c.args.size) (λ x y. (as_rvalue (done (difference_value c.args.size x.value
    y.value)))) (law.differs c.args.size) c.args.self.now
    c.take-right.new.self c.take-left.new.self c.take-left.new.self o o c.take-left.result c.take-right.result (Ok
    c.plain.result) c.take-right.ensures.first c.take-right.ensures.rest c.take-left.ensures.first
    c.take-left.ensures.rest (λ g. subst (λ y. Acts g c.take-left.new.self.machine c.take-left.new.self.machine o o (Ok
    c.plain.result) (as_rvalue (done (difference_value c.args.size c.take-left.result.value y))))
    c.value-2.ensures (subst (λ x. Acts g c.take-left.new.self.machine c.take-left.new.self.machine o o (Ok
    c.plain.result) (as_rvalue (done (difference_value c.args.size x c.value-2.result)))) c.value.ensures
    (as_value g c.take-left.new.self.machine c.take-left.new.self.machine o o c.subtracted.result c.in_ok-value.value
    c.plain.result (done (difference_value c.args.size c.value.result c.value-2.result)) c.in_ok-value.was
    c.plain.ensures (c.subtracted.ensures c.take-left.new.self.machine g o)))) c.leave.new.self c.plain.result
    c.leave.result refl refl c.leave.ensures.left c.leave.ensures.failed
