use Rattle.std.proofs.Common.{refl, subst, ap, ◌∙◌, Ok, Err}
use Rattle.std.proofs.lemmas.Result.{err_from_is_err_and}
use Rattle.source_meaning.specs.Actions.{update_plain, updated}
use Rattle.source_meaning.specs.Structures.{as_rvalue}
use Rattle.interpreter_tasks.specs.Actions as action
use Rattle.source_interp.specs.Standing.{Acts}
use Rattle.source_interp.proofs.ActionLaws as law
use Rattle.source_interp.proofs.Evaluating.{as_value, as_value_stops, one_operand, one_operand_stops}
use Rattle.source_interp.proofs.evaluation.Evaluation.change_plain.Goals as goal

pub returns-in_err-value : goal.returns-in_err-value
returns-in_err-value c o =
    let p = err_from_is_err_and c.from_residual.result c.from_residual.ensures.1 in one_operand_stops
    (action.ChangePlain c.args.updating.update c.args.updating.scalar c.args.variable c.args.line
    c.args.updating.fixity) (λ y. as_rvalue (update_plain c.args.variable (updated c.args.updating.update
    c.args.updating.scalar y.value c.args.line) c.args.updating.fixity)) (law.changes_plain c.args.updating.update
    c.args.updating.scalar c.args.variable c.args.line c.args.updating.fixity) c.args.self.now c.take-right.new.self
    (record c.take-right.new.self { machine = c.update_plain.new.self }) o o c.take-right.result (Err
    c.in_err-value.field-0.0) c.take-right.ensures.first c.take-right.ensures.rest (λ e. subst (λ y. Acts e
    c.take-right.new.self.machine c.update_plain.new.self o o (Err c.in_err-value.field-0.0) (as_rvalue (update_plain
    c.args.variable (updated c.args.updating.update c.args.updating.scalar y c.args.line) c.args.updating.fixity)))
    c.value.ensures (as_value_stops e c.take-right.new.self.machine c.update_plain.new.self o o c.update_plain.result
    c.in_err-value.field-0.0 (update_plain c.args.variable (updated c.args.updating.update c.args.updating.scalar
    c.value.result c.args.line) c.args.updating.fixity) c.in_err-value.was (c.update_plain.ensures e o)))
    c.in_err-value.field-0.0 c.from_residual.result refl (p.1 ∙ ap Err p.2)

pub returns : goal.returns
returns c o =
    one_operand (action.ChangePlain c.args.updating.update c.args.updating.scalar c.args.variable c.args.line
    c.args.updating.fixity) (λ y. as_rvalue (update_plain c.args.variable (updated c.args.updating.update
    c.args.updating.scalar y.value c.args.line) c.args.updating.fixity)) (law.changes_plain c.args.updating.update
    c.args.updating.scalar c.args.variable c.args.line c.args.updating.fixity) c.args.self.now c.take-right.new.self
    (record c.take-right.new.self { machine = c.update_plain.new.self }) o o c.take-right.result (Ok c.plain.result)
    c.take-right.ensures.first c.take-right.ensures.rest (λ e. subst (λ y. Acts e c.take-right.new.self.machine
    c.update_plain.new.self o o (Ok c.plain.result) (as_rvalue (update_plain c.args.variable (updated
    c.args.updating.update c.args.updating.scalar y c.args.line) c.args.updating.fixity))) c.value.ensures (as_value e
    c.take-right.new.self.machine c.update_plain.new.self o o c.update_plain.result c.in_ok-value.value c.plain.result
    (update_plain c.args.variable (updated c.args.updating.update c.args.updating.scalar c.value.result c.args.line)
    c.args.updating.fixity) c.in_ok-value.was c.plain.ensures (c.update_plain.ensures e o))) c.leave.new.self
    c.plain.result c.leave.result refl refl c.leave.ensures.left c.leave.ensures.failed
