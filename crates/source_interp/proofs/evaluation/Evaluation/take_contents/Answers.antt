use Rattle.std.proofs.Common.{refl, ap, ◌∙◌, Err}
use Rattle.std.proofs.lemmas.Result.{err_from_is_err_and}
use Rattle.source_meaning.specs.Structures.{take_value}
use Rattle.interpreter_tasks.specs.Actions as action
use Rattle.source_interp.proofs.ActionLaws as law
use Rattle.source_interp.proofs.Evaluating.{one_operand, one_operand_stops}
use Rattle.source_interp.proofs.evaluation.Evaluation.take_contents.Goals as goal

pub returns-in_err-taken : goal.returns-in_err-taken
returns-in_err-taken c o =
    let p = err_from_is_err_and c.from_residual.result c.from_residual.ensures.1 in one_operand_stops (action.Take
    c.args.kind c.args.line) (λ t. take_value c.args.kind c.args.line t) (law.takes c.args.kind c.args.line)
    c.args.self.now c.take-value.new.self (record c.take-value.new.self { machine = c.take_value.new.self }) o o
    c.take-value.result c.take_value.result c.take-value.ensures.first c.take-value.ensures.rest (λ g.
    c.take_value.ensures g o) c.in_err-taken.field-0.0 c.from_residual.result c.in_err-taken.was (p.1 ∙ ap Err p.2)

pub returns : goal.returns
returns c o =
    one_operand (action.Take c.args.kind c.args.line) (λ t. take_value c.args.kind c.args.line t) (law.takes
    c.args.kind c.args.line) c.args.self.now c.take-value.new.self (record c.take-value.new.self {
      machine =
          c.take_value.new.self;
    }) o o c.take-value.result c.take_value.result c.take-value.ensures.first
    c.take-value.ensures.rest (λ g. c.take_value.ensures g o) c.leave.new.self c.in_ok-taken.taken c.leave.result
    c.in_ok-taken.was refl c.leave.ensures.left c.leave.ensures.failed
