use Rattle.std.proofs.Common.{refl, ap, ◌∙◌, Ok}
use Rattle.obj_memory.specs.Operators.{unary_value}
use Rattle.source_meaning.specs.Actions.{integer}
use Rattle.source_meaning.specs.Structures.{give, rvalue}
use Rattle.interpreter_tasks.specs.Actions as action
use Rattle.source_interp.proofs.Acting.{gives_acts}
use Rattle.source_interp.proofs.ActionLaws as law
use Rattle.source_interp.proofs.Evaluating.{one_operand}
use Rattle.source_interp.proofs.evaluation.Evaluation.apply.Goals as goal

pub returns : goal.returns
returns c o =
    one_operand (action.Apply c.args.operator c.args.of) (λ t. give (integer (unary_value c.args.operator c.args.of
    t.value.word))) (law.applies c.args.operator c.args.of) c.args.self.now c.take-found.new.self c.take-found.new.self
    o o c.take-found.result (Ok c.plain.result) c.take-found.ensures.first c.take-found.ensures.rest (λ g. gives_acts g
    c.take-found.new.self.machine o c.plain.result (rvalue (integer (unary_value c.args.operator c.args.of
    c.take-found.result.value.word))) (c.plain.ensures ∙ ap rvalue (c.integer.ensures ∙ ap integer (c.apply-word.ensures
    ∙ ap (λ x. unary_value c.args.operator c.args.of x.word) c.value.ensures)))) c.leave.new.self c.plain.result
    c.leave.result refl refl c.leave.ensures.left c.leave.ensures.failed
