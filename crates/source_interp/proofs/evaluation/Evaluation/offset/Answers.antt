use Rattle.std.proofs.Common.{refl, ap, ◌∙◌, Ok}
use Rattle.source_meaning.specs.Actions.{offset_value}
use Rattle.source_meaning.specs.Structures.{give, rvalue}
use Rattle.interpreter_tasks.specs.Actions as action
use Rattle.source_interp.proofs.Acting.{gives_acts}
use Rattle.source_interp.proofs.ActionLaws as law
use Rattle.source_interp.proofs.Evaluating.{two_operands}
use Rattle.source_interp.proofs.evaluation.Evaluation.offset.Goals as goal

pub returns : goal.returns
returns c o =
    two_operands (action.Offset c.args.form c.args.size) (λ x y. give (offset_value c.args.form c.args.size x.value
    y.value)) (law.offsets c.args.form c.args.size) c.args.self.now c.take-right.new.self c.take-left.new.self
    c.take-left.new.self o o c.take-left.result c.take-right.result (Ok c.plain.result) c.take-right.ensures.first
    c.take-right.ensures.rest c.take-left.ensures.first c.take-left.ensures.rest (λ g. gives_acts g
    c.take-left.new.self.machine o c.plain.result (rvalue (offset_value c.args.form c.args.size c.take-left.result.value
    c.take-right.result.value)) (c.plain.ensures ∙ ap rvalue (c.offset_value.ensures ∙ ap (λ x. offset_value c.args.form
    c.args.size x c.value-2.result) c.value.ensures ∙ ap (offset_value c.args.form c.args.size c.take-left.result.value)
    c.value-2.ensures))) c.leave.new.self c.plain.result c.leave.result refl refl c.leave.ensures.left
    c.leave.ensures.failed
