use Rattle.std.proofs.Common.{refl, ap, ◌∙◌, Ok}
use Rattle.source_meaning.specs.Actions.{converted}
use Rattle.source_meaning.specs.Structures.{give, rvalue}
use Rattle.interpreter_tasks.specs.Actions as action
use Rattle.source_interp.proofs.Acting.{gives_acts}
use Rattle.source_interp.proofs.ActionLaws as law
use Rattle.source_interp.proofs.Evaluating.{one_operand}
use Rattle.source_interp.proofs.evaluation.Evaluation.convert.Goals as goal

pub returns : goal.returns
returns c o =
    one_operand (action.Convert c.args.kind) (λ t. give (converted c.args.kind t.value)) (law.converts c.args.kind)
    c.args.self.now c.take-found.new.self c.take-found.new.self o o c.take-found.result (Ok c.plain.result)
    c.take-found.ensures.first c.take-found.ensures.rest (λ g. gives_acts g c.take-found.new.self.machine o
    c.plain.result (rvalue (converted c.args.kind c.take-found.result.value)) (c.plain.ensures ∙ ap rvalue
    (c.converted.ensures ∙ ap (converted c.args.kind) c.value.ensures))) c.leave.new.self c.plain.result c.leave.result
    refl refl c.leave.ensures.left c.leave.ensures.failed
