use Rattle.std.proofs.Common.{refl, Ok}
use Rattle.source_meaning.specs.State.{◌>>◌}
use Rattle.source_meaning.specs.Actions.{set_plain}
use Rattle.source_meaning.specs.Structures.{give}
use Rattle.interpreter_tasks.specs.Actions as action
use Rattle.source_interp.proofs.ActionLaws as law
use Rattle.source_interp.proofs.Evaluating.{one_operand, sets_found}
use Rattle.source_interp.proofs.evaluation.Evaluation.set_plain.Goals as goal

pub returns : goal.returns
returns c o =
    one_operand (action.SetPlain c.args.variable) (λ t. set_plain c.args.variable t.value >> give t.value)
    (law.sets_plain c.args.variable) c.args.self.now c.take-value.new.self (record c.take-value.new.self {
      machine =
          c.set_plain.new.self;
    }) o o c.take-value.result (Ok c.plain.result) c.take-value.ensures.first
    c.take-value.ensures.rest (λ g. sets_found g c.take-value.new.self.machine c.set_plain.new.self o c.args.variable
    c.value-stored.result c.take-value.result.value c.plain.result c.value-stored.ensures c.plain.ensures
    (c.set_plain.ensures g o)) c.leave.new.self c.plain.result c.leave.result refl refl c.leave.ensures.left
    c.leave.ensures.failed
