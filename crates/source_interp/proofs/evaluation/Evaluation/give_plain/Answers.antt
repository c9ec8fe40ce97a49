use Rattle.std.proofs.Common.{refl, Ok}
use Rattle.source_meaning.specs.State.{read_state}
use Rattle.source_meaning.specs.Actions.{plain_value}
use Rattle.source_meaning.specs.Structures.{as_rvalue}
use Rattle.interpreter_tasks.specs.Actions as action
use Rattle.source_interp.proofs.ActionLaws as law
use Rattle.source_interp.proofs.Evaluating.{as_value, no_operand}
use Rattle.source_interp.proofs.evaluation.Evaluation.give_plain.Goals as goal

pub returns : goal.returns
returns c o =
    no_operand (action.GivePlain c.args.variable) (as_rvalue (read_state (plain_value c.args.variable)))
    (law.gives_plain c.args.variable) c.args.self.now c.args.self.now o o (Ok c.plain.result) (λ g. as_value g
    c.args.self.now.machine c.args.self.now.machine o o (Ok c.plain_value-value.result) c.plain_value-value.result
    c.plain.result (read_state (plain_value c.args.variable)) refl c.plain.ensures (c.plain_value-value.ensures g o))
    c.leave.new.self c.plain.result c.leave.result refl refl c.leave.ensures.left c.leave.ensures.failed
