use Rattle.std.proofs.Common.{refl, Ok}
use Rattle.source_meaning.specs.Structures.{give, rvalue}
use Rattle.interpreter_tasks.specs.Actions as action
use Rattle.source_interp.proofs.Acting.{gives_acts}
use Rattle.source_interp.proofs.ActionLaws as law
use Rattle.source_interp.proofs.Evaluating.{no_operand}
use Rattle.source_interp.proofs.evaluation.Evaluation.give.Goals as goal

pub returns : goal.returns
returns c o =
    no_operand (action.Give c.args.value) (give c.args.value) (law.gives c.args.value) c.args.self.now c.args.self.now o
    o (Ok c.plain.result) (λ g. gives_acts g c.args.self.now.machine o c.plain.result (rvalue c.args.value)
    c.plain.ensures) c.leave.new.self c.plain.result c.leave.result refl refl c.leave.ensures.left
    c.leave.ensures.failed
