use Rattle.std.proofs.Common.{refl, Ok}
use Rattle.source_meaning.specs.State.{done}
use Rattle.source_meaning.specs.Structures.{member_of}
use Rattle.interpreter_tasks.specs.Actions as action
use Rattle.source_interp.proofs.Acting.{gives_acts}
use Rattle.source_interp.proofs.ActionLaws as law
use Rattle.source_interp.proofs.Evaluating.{one_operand}
use Rattle.source_interp.proofs.evaluation.Evaluation.member.Goals as goal

pub returns : goal.returns
returns c o =
    one_operand (action.Member c.args.offset c.args.size) (λ t. done (member_of c.args.offset c.args.size t))
    (law.members c.args.offset c.args.size) c.args.self.now c.take-value.new.self c.take-value.new.self o o
    c.take-value.result (Ok c.member.result) c.take-value.ensures.first c.take-value.ensures.rest (λ g. gives_acts g
    c.take-value.new.self.machine o c.member.result (member_of c.args.offset c.args.size c.take-value.result)
    (c.member.ensures)) c.leave.new.self c.member.result c.leave.result refl refl c.leave.ensures.left
    c.leave.ensures.failed
