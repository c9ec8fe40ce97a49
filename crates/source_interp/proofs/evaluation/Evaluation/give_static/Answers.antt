use Rattle.std.proofs.Common.{refl, ap, ◌∙◌, Ok, Err}
use Rattle.std.proofs.lemmas.Result.{err_from_is_err_and}
use Rattle.obj_memory.specs.Objects.{pointer_to}
use Rattle.source_meaning.specs.State.{read_state}
use Rattle.source_meaning.specs.Structures.{as_rvalue}
use Rattle.interpreter_tasks.specs.Actions as action
use Rattle.source_interp.proofs.ActionLaws as law
use Rattle.source_interp.proofs.Evaluating.{as_value, as_value_stops, no_operand, no_operand_stops}
use Rattle.source_interp.proofs.evaluation.Evaluation.give_static.Goals as goal

pub returns-in_err-pointer : goal.returns-in_err-pointer
returns-in_err-pointer c o =
    let p = err_from_is_err_and c.from_residual.result c.from_residual.ensures.1 in no_operand_stops (action.GiveStatic
    c.args.object) (as_rvalue (read_state (λ s. pointer_to c.args.object s.objects))) (law.gives_static c.args.object)
    c.args.self.now c.args.self.now o o (Err c.in_err-pointer.field-0.0) (λ g. as_value_stops g c.args.self.now.machine
    c.args.self.now.machine o o c.pointer_to.result c.in_err-pointer.field-0.0 (read_state (λ s. pointer_to
    c.args.object s.objects)) c.in_err-pointer.was (c.pointer_to.ensures g o)) c.in_err-pointer.field-0.0
    c.from_residual.result refl (p.1 ∙ ap Err p.2)

pub returns : goal.returns
returns c o =
    no_operand (action.GiveStatic c.args.object) (as_rvalue (read_state (λ s. pointer_to c.args.object s.objects)))
    (law.gives_static c.args.object) c.args.self.now c.args.self.now o o (Ok c.plain.result) (λ g. as_value g
    c.args.self.now.machine c.args.self.now.machine o o c.pointer_to.result c.in_ok-pointer.pointer c.plain.result
    (read_state (λ s. pointer_to c.args.object s.objects)) c.in_ok-pointer.was c.plain.ensures (c.pointer_to.ensures g
    o)) c.leave.new.self c.plain.result c.leave.result refl refl c.leave.ensures.left c.leave.ensures.failed
