use Rattle.std.proofs.Common.{refl, ap, ◌∙◌, Err}
use Rattle.std.proofs.lemmas.Result.{err_from_is_err_and}
use Rattle.source_meaning.specs.Structures.{read_rvalue}
use Rattle.interpreter_tasks.specs.Actions as action
use Rattle.source_interp.specs.Outside.{outside}
use Rattle.source_interp.proofs.ActionLaws as law
use Rattle.source_interp.proofs.Evaluating.{one_operand, one_operand_stops}
use Rattle.source_interp.proofs.evaluation.Evaluation.read.Goals as goal

pub returns-in_err-value : goal.returns-in_err-value
returns-in_err-value g c w i =
    let p = err_from_is_err_and c.from_residual.result c.from_residual.ensures.1 in one_operand_stops (action.Read
    c.args.kind c.args.is_judged c.args.line) (λ t. read_rvalue c.args.kind c.args.is_judged t c.args.line) (law.reads
    c.args.kind c.args.is_judged c.args.line) c.args.self.now c.take-from.new.self (record c.take-from.new.self {
      machine = c.read_rvalue.new.self;
    }) (outside w (g.T.Trace.noted c.args.trace.now) i) (outside w (g.T.Trace.noted
    c.read_rvalue.new.trace) i) c.take-from.result c.read_rvalue.result c.take-from.ensures.first
    c.take-from.ensures.rest (λ e. c.read_rvalue.ensures e w i) c.in_err-value.field-0.0 c.from_residual.result
    c.in_err-value.was (p.1 ∙ ap Err p.2)

pub returns : goal.returns
returns g c w i =
    one_operand (action.Read c.args.kind c.args.is_judged c.args.line) (λ t. read_rvalue c.args.kind c.args.is_judged t
    c.args.line) (law.reads c.args.kind c.args.is_judged c.args.line) c.args.self.now c.take-from.new.self (record
    c.take-from.new.self { machine = c.read_rvalue.new.self }) (outside w (g.T.Trace.noted c.args.trace.now) i) (outside
    w (g.T.Trace.noted c.read_rvalue.new.trace) i) c.take-from.result c.read_rvalue.result c.take-from.ensures.first
    c.take-from.ensures.rest (λ e. c.read_rvalue.ensures e w i) c.leave.new.self c.in_ok-value.value c.leave.result
    c.in_ok-value.was refl c.leave.ensures.left c.leave.ensures.failed
