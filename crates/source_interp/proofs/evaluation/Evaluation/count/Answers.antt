use Rattle.std.proofs.Common.{refl, Ok}
use Rattle.source_meaning.specs.State.{tally}
use Rattle.interpreter_tasks.specs.Actions as action
use Rattle.source_interp.proofs.ActionLaws as law
use Rattle.source_interp.proofs.Evaluating.{values_stay}
use Rattle.source_interp.proofs.evaluation.Evaluation.count.Goals as goal

pub returns : goal.returns
returns c o =
    values_stay (action.Count c.args.work) (tally c.args.work) c.args.self.now
    (record c.args.self.now { machine = c.tally.new.self }) o o (λ e r is. law.counts c.args.work e r) refl (Ok tt) (λ
    g. c.tally.ensures g o)
