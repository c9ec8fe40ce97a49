use Rattle.std.proofs.Common.{refl}
use Rattle.source_meaning.specs.Initializers.{zero_variable}
use Rattle.interpreter_tasks.specs.Actions as action
use Rattle.source_interp.proofs.ActionLaws as law
use Rattle.source_interp.proofs.Evaluating.{values_stay}
use Rattle.source_interp.proofs.evaluation.Evaluation.zero.Goals as goal

pub returns : goal.returns
returns c o =
    values_stay (action.Zero c.args.variable) (zero_variable c.args.variable) c.args.self.now (record c.args.self.now
    { machine = c.zero_variable.new.self }) o o (λ e r is. law.zeroes c.args.variable e r) refl c.zero_variable.result
    (λ g. c.zero_variable.ensures g o)
