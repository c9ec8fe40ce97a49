use Rattle.std.proofs.Common.{refl}
use Rattle.interpreter_tasks.specs.Actions as action
use Rattle.source_interp.specs.Outside.{outside}
use Rattle.source_interp.specs.Storing.{store_literal}
use Rattle.source_interp.proofs.ActionLaws as law
use Rattle.source_interp.proofs.Evaluating.{values_stay}
use Rattle.source_interp.proofs.evaluation.Evaluation.store_literal.Goals as goal

pub returns : goal.returns
returns g c w i =
    values_stay (action.StoreLiteral c.args.offset c.args.bytes.now) (store_literal c.last-object.result c.args.offset
    c.args.bytes.now) c.args.self.now (record c.args.self.now { machine = c.store_literal.new.self }) (outside w
    (g.T.Trace.noted c.args.trace.now) i) (outside w (g.T.Trace.noted c.store_literal.new.trace) i)
    (law.stores_literal c.args.self.now.values c.last-object.result c.args.offset c.args.bytes.now
    c.last-object.ensures) refl c.store_literal.result (λ e. c.store_literal.ensures e w i)
