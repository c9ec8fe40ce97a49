use Rattle.source_interp.proofs.Evaluating.{drops}
use Rattle.source_interp.proofs.evaluation.Evaluation.drop_value.Goals as goal

pub returns : goal.returns
returns c o =
    drops c.args.self.now c.take.new.self o c.take.ensures.rest
