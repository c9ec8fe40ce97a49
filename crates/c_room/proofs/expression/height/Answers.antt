use Rattle.std.proofs.Common.{◌∙◌, ap}
use Rattle.c_tree.specs.View.{expression_of}
use Rattle.c_room.proofs.Walked.{is_demand}
use Rattle.c_room.proofs.expression.height.Goals as goal

pub returns : goal.returns
returns c = ap (λ d. d.height) c.demand.ensures ∙ (is_demand (expression_of c.args.e.now)).height
