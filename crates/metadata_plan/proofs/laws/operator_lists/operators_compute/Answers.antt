use Rattle.metadata_plan.proofs.OperatorLists.Computing.{computing}
use Rattle.metadata_plan.proofs.laws.operator_lists.operators_compute.Goals as goal

pub returns : goal.returns
returns _ = computing
