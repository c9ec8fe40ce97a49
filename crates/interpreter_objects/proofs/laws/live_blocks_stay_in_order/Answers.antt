use Rattle.interpreter_objects.proofs.Gaps.{order_filled, order_without}
use Rattle.interpreter_objects.proofs.laws.live_blocks_stay_in_order.Goals as goal

pub returns-clause-placed : goal.returns-clause-placed
returns-clause-placed c = order_filled

pub returns-clause-removed : goal.returns-clause-removed
returns-clause-removed c = order_without
