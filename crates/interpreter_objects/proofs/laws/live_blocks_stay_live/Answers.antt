use Rattle.interpreter_objects.proofs.Gaps.{filled_live, not_filled}
use Rattle.interpreter_objects.proofs.Weights.{dead_live, dead_other, kept_live, made_other, none_live}
use Rattle.interpreter_objects.proofs.laws.live_blocks_stay_live.Goals as goal

pub returns-clause-none : goal.returns-clause-none
returns-clause-none c = none_live

pub returns-clause-made : goal.returns-clause-made
returns-clause-made c = filled_live

pub returns-clause-not_made : goal.returns-clause-not_made
returns-clause-not_made c = not_filled

pub returns-clause-other : goal.returns-clause-other
returns-clause-other c = made_other

pub returns-clause-dead : goal.returns-clause-dead
returns-clause-dead c = dead_live

pub returns-clause-dead_other : goal.returns-clause-dead_other
returns-clause-dead_other c = dead_other

pub returns-clause-changed : goal.returns-clause-changed
returns-clause-changed c = kept_live
