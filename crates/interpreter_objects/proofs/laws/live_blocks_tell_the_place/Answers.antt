use Rattle.interpreter_objects.proofs.Gaps.{gap_is_place}
use Rattle.interpreter_objects.proofs.Weights.{blocks_counted}
use Rattle.interpreter_objects.proofs.laws.live_blocks_tell_the_place.Goals as goal

pub returns-clause-place : goal.returns-clause-place
returns-clause-place c = gap_is_place

pub returns-clause-count : goal.returns-clause-count
returns-clause-count c = blocks_counted
