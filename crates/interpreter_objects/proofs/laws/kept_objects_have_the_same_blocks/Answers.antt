use Rattle.interpreter_objects.proofs.Keeping.{same_count, same_least}
use Rattle.interpreter_objects.proofs.laws.kept_objects_have_the_same_blocks.Goals as goal

pub returns-clause-count : goal.returns-clause-count
returns-clause-count c = same_count

pub returns-clause-place : goal.returns-clause-place
returns-clause-place c = same_least
