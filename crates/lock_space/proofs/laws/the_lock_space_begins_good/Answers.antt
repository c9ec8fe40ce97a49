use Rattle.lock_space.proofs.Spaces.{locks_laid_out}
use Rattle.lock_space.proofs.Local.{good_begins, counter_begins}
use Rattle.lock_space.proofs.laws.the_lock_space_begins_good.Goals as goal

pub returns-clause-good : goal.returns-clause-good
returns-clause-good c = λ s m mapped start. good_begins s m (locks_laid_out s mapped) start

pub returns-clause-counter : goal.returns-clause-counter
returns-clause-counter c = λ s m mapped start. counter_begins s m (locks_laid_out s mapped) start
