use Rattle.lock_space.proofs.Spaces.{locks_laid_out}
use Rattle.lock_space.proofs.Local.{good_kept, lock_kept, counter_kept}
use Rattle.flat_code.proofs.Routines.Objects.Changing.{global_is_lock}
use Rattle.lock_space.proofs.laws.locks_are_local.Goals as goal

pub returns-clause-good : goal.returns-clause-good
returns-clause-good c = λ s m m' mapped keep g. good_kept s m m' (locks_laid_out s mapped) keep
    (global_is_lock s mapped) g

pub returns-clause-words : goal.returns-clause-words
returns-clause-words c = λ s m m' mapped keep a l. lock_kept s m m' (locks_laid_out s mapped) keep a l

pub returns-clause-counter : goal.returns-clause-counter
returns-clause-counter c = λ s m m' mapped keep. counter_kept s m m' (locks_laid_out s mapped) keep
