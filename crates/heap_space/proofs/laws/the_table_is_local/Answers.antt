use Rattle.heap_space.proofs.Regions.{table_laid_out}
use Rattle.heap_space.proofs.Local.{rows_kept, good_kept}
use Rattle.heap_space.proofs.laws.the_table_is_local.Goals as goal

pub returns-clause-rows : goal.returns-clause-rows
returns-clause-rows c = λ s m m' mapped keep g. rows_kept s m m' (table_laid_out s mapped) keep g

pub returns-clause-good : goal.returns-clause-good
returns-clause-good c = λ s m m' mapped keep g. good_kept s m m' (table_laid_out s mapped) keep g
