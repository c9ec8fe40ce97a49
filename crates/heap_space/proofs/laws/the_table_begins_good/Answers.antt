use Rattle.heap_space.proofs.Regions.{table_laid_out}
use Rattle.heap_space.proofs.Local.{good_begins, no_rows}
use Rattle.heap_space.proofs.laws.the_table_begins_good.Goals as goal

pub returns-clause-good : goal.returns-clause-good
returns-clause-good c = λ s m mapped e. good_begins s m (table_laid_out s mapped) e

pub returns-clause-rows : goal.returns-clause-rows
returns-clause-rows c = no_rows
