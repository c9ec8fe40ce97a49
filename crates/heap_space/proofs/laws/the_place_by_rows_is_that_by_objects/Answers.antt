use Rattle.heap_space.proofs.Counting.{rows_counted}
use Rattle.heap_space.proofs.Objects.{place_by_rows}
use Rattle.heap_space.proofs.laws.the_place_by_rows_is_that_by_objects.Goals as goal

pub returns-clause-count : goal.returns-clause-count
returns-clause-count c = rows_counted

pub returns-clause-place : goal.returns-clause-place
returns-clause-place c = place_by_rows
