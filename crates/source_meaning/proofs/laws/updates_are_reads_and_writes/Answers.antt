use Rattle.source_meaning.proofs.Updating.{update_is_in_parts}
use Rattle.source_meaning.proofs.laws.updates_are_reads_and_writes.Goals as goal

pub returns : goal.returns
returns _ = λ u k p line right at f s d. update_is_in_parts k p line f s d u right at
