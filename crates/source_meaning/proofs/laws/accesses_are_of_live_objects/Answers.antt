use Rattle.source_meaning.proofs.LiveAccesses.{judged_live, named_live}
use Rattle.source_meaning.proofs.laws.accesses_are_of_live_objects.Goals as goal

pub returns : goal.returns
returns c = record { judged = judged_live; named = named_live }
