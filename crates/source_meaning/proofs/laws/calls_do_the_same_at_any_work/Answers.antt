use Rattle.source_meaning.proofs.RunsAlike.{alike_calls}
use Rattle.source_meaning.proofs.laws.calls_do_the_same_at_any_work.Goals as goal

pub returns : goal.returns
returns c = alike_calls
