use Rattle.source_meaning.proofs.LimitLaw.{is_source}
use Rattle.source_meaning.proofs.laws.running_has_begun_all_turns.Goals as goal

pub returns : goal.returns
returns c = is_source
