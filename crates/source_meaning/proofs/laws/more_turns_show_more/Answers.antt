use Rattle.source_meaning.proofs.TurnLaws.{more_turns}
use Rattle.source_meaning.proofs.laws.more_turns_show_more.Goals as goal

pub returns : goal.returns
returns c = more_turns
