use Rattle.typing_laws.proofs.Declarators.Known.{keeps_behind}
use Rattle.typing_laws.proofs.laws.declarators.extended_states_keep_what_is_known.Goals as goal

pub returns : goal.returns
returns c = keeps_behind
