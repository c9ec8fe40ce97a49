use Rattle.typing_laws.proofs.Declarators.Known.{type_names}
use Rattle.typing_laws.proofs.laws.declarators.type_names_keep_what_is_known.Goals as goal

pub returns : goal.returns
returns c = type_names
