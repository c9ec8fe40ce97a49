use Rattle.typing_laws.proofs.Declarations.Formed.{known_behind}
use Rattle.typing_laws.proofs.laws.declarations.bound_names_keep_what_is_known.Goals as goal

pub returns : goal.returns
returns c = known_behind
