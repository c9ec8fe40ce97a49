use Rattle.typing_laws.proofs.Initializers.Valid.{initialized_valid}
use Rattle.typing_laws.proofs.laws.initializers.initializers_store_what_is_valid.Goals as goal

pub returns : goal.returns
returns c = initialized_valid
