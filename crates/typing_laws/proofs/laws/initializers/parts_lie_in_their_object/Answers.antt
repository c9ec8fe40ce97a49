use Rattle.typing_laws.proofs.Initializers.Initialized.{initialized_if_is, placing_given}
use Rattle.typing_laws.proofs.laws.initializers.parts_lie_in_their_object.Goals as goal

pub returns : goal.returns
returns c = record { placed = placing_given; initialized = initialized_if_is }
