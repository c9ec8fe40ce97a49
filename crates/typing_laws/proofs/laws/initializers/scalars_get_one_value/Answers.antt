use Rattle.typing_laws.proofs.Initializers.Initialized.{scalar_initialized, value_alone}
use Rattle.typing_laws.proofs.laws.initializers.scalars_get_one_value.Goals as goal

pub returns : goal.returns
returns c = record { scalar = scalar_initialized; plain = value_alone }
