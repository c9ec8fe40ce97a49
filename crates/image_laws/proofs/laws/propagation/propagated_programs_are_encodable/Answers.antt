use Rattle.sb_base.specs.Budgets.{default_sizes}
use Rattle.image_laws.proofs.Propagation.Encodable.{propagated_encodable}
use Rattle.image_laws.proofs.laws.propagation.propagated_programs_are_encodable.Goals as goal

-- whatever the sizes of the map
pub returns : goal.returns
returns _ = propagated_encodable (record { budgets = default_sizes; global_bytes = 0 })
