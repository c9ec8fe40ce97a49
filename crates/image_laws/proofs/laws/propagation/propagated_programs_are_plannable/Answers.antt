use Rattle.sb_base.specs.Budgets.{default_sizes}
use Rattle.image_laws.proofs.Propagation.Plannable.{plannable}
use Rattle.image_laws.proofs.laws.propagation.propagated_programs_are_plannable.Goals as goal

-- whatever the sizes of the map
pub returns : goal.returns
returns _ = plannable (record { budgets = default_sizes; global_bytes = 0 })
