use Rattle.std.proofs.Common.{sym, subst}
use Rattle.machine_laws.specs.Following.Start.{IsStartable}
use Rattle.metadata_plan.specs.Laid.{program_of}
use Rattle.metadata_plan.specs.OperatorLists.Operators.{operators}
use Rattle.metadata_expansion.specs.Homes.{homes}
use Rattle.image_laws.specs.Images.Images.{sizes_of}
use Rattle.image_laws.proofs.Images.Programs.{startable}
use Rattle.image_laws.proofs.Propagation.Encodable.{propagated_startable}
use Rattle.image_laws.proofs.laws.images.flat_code_is_startable.Goals as goal

pub returns : goal.returns
returns c = λ p budgets code flat.
    let m = sizes_of p budgets in
    subst (IsStartable m) (sym flat.is_flat)
    (propagated_startable m (program_of operators m flat.checked homes) (startable m flat.checked))
