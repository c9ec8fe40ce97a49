use Rattle.std.proofs.Common.{sym, subst}
use Rattle.machine_laws.specs.Following.Code.{IsEncodable}
use Rattle.metadata_plan.specs.Laid.{program_of}
use Rattle.metadata_plan.specs.OperatorLists.Operators.{operators}
use Rattle.metadata_expansion.specs.Homes.{homes}
use Rattle.image_laws.specs.Images.Images.{sizes_of}
use Rattle.image_laws.proofs.Images.Programs.{encodable}
use Rattle.image_laws.proofs.Propagation.Encodable.{propagated_encodable}
use Rattle.image_laws.proofs.laws.images.flat_code_is_encodable.Goals as goal

pub returns : goal.returns
returns c = λ p budgets valid ints few mapped code flat.
    let m = sizes_of p budgets in
    subst IsEncodable (sym flat.is_flat)
    (propagated_encodable m (program_of operators m flat.checked homes)
    (encodable p m flat.checked mapped valid ints few flat.is_checked flat.small))
