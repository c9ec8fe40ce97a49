use Rattle.std.proofs.Common.{◌+◌, ◌*◌, ◌∙◌, ap}
use Rattle.machine_laws.specs.Calls.Table.{start_address}
use Rattle.image_laws.specs.Images.Images.{sizes_of}
use Rattle.image_laws.proofs.Images.Starts.{start_behind, as_many}
use Rattle.image_laws.proofs.laws.images.starts_stand_behind_the_text_functions.Goals as goal

pub returns : goal.returns
returns c = λ p budgets code flat.
    ap start_address flat.is_flat
    ∙ ap (λ n. 65536 + 16 * n)
    (start_behind (sizes_of p budgets) flat.checked ∙ as_many p flat.checked flat.is_checked)
