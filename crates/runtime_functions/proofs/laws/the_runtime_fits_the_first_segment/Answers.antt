use Rattle.runtime_functions.proofs.Sizes.{runtime_fits}
use Rattle.runtime_functions.proofs.laws.the_runtime_fits_the_first_segment.Goals as goal

pub returns : goal.returns
returns g c = λ m. runtime_fits m g.S.ShadowForm.entry (g.S.ShadowForm.IsGood m)
