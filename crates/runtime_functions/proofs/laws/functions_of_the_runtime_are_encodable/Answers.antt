use Rattle.runtime_functions.proofs.Sizes.{encodable_function}
use Rattle.runtime_functions.proofs.laws.functions_of_the_runtime_are_encodable.Goals as goal

pub returns : goal.returns
returns g c = λ m. encodable_function m g.S.ShadowForm.entry (g.S.ShadowForm.IsGood m)
