use Rattle.runtime_functions.proofs.ZeroCalls.{zero_served}
use Rattle.runtime_functions.proofs.laws.calls_of_zero_set_objects_to_zero.Goals as goal

pub returns : goal.returns
returns g c = λ m mapped p s fn of calls n functions types k x vs line ready premise.
    zero_served m mapped g.S.ShadowForm.entry (g.S.ShadowForm.IsGood m) p s fn of calls n functions types k x vs line
    ready premise
