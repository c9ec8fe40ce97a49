use Rattle.runtime_functions.proofs.AreaCalls.{zero_served}
use Rattle.runtime_functions.proofs.laws.calls_of_zero_area_make_structures_of_zeros.Goals as goal

pub returns : goal.returns
returns g c = λ m p s fn of calls functions types k x size ready q.
    zero_served m g.S.ShadowForm.entry (g.S.ShadowForm.IsGood m) p s fn of.routine of.code.1 functions types k x
    (record { calls = calls; is = of.is }) of.code.0 size ready q
