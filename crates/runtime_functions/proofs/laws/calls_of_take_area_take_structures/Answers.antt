use Rattle.runtime_functions.proofs.AreaCalls.{take_served}
use Rattle.runtime_functions.proofs.laws.calls_of_take_area_take_structures.Goals as goal

pub returns : goal.returns
returns g c = λ m p s fn of calls functions types k x v size line ready q.
    take_served m g.S.ShadowForm.entry (g.S.ShadowForm.IsGood m) p s fn of.routine of.code.1 functions types k x
    (record { calls = calls; is = of.is }) of.code.0 v size line ready q
