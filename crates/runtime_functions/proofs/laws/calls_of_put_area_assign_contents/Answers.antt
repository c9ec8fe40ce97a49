use Rattle.runtime_functions.proofs.AreaCalls.{place_served}
use Rattle.runtime_functions.proofs.laws.calls_of_put_area_assign_contents.Goals as goal

pub returns : goal.returns
returns g c = λ m p s fn of calls functions types k x c size is_judged to line v a ready q.
    place_served m g.S.ShadowForm.entry (g.S.ShadowForm.IsGood m) p s fn of.routine of.code.1 functions types k x c size
    is_judged to line v a (record { calls = calls; is = of.is }) of.code.0 ready q
