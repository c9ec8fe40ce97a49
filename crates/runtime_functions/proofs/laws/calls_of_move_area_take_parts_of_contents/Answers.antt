use Rattle.runtime_functions.proofs.AreaCalls.{move_served}
use Rattle.runtime_functions.proofs.laws.calls_of_move_area_take_parts_of_contents.Goals as goal

pub returns : goal.returns
returns g c = λ m p s fn of calls functions types k x c v size line a ready q.
    move_served m g.S.ShadowForm.entry (g.S.ShadowForm.IsGood m) p s fn of.routine of.code.1 functions types k x
    (record { calls = calls; is = of.is }) of.code.0 c v size line a ready q
