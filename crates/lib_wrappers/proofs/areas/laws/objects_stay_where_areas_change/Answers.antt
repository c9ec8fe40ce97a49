use Rattle.lib_wrappers.proofs.AreaRoutines.Behind.{for_behind}
use Rattle.lib_wrappers.proofs.areas.laws.objects_stay_where_areas_change.Goals as goal

pub returns : goal.returns
returns g c map mapped functions types =
    for_behind map mapped functions types g.S.ShadowForm.entry (g.S.ShadowForm.IsGood map)
    (λ m m' keep good. c.entries_are_local.ensures map m m' mapped keep good)
