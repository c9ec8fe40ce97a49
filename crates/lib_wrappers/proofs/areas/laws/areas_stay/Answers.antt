use Rattle.lib_wrappers.proofs.AreaRoutines.Areas.{area_stays}
use Rattle.lib_wrappers.proofs.areas.laws.areas_stay.Goals as goal

pub returns : goal.returns
returns c = area_stays
