use Rattle.check_insert.proofs.Areas.{areas_still_fit}
use Rattle.check_insert.proofs.laws.checks_need_no_area.Goals as goal

pub returns : goal.returns
returns c = areas_still_fit
