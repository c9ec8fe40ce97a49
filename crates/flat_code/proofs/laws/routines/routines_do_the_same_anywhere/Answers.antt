use Rattle.flat_code.proofs.Routines.Renamed.{arrives}
use Rattle.flat_code.proofs.laws.routines.routines_do_the_same_anywhere.Goals as goal

pub returns : goal.returns
returns c = arrives
