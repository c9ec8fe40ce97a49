use Rattle.flat_code.proofs.Routines.Lifted.{lifted}
use Rattle.flat_code.proofs.laws.routines.programs_run_their_functions.Goals as goal

pub returns : goal.returns
returns c = lifted
