use Rattle.flat_code.proofs.Routines.Straight.{run_straight}
use Rattle.flat_code.proofs.laws.routines.straight_code_has_its_effects.Goals as goal

pub returns : goal.returns
returns c = run_straight
