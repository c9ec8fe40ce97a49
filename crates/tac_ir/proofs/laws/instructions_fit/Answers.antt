use Rattle.tac_ir.proofs.Fits.{act_fits}
use Rattle.tac_ir.proofs.laws.instructions_fit.Goals as goal

pub returns : goal.returns
returns c = act_fits
