use Rattle.c_lexer.proofs.Soundness.{constant_fits}
use Rattle.c_lexer.proofs.laws.constants_fit.Goals as goal

pub returns : goal.returns
returns c = constant_fits
