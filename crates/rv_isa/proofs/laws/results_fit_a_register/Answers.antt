use Rattle.rv_isa.proofs.Words.{reg_fits, reg32_fits, load_fits}
use Rattle.rv_isa.proofs.laws.results_fit_a_register.Goals as goal

pub returns : goal.returns
returns c = record { operators = reg_fits; low = reg32_fits; loads = load_fits }
