use Rattle.c_lower.proofs.Homes.{fits}
use Rattle.c_lower.proofs.laws.temporaries_fit_the_height.Goals as goal

pub returns : goal.returns
returns c = fits
