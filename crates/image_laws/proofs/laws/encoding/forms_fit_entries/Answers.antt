use Rattle.image_laws.proofs.Encoding.Forms.{direct_fits, two_level_fits}
use Rattle.image_laws.proofs.laws.encoding.forms_fit_entries.Goals as goal

pub returns-clause-direct : goal.returns-clause-direct
returns-clause-direct _ = direct_fits

pub returns-clause-two_levels : goal.returns-clause-two_levels
returns-clause-two_levels _ = two_level_fits
