use Rattle.flat_code.proofs.Words.{step_fits}
use Rattle.flat_code.proofs.laws.steps_keep_words.Goals as goal

pub returns : goal.returns
returns c = step_fits
