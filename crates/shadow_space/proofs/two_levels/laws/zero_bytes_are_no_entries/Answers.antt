use Rattle.shadow_space.proofs.TwoLevel.Levels.{levels_laid_out}
use Rattle.shadow_space.proofs.TwoLevel.Zeros.{zeros_good, zeros_none}
use Rattle.shadow_space.proofs.two_levels.laws.zero_bytes_are_no_entries.Goals as goal

pub returns-clause-good : goal.returns-clause-good
returns-clause-good c = λ s m mapped zeros. zeros_good s m (levels_laid_out s mapped) zeros

pub returns-clause-none : goal.returns-clause-none
returns-clause-none c = λ s m mapped zeros. zeros_none s m (levels_laid_out s mapped) zeros
