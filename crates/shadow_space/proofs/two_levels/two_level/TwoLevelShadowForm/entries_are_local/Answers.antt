use Rattle.shadow_space.proofs.TwoLevel.Levels.{levels_laid_out, levels_local}
use Rattle.shadow_space.proofs.two_levels.two_level.TwoLevelShadowForm.entries_are_local.Goals as goal

pub returns : goal.returns
returns c = λ map m m' mapped keep g. levels_local map m m' (levels_laid_out map mapped) keep g
