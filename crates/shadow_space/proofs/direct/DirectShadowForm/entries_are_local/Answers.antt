use Rattle.flat_code.proofs.Routines.Regions.{laid_out}
use Rattle.shadow_space.proofs.Entries.{direct_local}
use Rattle.shadow_space.proofs.direct.DirectShadowForm.entries_are_local.Goals as goal

pub returns : goal.returns
returns c = λ map m m' ok. direct_local map m m' (laid_out map ok)
