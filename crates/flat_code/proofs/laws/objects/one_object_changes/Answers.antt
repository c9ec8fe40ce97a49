use Rattle.flat_code.proofs.Routines.Regions.{laid_out}
use Rattle.flat_code.proofs.Routines.Objects.Changing.{changed}
use Rattle.flat_code.proofs.laws.objects.one_object_changes.Goals as goal

pub returns : goal.returns
returns c = λ g k n old new m m' h st live keeps sound same. changed g k h (laid_out g.sizes h) n old new m m' st
    live keeps sound same
