use Rattle.lib_wrappers.proofs.AllocatingRoutines.ZeroedObjects.{zeroed_stands}
use Rattle.lib_wrappers.proofs.allocating.laws.a_zeroed_object_is_zero.Goals as goal

pub returns : goal.returns
returns c = λ map functions types entry k objects n m m' mapped st table live zeroed.
    zeroed_stands map mapped functions types entry k objects n m m' st table live zeroed
