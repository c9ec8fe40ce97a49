use Rattle.lib_wrappers.proofs.AllocatingRoutines.OuterBlocks.{still_of_lock}
use Rattle.lib_wrappers.proofs.allocating.laws.the_lock_word_of_a_block_stays_its_own.Goals as goal

pub returns : goal.returns
returns c = λ g k k' x x' homes lock m m' st st' new some home live of.
    still_of_lock g k k' x x' homes lock m m' st st' new some home live of
