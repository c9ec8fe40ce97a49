use Rattle.source_meaning.proofs.SureBlocks.{enters, left_by}
use Rattle.source_meaning.proofs.laws.blocks_keep_states_good.Goals as goal

pub returns : goal.returns
returns c = record { enter = enters; leave = left_by }
