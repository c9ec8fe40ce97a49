use Rattle.obj_memory.proofs.Placing.{block_count_made, block_count_other, block_count_dead, block_count_dead_other}
use Rattle.obj_memory.proofs.laws.blocks_are_counted.Goals as goal

pub returns : goal.returns
returns c = record {
  made = block_count_made;
  other = block_count_other;
  dead = block_count_dead;
  dead_other = block_count_dead_other;
}
