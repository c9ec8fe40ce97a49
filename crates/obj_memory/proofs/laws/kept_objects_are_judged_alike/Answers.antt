use Rattle.obj_memory.proofs.Keeping.{judge_kept, named_kept, block_count_kept, least_place_kept}
use Rattle.obj_memory.proofs.Making.{disjoint_kept}
use Rattle.obj_memory.proofs.laws.kept_objects_are_judged_alike.Goals as goal

pub returns : goal.returns
returns c = record {
  judge = judge_kept;
  named = named_kept;
  count = block_count_kept;
  place = least_place_kept;
  disjoint = disjoint_kept;
}
