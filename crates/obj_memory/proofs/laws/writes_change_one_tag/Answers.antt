use Rattle.obj_memory.proofs.Reading.{tag_after_pointer, tags_after_pointer, tags_after_misaligned, tags_after_integer}
use Rattle.obj_memory.proofs.laws.writes_change_one_tag.Goals as goal

pub returns : goal.returns
returns c = record {
  pointer = λ functions. tag_after_pointer {functions = functions};
  other = tags_after_pointer;
  misaligned = tags_after_misaligned;
  integer = tags_after_integer;
}
