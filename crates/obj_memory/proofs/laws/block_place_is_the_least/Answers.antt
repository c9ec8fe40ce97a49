use Rattle.obj_memory.proofs.Placing.{least_place_found, least_place_by, has_room_tells, has_room_by, least_place_none}
use Rattle.obj_memory.proofs.laws.block_place_is_the_least.Goals as goal

pub returns : goal.returns
returns c = record {
  found = least_place_found;
  least = least_place_by;
  room = has_room_tells;
  has_room = has_room_by;
  none = least_place_none;
}
