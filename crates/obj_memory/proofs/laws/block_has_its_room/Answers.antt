use Rattle.obj_memory.proofs.Placing.{room_holds, room_most, room_whole}
use Rattle.obj_memory.proofs.laws.block_has_its_room.Goals as goal

pub returns : goal.returns
returns c = record { holds = room_holds; some = room_most; whole = room_whole }
