use Rattle.obj_memory.proofs.Typed.{binary_stays, shift_stays}
use Rattle.obj_memory.proofs.laws.operators_stay_in_their_type.Goals as goal

pub returns : goal.returns
returns c = record { value = binary_stays; shift = shift_stays }
