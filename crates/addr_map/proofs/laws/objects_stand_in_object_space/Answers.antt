use Rattle.addr_map.proofs.Order.{objects_inside, others_before, others_behind, code_fixed}
use Rattle.addr_map.proofs.laws.objects_stand_in_object_space.Goals as goal

pub returns : goal.returns
returns c = record { objects = objects_inside; before = others_before; behind = others_behind; code = code_fixed }
