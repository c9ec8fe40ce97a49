use Rattle.std.proofs.Common.{◌≡◌, ◌++◌, map, drop}
use Rattle.c_tree.specs.View.{function_of, static_of}
use Rattle.c_room.specs.Rooms.{rooms}
use Rattle.c_room.proofs.function.rooms.Given as goal

abbrev pub invariant-loop-i : goal.invariant-loop-i
invariant-loop-i l =
    l.all.items ++ rooms (map static_of l.statics) l.i (map function_of (drop l.i l.functions)) (drop l.i l.results)
    ≡ rooms (map static_of l.fn.statics) 0 (map function_of l.fn.functions) l.fn.results
