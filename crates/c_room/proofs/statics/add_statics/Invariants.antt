use Rattle.std.proofs.Common.{◌≡◌, map, drop}
use Rattle.c_tree.specs.View.{static_of}
use Rattle.c_room.specs.Rooms.{with_statics}
use Rattle.c_room.proofs.statics.add_statics.Given as goal

abbrev pub invariant-loop-object : goal.invariant-loop-object
invariant-loop-object l =
    with_statics l.heights.items (map static_of (drop l.object-index l.statics))
    ≡ with_statics l.fn.heights.items (map static_of l.fn.statics)
