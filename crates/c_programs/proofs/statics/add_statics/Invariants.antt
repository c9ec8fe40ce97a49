use Rattle.std.proofs.Common.{◌≡◌, map, length}
use Rattle.std.specs.Vec.Iter.{into_iter_items, into_iter_len}
use Rattle.c_programs.specs.Slots.{all_placed}
use Rattle.c_programs.specs.Statics.{found_static}
use Rattle.c_programs.proofs.statics.add_statics.Given as goal

abbrev pub invariant-loop-item : goal.invariant-loop-item
invariant-loop-item l =
    (all_placed (map found_static (into_iter_items l.item-iterator)) l.objects.items
    ≡ all_placed (map found_static (into_iter_items l.initial.item-iterator)) l.fn.objects.items)
    × (into_iter_len l.item-iterator ≡ length (into_iter_items l.item-iterator))
