use Rattle.std.proofs.Common.{◌≡◌, map, length}
use Rattle.std.specs.Vec.Iter.{into_iter_items, into_iter_len}
use Rattle.c_programs.specs.Slots.{all_placed}
use Rattle.c_programs.specs.Statics.{found_initializer}
use Rattle.c_programs.proofs.statics.add_initializers.Given as goal

abbrev pub invariant-loop-initializer : goal.invariant-loop-initializer
invariant-loop-initializer l =
    (all_placed (map found_initializer (into_iter_items l.initializer-iterator)) l.slots.items
    ≡ all_placed (map found_initializer (into_iter_items l.initial.initializer-iterator)) l.fn.slots.items)
    × (into_iter_len l.initializer-iterator ≡ length (into_iter_items l.initializer-iterator))
