use Rattle.std.proofs.Common.{◌≡◌, map, length}
use Rattle.std.specs.Vec.Iter.{into_iter_items, into_iter_len}
use Rattle.c_programs.specs.Slots.{all_placed}
use Rattle.c_programs.specs.Statics.{found_literal}
use Rattle.c_programs.proofs.statics.add_literals.Given as goal

abbrev pub invariant-loop-literal : goal.invariant-loop-literal
invariant-loop-literal l =
    (all_placed (map found_literal (into_iter_items l.literal-iterator)) l.objects.items
    ≡ all_placed (map found_literal (into_iter_items l.initial.literal-iterator)) l.fn.objects.items)
    × (into_iter_len l.literal-iterator ≡ length (into_iter_items l.literal-iterator))
