use Rattle.std.proofs.Common.{◌≡◌, ◌++◌, map, length}
use Rattle.std.specs.Vec.Iter.{into_iter_items, into_iter_len}
use Rattle.c_tree.specs.View.{part_of}
use Rattle.c_initializer_rules.specs.Placed.{parts_in, placed_of}
use Rattle.c_initializer_rules.proofs.parts.Parts.into_parts.Given as goal

abbrev pub invariant-loop-placed : goal.invariant-loop-placed
invariant-loop-placed l =
    (map part_of l.parts.items ++ parts_in (map placed_of (into_iter_items l.placed-iterator))
    ≡ parts_in (map placed_of (into_iter_items l.initial.placed-iterator)))
    × (into_iter_len l.placed-iterator ≡ length (into_iter_items l.placed-iterator))
