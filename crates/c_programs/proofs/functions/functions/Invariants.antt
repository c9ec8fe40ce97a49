use Rattle.std.proofs.Common.{◌≡◌, ◌+◌, [], map, length}
use Rattle.std.specs.Vec.Iter.{into_iter_items, into_iter_len}
use Rattle.c_tree.specs.View.{function_of, static_of}
use Rattle.c_programs.specs.FileState.{definition_of}
use Rattle.c_programs.specs.Rooms.{made}
use Rattle.c_programs.proofs.functions.functions.Given as goal

abbrev pub invariant-loop-definition : goal.invariant-loop-definition
invariant-loop-definition l =
    (made l.extents l.types (map static_of l.statics) l.number (map function_of l.functions.items)
    (map definition_of (into_iter_items l.definition-iterator))
    ≡ made l.extents l.types (map static_of l.statics) 0 []
    (map definition_of (into_iter_items l.initial.definition-iterator)))
    × (length l.heights.items ≡ l.number + length (into_iter_items l.definition-iterator))
    × (into_iter_len l.definition-iterator ≡ length (into_iter_items l.definition-iterator))
