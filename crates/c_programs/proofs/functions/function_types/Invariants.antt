use Rattle.std.proofs.Common.{◌≡◌, ◌++◌, map, length}
use Rattle.std.specs.Vec.Iter.{into_iter_items, into_iter_len}
use Rattle.c_tree.specs.View.{function_type_of}
use Rattle.c_unit_typing.specs.Programs.{function_type}
use Rattle.c_programs.proofs.functions.function_types.Given as goal

abbrev pub invariant-loop-c_type : goal.invariant-loop-c_type
invariant-loop-c_type l =
    (map function_type_of l.made.items ++ map (function_type l.extents) (into_iter_items l.c_type-iterator)
    ≡ map (function_type l.extents) (into_iter_items l.initial.c_type-iterator))
    × (into_iter_len l.c_type-iterator ≡ length (into_iter_items l.c_type-iterator))
