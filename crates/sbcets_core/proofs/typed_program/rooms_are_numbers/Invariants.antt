use Rattle.std.proofs.Common.{◌≡◌, map, drop}
use Rattle.c_tree.specs.View.{function_of}
use Rattle.c_programs.specs.Rooms.{first_without_room}
use Rattle.sbcets_core.proofs.typed_program.rooms_are_numbers.Given as goal

abbrev pub invariant-loop-function : goal.invariant-loop-function
invariant-loop-function l =
    first_without_room l.function-index (map function_of (drop l.function-index l.functions))
    ≡ first_without_room 0 (map function_of l.fn.functions)
