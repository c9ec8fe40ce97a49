use Rattle.std.proofs.Common.{◌≡◌, map, drop}
use Rattle.std.specs.List.{list_all}
use Rattle.c_tree.specs.View.{function_type_of}
use Rattle.compiled_programs.specs.Programs.{gives_no_pointer}
use Rattle.compiled_programs.proofs.program.give_no_pointers.Given as goal

abbrev pub invariant-loop-function_type : goal.invariant-loop-function_type
invariant-loop-function_type l =
    list_all gives_no_pointer (map function_type_of (drop l.function_type-index l.types))
    ≡ list_all gives_no_pointer (map function_type_of l.fn.types)
