use Rattle.std.proofs.Common.{◌≡◌, map, drop}
use Rattle.std.specs.List.{list_all}
use Rattle.c_tree.specs.View.{function_of}
use Rattle.compiled_programs.specs.Programs.{is_integer_function}
use Rattle.compiled_programs.proofs.program.are_integer_functions.Given as goal

abbrev pub invariant-loop-function : goal.invariant-loop-function
invariant-loop-function l =
    list_all is_integer_function (map function_of (drop l.function-index l.functions))
    ≡ list_all is_integer_function (map function_of l.fn.functions)
