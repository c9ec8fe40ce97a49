use Rattle.std.proofs.Common.{◌≡◌, ◌++◌, map, drop}
use Rattle.c_tree.specs.View.{function_type_of}
use Rattle.program_lowering.specs.ProgramCode.Whole.{results_of}
use Rattle.program_lowering.proofs.programs.program.results.Given as goal

abbrev pub invariant-loop-function_type : goal.invariant-loop-function_type
invariant-loop-function_type l =
    l.results.items ++ results_of (map function_type_of (drop l.function_type-index l.types))
    ≡ results_of (map function_type_of l.fn.types)
