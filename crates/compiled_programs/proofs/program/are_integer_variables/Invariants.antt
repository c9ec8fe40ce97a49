use Rattle.std.proofs.Common.{◌≡◌, map, drop}
use Rattle.std.specs.List.{list_all}
use Rattle.compiled_programs.specs.Programs.{is_integer_variable}
use Rattle.compiled_programs.proofs.program.are_integer_variables.Given as goal

abbrev pub invariant-loop-variable : goal.invariant-loop-variable
invariant-loop-variable l =
    list_all is_integer_variable (drop l.variable-index l.variables) ≡ list_all is_integer_variable l.fn.variables
