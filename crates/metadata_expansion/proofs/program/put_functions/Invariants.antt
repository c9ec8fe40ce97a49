use Rattle.std.proofs.Common.{◌≡◌, ◌++◌, drop}
use Rattle.metadata_plan.specs.Laid.{functions_of}
use Rattle.metadata_expansion.specs.Homes.{homes}
use Rattle.metadata_plan.specs.OperatorLists.Operators.{operators}
use Rattle.metadata_expansion.proofs.program.put_functions.Given as goal

abbrev pub invariant-loop-function : goal.invariant-loop-function
invariant-loop-function l =
    l.list.items ++ functions_of operators l.map l.program homes (drop l.function-index l.program.functions)
    ≡ l.initial.list.items ++ functions_of operators l.map l.program homes l.program.functions
