use Rattle.std.proofs.Common.{◌≡◌, ◌+◌, ◌++◌, drop}
use Rattle.metadata_plan.specs.Registers.{words_in}
use Rattle.metadata_plan.specs.Blocks.{zero_variables}
use Rattle.metadata_expansion.proofs.prologue.put_zero_variables.Given as goal

abbrev pub invariant-loop-variable : goal.invariant-loop-variable
invariant-loop-variable l =
    (l.register + words_in (drop l.variable-index l.variables) ≡ l.first + words_in l.variables)
    × (l.code.items ++ zero_variables l.register (drop l.variable-index l.variables)
    ≡ l.initial.code.items ++ zero_variables l.first l.variables)
