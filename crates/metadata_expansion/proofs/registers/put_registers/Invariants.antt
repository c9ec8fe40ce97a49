use Rattle.std.proofs.Common.{◌≡◌, ◌+◌, ◌++◌, drop}
use Rattle.metadata_plan.specs.Registers.{words_in}
use Rattle.metadata_expansion.specs.Tables.{registers_from}
use Rattle.metadata_expansion.proofs.registers.put_registers.Given as goal

abbrev pub invariant-loop-variable : goal.invariant-loop-variable
invariant-loop-variable l =
    (l.register + words_in (drop l.variable-index l.variables) ≡ l.first + words_in l.variables)
    × (l.entries.items ++ registers_from l.register (drop l.variable-index l.variables)
    ≡ l.initial.entries.items ++ registers_from l.first l.variables)
