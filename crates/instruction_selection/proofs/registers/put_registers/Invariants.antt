use Rattle.std.proofs.Common.{◌≡◌, ◌+◌, ◌++◌, drop}
use Rattle.metadata_relation.specs.Registers.{total}
use Rattle.instruction_selection.specs.Words.{words_by, registers_from}
use Rattle.instruction_selection.proofs.registers.put_registers.Given as goal

abbrev pub invariant-loop-variable : goal.invariant-loop-variable
invariant-loop-variable l =
    (l.register + total (words_by l.words) (drop l.variable-index l.variables)
    ≡ l.first + total (words_by l.words) l.variables)
    × (l.list.items ++ registers_from (words_by l.words) l.register (drop l.variable-index l.variables)
    ≡ l.initial.list.items ++ registers_from (words_by l.words) l.first l.variables)
