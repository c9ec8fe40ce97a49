use Rattle.std.proofs.Common.{◌≡◌, ◌+◌, drop}
use Rattle.metadata_relation.specs.Registers.{parameter_words, total}
use Rattle.instruction_selection.proofs.registers.argument_words.Given as goal

abbrev pub invariant-loop-variable : goal.invariant-loop-variable
invariant-loop-variable l = l.count + total parameter_words (drop l.variable-index l.parameters) ≡ total parameter_words l.fn.parameters
