use Rattle.std.proofs.Common.{◌≡◌, ◌+◌, ◌*◌, ◌≤◌, drop}
use Rattle.metadata_plan.specs.Registers.{words_in}
use Rattle.metadata_expansion.proofs.numbers.word_count.Given as goal

abbrev pub invariant-loop-variable : goal.invariant-loop-variable
invariant-loop-variable l =
    (l.sum + words_in (drop l.variable-index l.variables) ≡ words_in l.variables) × (l.sum ≤ 5 * l.variable-index)
