use Rattle.std.proofs.Common.{◌≡◌, ◌+◌, ◌*◌, ◌≤◌, drop}
use Rattle.metadata_relation.specs.Registers.{total}
use Rattle.instruction_selection.specs.Words.{words_by}
use Rattle.program_expansion.proofs.sizes.word_count.Given as goal

abbrev pub invariant-loop-variable : goal.invariant-loop-variable
invariant-loop-variable l =
    (l.sum + total (words_by l.words) (drop l.variable-index l.variables) ≡ total (words_by l.words) l.variables)
    × (l.sum ≤ 5 * l.variable-index)
