use Rattle.rv_asm.specs.Tables.{Stand}
use Rattle.rv_asm.proofs.labels.standing_labels.Given as goal

abbrev pub invariant-loop-item : goal.invariant-loop-item
invariant-loop-item l = Stand l.items l.item-index l.table.items
