use Rattle.std.proofs.Common.{◌≡◌, ◌≤◌, ◌*◌, ◌++◌, drop}
use Rattle.rv_asm.specs.Forms.{chosen}
use Rattle.rv_asm.specs.Tables.{entry}
use Rattle.rv_asm.proofs.layout.chosen_forms.Given as goal

abbrev pub invariant-loop-item : goal.invariant-loop-item
invariant-loop-item l = record {
  forms : l.forms.items ++ chosen (entry l.table) l.place (drop l.item-index l.items)
      ≡ chosen (entry l.table) 0 l.items;
  few : l.place ≤ 3 * l.item-index;
}
