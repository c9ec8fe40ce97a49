use Rattle.std.proofs.Common.{◌≡◌, ◌≤◌, ◌*◌}
use Rattle.rv_asm.specs.Forms.{start}
use Rattle.rv_asm.specs.Tables.{HasRoom, Holds}
use Rattle.rv_asm.proofs.layout.label_places.Given as goal

abbrev pub invariant-loop-index : goal.invariant-loop-index
invariant-loop-index l = record {
  few : l.place ≤ 3 * l.index;
  at : l.place ≡ start l.forms l.items l.index;
  room : HasRoom l.items l.table.items;
  held : Holds l.forms l.items l.index l.table.items;
}
