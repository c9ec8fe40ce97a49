use Rattle.std.proofs.Common.{◌≡◌, ◌+◌, ◌++◌, drop}
use Rattle.rv_asm.specs.Forms.{size}
use Rattle.rv_asm.specs.Tables.{entry}
use Rattle.rv_asm.specs.Words.{words_from}
use Rattle.rv_asm.proofs.emission.put_items.Given as goal

abbrev pub invariant-loop-index : goal.invariant-loop-index
invariant-loop-index l = record {
  words : l.words.items ++ words_from (entry l.table) l.place (drop l.index l.forms) (drop l.index l.items)
      ≡ words_from (entry l.table) 0 l.forms l.items;
  left : l.place + size (drop l.index l.forms) (drop l.index l.items) ≡ size l.forms l.items;
}
