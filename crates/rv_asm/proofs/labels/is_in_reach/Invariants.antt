use Rattle.std.proofs.Common.{◌≡◌, ◌+◌, ◌<◌, ◌^◌, drop}
use Rattle.rv_asm.specs.Forms.{longest_size}
use Rattle.rv_asm.proofs.labels.is_in_reach.Given as goal

abbrev pub invariant-loop-item : goal.invariant-loop-item
invariant-loop-item l = record {
  left : l.size + longest_size (drop l.item-index l.items) ≡ longest_size l.items;
  small : l.size < 2 ^ 28;
}
