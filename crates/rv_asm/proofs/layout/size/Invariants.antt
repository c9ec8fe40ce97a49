use Rattle.std.proofs.Common.{◌≡◌, ◌≤◌, ◌+◌, ◌*◌, drop}
use Rattle.rv_asm.specs.Forms.{size}
use Rattle.rv_asm.proofs.layout.size.Given as goal

abbrev pub invariant-loop-index : goal.invariant-loop-index
invariant-loop-index l = record {
  left : l.sum + size (drop l.index l.forms) (drop l.index l.items) ≡ size l.forms l.items;
  few : l.sum ≤ 3 * l.index;
}
