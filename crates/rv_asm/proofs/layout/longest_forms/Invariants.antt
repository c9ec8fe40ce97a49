use Rattle.std.proofs.Common.{◌≡◌, ◌++◌, drop}
use Rattle.rv_asm.specs.Forms.{longest}
use Rattle.rv_asm.proofs.layout.longest_forms.Given as goal

abbrev pub invariant-loop-item : goal.invariant-loop-item
invariant-loop-item l = l.forms.items ++ longest (drop l._item-index l.items) ≡ longest l.items
