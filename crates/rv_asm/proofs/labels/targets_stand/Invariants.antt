use Rattle.std.proofs.Common.{◌≡◌, ◌<◌, ℕ, Some, true, slice_get}
use Rattle.rv_asm.specs.declared.item.Item.{Item}
use Rattle.rv_asm.specs.Items.{target_of}
use Rattle.rv_asm.proofs.labels.targets_stand.Given as goal

abbrev pub invariant-loop-item : goal.invariant-loop-item
invariant-loop-item l = (k n : ℕ) (i : Item) → k < l.item-index → slice_get l.items k ≡ Some i → target_of i ≡ Some n
    → slice_get l.table n ≡ Some true
