use Rattle.std.proofs.Common.{◌≡◌, ℕ, ◌<◌, Some, slice_get}
use Rattle.rv_asm.specs.declared.item.Item.TheVariants.{Label}
use Rattle.rv_asm.proofs.layout.table_length.Given as goal

abbrev pub invariant-loop-item : goal.invariant-loop-item
invariant-loop-item l = (k n : ℕ) → k < l.item-index → slice_get l.items k ≡ Some (Label n) → n < l.entries
