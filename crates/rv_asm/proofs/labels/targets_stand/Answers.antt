use Rattle.std.proofs.Common.{refl, arith}
use Rattle.rv_asm.proofs.Standing.{there_by_table}
use Rattle.rv_asm.proofs.labels.targets_stand.Goals as goal

pub returns : goal.returns
returns c = (
  λ _. there_by_table c.args.items.now c.args.table.now c.requires
      (λ k l i below h t. c.loop-item.invariant k l i (omega (arith, below, c.loop-item-test.false)) h t),
  λ _. refl,
)
