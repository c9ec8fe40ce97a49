use Rattle.std.proofs.Common.{arith}
use Rattle.c_counts.proofs.Members.{declared_at}
use Rattle.c_counts.proofs.trees.member_count.Goals as goal

pub loop-tree-preserved : goal.loop-tree-preserved
loop-tree-preserved c =
    let more =
    declared_at c.args.trees.now c.loop-tree.tree-index c.tree-item.result c.as_slice.result.now c.loop-tree-test.true
    c.tree-item.is c.as_slice.ensures in
    (grind (arith), grind (arith))
