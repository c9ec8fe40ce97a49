use Rattle.std.proofs.Common.{◌≡◌, List, drop}
use Rattle.c_syntax.specs.StatementsView as views
use Rattle.c_counts.specs.Counts.{Count}
use Rattle.c_counts.specs.Counts as counts
use Rattle.c_counts.specs.Excess.{with_counts}
use Rattle.c_counts.proofs.statements.+statements.Given as goal

abbrev pub invariant-block_items-loop-tree : goal.invariant-block_items-loop-tree
invariant-block_items-loop-tree l =
    (cs : List Count) → with_counts (counts.block_items (views.items_in (drop l.tree-index l.trees)) cs) l.so_far
    ≡ with_counts (counts.block_items (views.items_in l.fn.trees) cs) l.fn.so_far
