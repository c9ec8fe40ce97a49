use Rattle.std.proofs.Common.{◌≡◌, List, drop}
use Rattle.c_syntax.specs.StatementsView as views
use Rattle.c_counts.specs.Counts.{Count}
use Rattle.c_counts.specs.Counts as counts
use Rattle.c_counts.specs.Excess.{with_counts}
use Rattle.c_counts.proofs.declarations.+initializers.Given as goal

abbrev pub invariant-more_items-loop-tree : goal.invariant-more_items-loop-tree
invariant-more_items-loop-tree l =
    (cs : List Count) → with_counts (counts.more_items (views.more_items_in (drop l.tree-index l.others)) cs) l.so_far
    ≡ with_counts (counts.more_items (views.more_items_in l.fn.others) cs) l.fn.so_far
