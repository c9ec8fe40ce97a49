use Rattle.std.proofs.Common.{◌≡◌, List, drop}
use Rattle.c_syntax.specs.StatementsView as views
use Rattle.c_counts.specs.Counts.{Count}
use Rattle.c_counts.specs.Counts as counts
use Rattle.c_counts.specs.Excess.{with_counts}
use Rattle.c_counts.proofs.declarations.designators.Given as goal

abbrev pub invariant-loop-tree : goal.invariant-loop-tree
invariant-loop-tree l =
    (cs : List Count) → with_counts (counts.designators (views.designators_in (drop l.tree-index l.trees)) cs) l.so_far
    ≡ with_counts (counts.designators (views.designators_in l.fn.trees) cs) l.fn.so_far
