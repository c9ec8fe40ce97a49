use Rattle.std.proofs.Common.{◌≡◌, List, drop, None}
use Rattle.c_syntax.specs.StatementsView as views
use Rattle.c_counts.specs.Counts.{Count}
use Rattle.c_counts.specs.Counts as counts
use Rattle.c_counts.specs.Excess.{with_counts}
use Rattle.c_counts.proofs.statements.externals.Given as goal

abbrev pub invariant-loop-tree : goal.invariant-loop-tree
invariant-loop-tree l =
    (cs : List Count) → with_counts (counts.externals (views.externals_in (drop l.tree-index l.trees)) cs) l.so_far
    ≡ with_counts (counts.externals (views.externals_in l.fn.trees) cs) (record { parameters = None; members = None })
