use Rattle.std.proofs.Common.{◌≡◌, ◌+◌, ◌*◌, ◌<◌, ◌^◌, drop}
use Rattle.c_syntax.specs.View as view
use Rattle.c_counts.specs.Counts as counts
use Rattle.c_counts.proofs.trees.member_count.Given as goal

abbrev pub invariant-loop-tree : goal.invariant-loop-tree
invariant-loop-tree l =
    (l.count + counts.members_in (view.members_in (drop l.tree-index l.trees))
    ≡ counts.members_in (view.members_in l.fn.trees))
    × (l.count < 2 ^ 64 * (l.tree-index + 1))
