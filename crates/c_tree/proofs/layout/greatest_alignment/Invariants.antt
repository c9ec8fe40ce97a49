use Rattle.std.proofs.Common.{◌≡◌, ◌≤◌, drop, max}
use Rattle.c_tree.specs.Layout.{greatest_alignment}
use Rattle.c_tree.proofs.layout.greatest_alignment.Given as goal

abbrev pub invariant-loop-member : goal.invariant-loop-member
invariant-loop-member l =
    (1 ≤ l.greatest) × (l.greatest ≤ 8)
    × (max l.greatest (greatest_alignment (drop l.member-index l.members)) ≡ greatest_alignment l.members)
