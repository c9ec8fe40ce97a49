use Rattle.std.proofs.Common.{◌≡◌, ◌≤◌, ◌+◌, ◌^◌, drop, max}
use Rattle.c_tree.specs.Layout.{greatest_size}
use Rattle.c_tree.proofs.layout.greatest_size.Given as goal

abbrev pub invariant-loop-member : goal.invariant-loop-member
invariant-loop-member l =
    (l.greatest ≤ 2 ^ 32 + 1) ×
    (max l.greatest (greatest_size (drop l.member-index l.members)) ≡ greatest_size l.members)
