use Rattle.std.proofs.Common.{◌≡◌, ◌≤◌, ◌+◌, ◌^◌, drop}
use Rattle.c_tree.specs.Layout.{end_from}
use Rattle.c_tree.proofs.layout.structure_of.Given as goal

abbrev pub invariant-loop-member : goal.invariant-loop-member
invariant-loop-member l =
    (l.place ≤ 2 ^ 32 + 1) × (end_from l.place (drop l.member-index l.members) ≡ end_from 0 l.members)
