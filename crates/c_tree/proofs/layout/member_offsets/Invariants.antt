use Rattle.std.proofs.Common.{◌≡◌, ◌≤◌, ◌+◌, ◌^◌, ◌++◌, drop}
use Rattle.c_tree.specs.Layout.{offsets_from}
use Rattle.c_tree.proofs.layout.member_offsets.Given as goal

abbrev pub invariant-loop-member : goal.invariant-loop-member
invariant-loop-member l =
    (l.place ≤ 2 ^ 32 + 1)
    × (l.offsets.items ++ offsets_from l.place (drop l.member-index l.members) ≡ offsets_from 0 l.members)
