-- Sizes and alignments.
use Rattle.std.proofs.Common.{◌≡◌, ◌≤◌, max, List, [], ◌∷◌, arith}
use Rattle.c_tree.specs.Extents.{TypeExtent}
use Rattle.c_tree.specs.Layout.{greatest_alignment}

-- an alignment is at least 1
pub one_at_least : (members : List TypeExtent) → 1 ≤ greatest_alignment members
one_at_least [] = omega arith
one_at_least (m ∷ ms) = omega (arith, one_at_least ms)

pub max_one : (members : List TypeExtent) → max 1 (greatest_alignment members) ≡ greatest_alignment members
max_one members = omega (arith, one_at_least members)
