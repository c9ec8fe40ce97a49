-- The layout of arrays, structures and unions (C99 6.2.5, 6.5.3.4, 6.7.2.1; the RISC-V psABI). A size above 2^32 bytes,
-- which no type may have, counts as 2^32 + 1.
use Rattle.std.specs.Prelude.{ℕ, ◌+◌, ◌-◌, ◌*◌, ◌/◌, max, List, [], ◌∷◌}
use Rattle.c_tree.specs.Extents.{TypeExtent, capped}

-- the next multiple of an alignment
abbrev pub aligned : (alignment n : ℕ) → ℕ
aligned alignment n = (n + (alignment - 1)) / alignment * alignment

unfoldable pub array_size : (count element : ℕ) → ℕ
array_size count element = capped (count * element)

-- the place behind a member that lies at the next multiple of its alignment
abbrev pub behind_member : ℕ → TypeExtent → ℕ
behind_member at m = capped (aligned m.alignment at + m.size)

-- the offsets of members in their order from a place on (6.7.2.1 paragraph 13), and the place behind the last
abbrev pub offsets_from : ℕ → List TypeExtent → List ℕ
offsets_from at [] = []
offsets_from at (m ∷ ms) = aligned m.alignment at ∷ offsets_from (behind_member at m) ms

abbrev pub end_from : ℕ → List TypeExtent → ℕ
end_from at [] = at
end_from at (m ∷ ms) = end_from (behind_member at m) ms

abbrev pub greatest_alignment : List TypeExtent → ℕ
greatest_alignment [] = 1
greatest_alignment (m ∷ ms) = max m.alignment (greatest_alignment ms)

abbrev pub greatest_size : List TypeExtent → ℕ
greatest_size [] = 0
greatest_size (m ∷ ms) = max m.size (greatest_size ms)

-- the size is a multiple of the greatest alignment, so that arrays of them are aligned (6.7.2.1 paragraph 15)
abbrev pub padded : (alignment size : ℕ) → TypeExtent
padded alignment size = record { size = capped (aligned alignment size); alignment = alignment }

-- the first member of a structure lies at 0
unfoldable pub member_offsets : List TypeExtent → List ℕ
member_offsets members = offsets_from 0 members

unfoldable pub structure_of : List TypeExtent → TypeExtent
structure_of members = padded (greatest_alignment members) (end_from 0 members)

-- all members of a union lie at 0 (6.7.2.1 paragraph 14)
unfoldable pub union_of : List TypeExtent → TypeExtent
union_of members = padded (greatest_alignment members) (greatest_size members)
