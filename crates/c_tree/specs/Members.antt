-- What the layout of a structure or union has to be (C99 6.7.2.1 paragraphs 12 to 15).
use Rattle.std.specs.Prelude.{◌≡◌, ℕ, ◌+◌, ◌%◌, ◌<◌, ◌≤◌, List, length, get_or}
use Rattle.c_tree.specs.Extents.{TypeExtent}

abbrev pub size_at : List TypeExtent → ℕ → ℕ
size_at members k = (get_or members k (record { size = 0; alignment = 1 })).size

abbrev pub alignment_at : List TypeExtent → ℕ → ℕ
alignment_at members k = (get_or members k (record { size = 0; alignment = 1 })).alignment

-- offsets of the members of a structure of so many bytes: one for each member, at a multiple of its alignment,
-- behind all members before it, and each member ends inside
pub record AreLaidOut (members : List TypeExtent) (offsets : List ℕ) (size : ℕ) : Type 0 where
  pub count : length offsets ≡ length members
  pub first : 0 < length members → get_or offsets 0 0 ≡ 0
  pub aligned : (k : ℕ) → k < length members → get_or offsets k 0 % alignment_at members k ≡ 0
  pub apart : (j k : ℕ) → j < k → k < length members → get_or offsets j 0 + size_at members j ≤ get_or offsets k 0
  pub inside : (k : ℕ) → k < length members → get_or offsets k 0 + size_at members k ≤ size
