-- Rows of the table of live blocks as a list, whatever the memory.
use Rattle.std.specs.Prelude.{◌≡◌, ℕ, ◌+◌, ◌%◌, ◌≤◌, ◌⊎◌, ◌&&◌, ◌==◌, nat_lt, nat_le, if◌then◌else◌, List, [], ◌∷◌}
use Rattle.std.specs.Prelude.{length, Option, Some, None}
use Rattle.obj_memory.specs.Heap.{block_room}
use Rattle.flat_code.specs.Routines.Objects.StandsFor.{BlockRow}

-- the first address behind the room of a block
abbrev pub row_end : BlockRow → ℕ
row_end r = r.start + block_room r.size

-- the rooms stand one after another at multiples of 16, from one address to another
abbrev pub AreInOrder : (low high : ℕ) → List BlockRow → Type 0
AreInOrder low high [] = low ≤ high
AreInOrder low high (r ∷ rs) = (low ≤ r.start) × (r.start % 16 ≡ 0) × AreInOrder (row_end r) high rs

-- the rows with one more, behind those that start before it
abbrev pub with_row : BlockRow → List BlockRow → List BlockRow
with_row x [] = x ∷ []
with_row x (r ∷ rs) = if nat_lt x.start r.start then x ∷ r ∷ rs else r ∷ with_row x rs

-- the rows without the first that starts at an address
abbrev pub without_row : (start : ℕ) → List BlockRow → List BlockRow
without_row a [] = []
without_row a (r ∷ rs) = if r.start == a then rs else r ∷ without_row a rs

-- whether a row starts at an address
abbrev pub HasStart : (start : ℕ) → List BlockRow → Type 0
HasStart a [] = ⊥
HasStart a (r ∷ rs) = (r.start ≡ a) ⊎ HasStart a rs

-- the size of the first block with a start and a key
abbrev pub size_of : (start key : ℕ) → List BlockRow → Option ℕ
size_of a k [] = None
size_of a k (r ∷ rs) = if (r.start == a) && (r.key == k) then Some r.size else size_of a k rs

-- the first gap of so many bytes, before a row or behind the last
abbrev pub first_gap : (low room : ℕ) → List BlockRow → ℕ
first_gap low n [] = low
first_gap low n (r ∷ rs) = if nat_le (low + n) r.start then low else first_gap (row_end r) n rs

-- the place of a block in a heap that ends before an address, where at most so many blocks may live
abbrev pub row_place : (low high blocks size : ℕ) → List BlockRow → Option ℕ
row_place low high blocks size rows =
    if nat_lt (length rows) blocks && nat_le (first_gap low (block_room size) rows + block_room size) high
    then Some (first_gap low (block_room size) rows)
    else None
