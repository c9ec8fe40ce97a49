-- The live blocks of the heap in the order of their addresses, and where a new one is placed among them.
use Rattle.std.specs.Prelude.{◌≡◌, ℕ, suc, ◌+◌, ◌%◌, ◌≤◌, Bool, ◌&&◌, ◌==◌, nat_le, if◌then◌else◌, List, [], ◌∷◌}
use Rattle.std.specs.Prelude.{Option, Some, None}
use Rattle.std.specs.List.{insert, remove}
use Rattle.obj_memory.specs.Heap.{block_room, is_live_block}
use Rattle.obj_memory.specs.Objects.{ObjectState, Objects}
use Rattle.interpreter_objects.specs.declared.blocks.Block.{Block}

-- the first gap of so many bytes from an address on, before a block or behind the last, and how many blocks stand
-- before it
unfoldable pub first_gap : (low room : ℕ) → List Block → ℕ
first_gap low room [] = low
first_gap low room (b ∷ bs) = if nat_le (low + room) b.start then low else first_gap b.end room bs

unfoldable pub gap_index : (low room : ℕ) → List Block → ℕ
gap_index low room [] = 0
gap_index low room (b ∷ bs) = if nat_le (low + room) b.start then 0 else suc (gap_index b.end room bs)

-- whether the gap lies in the heap from its first address to its last
abbrev pub has_gap : (first last room : ℕ) → List Block → Bool
has_gap first last room bs = nat_le (first_gap first room bs + room) (last + 1)

unfoldable pub gap_in : (first last room : ℕ) → List Block → Option ℕ
gap_in first last room bs = if has_gap first last room bs then Some (first_gap first room bs) else None

-- the blocks with one more, in the first gap, where it lies in the heap
abbrev pub block_from : (start room : ℕ) → Block
block_from start room = record { start = start; end = start + room }

abbrev pub with_block : (first room : ℕ) → List Block → List Block
with_block first room bs = insert bs (gap_index first room bs) (block_from (first_gap first room bs) room)

unfoldable pub with_gap_filled : (first last room : ℕ) → List Block → List Block
with_gap_filled first last room bs = if has_gap first last room bs then with_block first room bs else bs

-- how many blocks stand before the first that is the same as another, and the blocks without that one
abbrev pub is_same : Block → Block → Bool
is_same x b = (b.start == x.start) && (b.end == x.end)

unfoldable pub index_of : Block → List Block → ℕ
index_of x [] = 0
index_of x (b ∷ bs) = if is_same x b then 0 else suc (index_of x bs)

unfoldable pub without : Block → List Block → List Block
without x bs = remove bs (index_of x bs)

-- which blocks are live

abbrev pub block_of : ObjectState → Block
block_of o = block_from o.address (block_room o.size)

-- what some blocks, and the live blocks among objects, weigh together, by a weight for each
unfoldable pub weight : (Block → ℕ) → List Block → ℕ
weight f [] = 0
weight f (b ∷ bs) = f b + weight f bs

unfoldable pub live_weight : (Block → ℕ) → Objects → ℕ
live_weight f [] = 0
live_weight f (o ∷ os) = (if is_live_block o then f (block_of o) else 0) + live_weight f os

-- the blocks are the live ones, as many of each: whatever each weighs, they weigh the same
pub record AreLive (objects : Objects) (blocks : List Block) : Type 0 where
  pub same : (f : Block → ℕ) → weight f blocks ≡ live_weight f objects

-- they stand one after another at multiples of 16, from one address to another
abbrev pub AreInOrder : (low high : ℕ) → List Block → Type 0
AreInOrder low high [] = low ≤ high
AreInOrder low high (b ∷ bs) =
    (low ≤ b.start) × (b.start ≤ b.end) × (b.start % 16 ≡ 0) × (b.end % 16 ≡ 0) × AreInOrder b.end high bs
