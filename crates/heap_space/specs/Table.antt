-- The table of live blocks in memory.
use Rattle.std.specs.Prelude.{◌≡◌, ℕ, zero, suc, ◌+◌, ◌*◌, ◌<◌, ◌≤◌, List, [], ◌∷◌}
use Rattle.addr_map.specs.declared.region.Region.TheVariants.{Heap, Blocks}
use Rattle.addr_map.specs.Places.{MapSizes, region_size, region_start, region_end}
use Rattle.flat_code.specs.Memory.{Bytes, load, KeepsBut, Keeps}
use Rattle.flat_code.specs.Routines.Objects.StandsFor.{BlockRow}
use Rattle.heap_space.specs.Rows.{row_end, AreInOrder}

-- the number of live blocks, and behind it the rows: the start of a block, its size, its key, and where its room ends
abbrev pub total_cell : MapSizes → ℕ
total_cell map = region_start map Blocks

abbrev pub row_cell : MapSizes → (i : ℕ) → ℕ
row_cell map i = region_start map Blocks + 8 + 32 * i

abbrev pub block_total : MapSizes → Bytes → ℕ
block_total map m = load 8 m (total_cell map)

abbrev pub row_at : Bytes → (address : ℕ) → BlockRow
row_at m a = record { start = load 8 m a; size = load 8 m (a + 8); key = load 8 m (a + 16) }

-- so many rows from an address on
abbrev pub rows_from : Bytes → (address count : ℕ) → List BlockRow
rows_from m a zero = []
rows_from m a (suc n) = row_at m a ∷ rows_from m (a + 32) n

abbrev pub block_rows : MapSizes → Bytes → List BlockRow
block_rows map m = rows_from m (row_cell map 0) (block_total map m)

-- What holds of the memory whenever a routine is called: there are no more rows than blocks may live, their rooms stand
-- in the heap in order, and each row has the end of its room.
pub record IsTableGood (map : MapSizes) (memory : Bytes) : Type 0 where
  pub few : block_total map memory ≤ map.budgets.blocks
  pub in_order : AreInOrder (region_start map Heap) (region_end map Heap) (block_rows map memory)
  pub ends : (i : ℕ) → i < block_total map memory → load 8 memory (row_cell map i + 24) ≡ row_end (row_at memory
      (row_cell map i))

-- the bytes of the table
abbrev pub KeepsButTable : MapSizes → Bytes → Bytes → Type 0
KeepsButTable map = KeepsBut (region_start map Blocks) (region_size map Blocks)

abbrev pub KeepsTable : MapSizes → Bytes → Bytes → Type 0
KeepsTable map = Keeps (region_start map Blocks) (region_size map Blocks)
