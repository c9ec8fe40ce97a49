-- The shadow space in two levels: a word for each page of object space, and tables of entries from a reserve.
use Rattle.std.specs.Prelude.{◌≡◌, ◌≢◌, ℕ, ◌+◌, ◌-◌, ◌*◌, ◌/◌, ◌%◌, ◌<◌, ◌≤◌, nat_eq, if◌then◌else◌}
use Rattle.addr_map.specs.Places.{MapSizes, objects_begin, spaces_begin, object_space}
use Rattle.flat_code.specs.Memory.{Bytes, load}
use Rattle.flat_code.specs.Routines.Metadata.{Metadata, no_metadata, metadata_at}

-- ---- where they stand

-- a page has 4096 bytes, and a table the 512 entries of 32 bytes of its words
abbrev pub pages : MapSizes → ℕ
pages map = object_space map / 4096

abbrev pub page_of : (address : ℕ) → ℕ
page_of a = (a - objects_begin) / 4096

-- where the entry of a word stands in the table of its page
abbrev pub entry_offset : (address : ℕ) → ℕ
entry_offset a = 4 * ((a - objects_begin) % 4096)

-- the cell of the reserve, how many bytes of its tables are taken; the first level; and the tables
abbrev pub taken_cell : ℕ
taken_cell = spaces_begin

abbrev pub page_cell : (page : ℕ) → ℕ
page_cell q = spaces_begin + 8 + 8 * q

abbrev pub first_table : MapSizes → ℕ
first_table map = spaces_begin + 8 + 8 * pages map

-- ---- what they hold

-- the table of a page, or 0
abbrev pub table_of : Bytes → (page : ℕ) → ℕ
table_of m q = load 8 m (page_cell q)

abbrev pub taken_bytes : Bytes → ℕ
taken_bytes m = load 8 m taken_cell

-- a word of a page without a table has no metadata
unfoldable pub in_table : Bytes → (table offset : ℕ) → Metadata
in_table m t o = if nat_eq t 0 then no_metadata else metadata_at m (t + o)

abbrev pub two_level_entry : Bytes → ℕ → Metadata
two_level_entry m a = in_table m (table_of m (page_of a)) (entry_offset a)

-- What holds of the memory whenever a routine is called: so many tables are taken, each by one page, the others of the
-- reserve are zero, and there is one for each page.
pub record AreTablesGood (map : MapSizes) (memory : Bytes) : Type 0 where
  pub taken : ℕ
  pub within : taken ≤ pages map
  pub counted : taken_bytes memory ≡ 16384 * taken
  pub table : (q : ℕ) → q < pages map → table_of memory q ≢ 0
      → (i : ℕ) × (i < taken) × (table_of memory q ≡ first_table map + 16384 * i)
  pub owner : (i : ℕ) → i < taken → (q : ℕ) × (q < pages map) × (table_of memory q ≡ first_table map + 16384 * i)
  pub once : (p q : ℕ) → p < pages map → q < pages map → table_of memory p ≢ 0 → table_of memory p ≡ table_of memory q
      → p ≡ q
  pub reserve : (a : ℕ) → first_table map + 16384 * taken ≤ a → a < first_table map + 16384 * pages map → memory a ≡ 0
