-- The bytes with which the two levels begin: each page of static objects has a table, in order.
use Rattle.std.specs.Prelude.{ℕ, zero, suc, ◌+◌, ◌*◌, ◌/◌, List, replicate}
use Rattle.addr_map.specs.Places.{MapSizes, whole_pages}
use Rattle.shadow_space.specs.declared.start.StartEntry.{StartEntry}
use Rattle.shadow_space.specs.Start.{metadata_of, with_word, with_entry, begun}
use Rattle.shadow_space.specs.TwoLevel.Tables.{pages, page_of, entry_offset, first_table}

-- the pages of static objects
abbrev pub global_pages : MapSizes → ℕ
global_pages map = whole_pages map.global_bytes / 4096

-- how many bytes: the cell, the first level and these tables
abbrev pub start_size : MapSizes → ℕ
start_size map = 8 + 8 * pages map + 16384 * global_pages map

-- the first level with the tables of so many pages
abbrev pub with_tables : MapSizes → (count : ℕ) → List ℕ → List ℕ
with_tables map zero bytes = bytes
with_tables map (suc q) bytes = with_word (8 + 8 * q) (first_table map + 16384 * q) (with_tables map q bytes)

-- the cell, and zeros
unfoldable pub counted_bytes : MapSizes → List ℕ
counted_bytes map = with_word 0 (16384 * global_pages map) (replicate (start_size map) 0)

abbrev pub empty_tables : MapSizes → List ℕ
empty_tables map = with_tables map (global_pages map) (counted_bytes map)

-- an entry in the table of its page
abbrev pub table_put : MapSizes → List ℕ → StartEntry → List ℕ
table_put map bytes e =
    with_entry (8 + 8 * pages map + 16384 * page_of e.at + entry_offset e.at) (metadata_of e) bytes

abbrev pub two_level_start : MapSizes → List StartEntry → List ℕ
two_level_start map es = begun (table_put map) es (empty_tables map)
