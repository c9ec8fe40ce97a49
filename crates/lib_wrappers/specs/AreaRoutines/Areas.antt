-- Areas of structure values: where the contents of a structure stand that is a result, or was taken as an argument
-- (C99 6.5.2.2 paragraph 4, 6.8.6.4 paragraph 3).
use Rattle.std.specs.Prelude.{◌≡◌, ℕ, ◌+◌, ◌*◌, ◌/◌, ◌%◌, ◌<◌, ◌≤◌, get_or}
use Rattle.addr_map.specs.declared.region.Region.TheVariants.{StructureValues}
use Rattle.addr_map.specs.Places.{MapSizes, region_start, region_end}
use Rattle.obj_memory.specs.declared.value.Tag.TheVariants.{Untagged}
use Rattle.obj_memory.specs.Objects.{ObjectState}
use Rattle.flat_code.specs.Memory.{Bytes}
use Rattle.flat_code.specs.State.{Values}
use Rattle.flat_code.specs.declared.registers.Held.{Held}
use Rattle.flat_code.specs.Routines.Metadata.{metadata_at}
use Rattle.flat_code.specs.Routines.Objects.StandsFor.{Views, Keys, spell}

-- ---- where the parts of an area stand

-- some bytes in whole words of 8
abbrev pub whole_words : (size : ℕ) → ℕ
whole_words n = (n + 7) / 8 * 8

-- the bytes of an area: those of the contents in whole words, and an entry of 32 bytes for each whole word
abbrev pub area_bytes : (size : ℕ) → ℕ
area_bytes n = whole_words n + 32 * (n / 8)

-- where its entries begin
abbrev pub entries_begin : (address size : ℕ) → ℕ
entries_begin a n = a + whole_words n

-- an area for so many bytes lies in the space of structure values, at a multiple of 8
pub record IsAreaPlace (map : MapSizes) (size address : ℕ) : Type 0 where
  pub aligned : address % 8 ≡ 0
  pub first : region_start map StructureValues ≤ address
  pub last : address + area_bytes size ≤ region_end map StructureValues

-- ---- what an area holds

-- the bytes of contents, and behind them the entries that their tags are spelled with
pub record IsArea (views : Views) (keys : Keys) (contents : ObjectState) (address : ℕ) (memory : Bytes) : Type 0 where
  pub bytes : (j : ℕ) → j < contents.size → memory (address + j) ≡ get_or contents.bytes j 0
  pub entries : (w : ℕ) → w < contents.size / 8
      → metadata_at memory (entries_begin address contents.size + 32 * w)
      ≡ spell views keys (get_or contents.tags w Untagged)

-- Registers hold a part of contents, from an offset on: the address of the part, where the area begins, and where its
-- entries do. There is no lock word, which each place has.
pub record HoldsPart (held : Held) (size offset address : ℕ) (values : Values) : Type 0 where
  pub part : values held.value ≡ address + offset
  pub base : values held.tag.base ≡ address
  pub bound : values held.tag.bound ≡ entries_begin address size
  pub no_lock : values held.tag.lock ≡ 0
