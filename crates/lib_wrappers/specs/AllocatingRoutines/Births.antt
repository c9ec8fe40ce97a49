-- Keys of objects that are born together, and what is made of the memory for a block of the heap.
use Rattle.std.specs.Prelude.{◌≡◌, ℕ, suc, ◌+◌, ◌*◌, ◌/◌, ◌<◌, ◌≤◌, ◌⊎◌, nat_lt, if◌then◌else◌}
use Rattle.addr_map.specs.declared.region.Region.TheVariants.{StructureValues}
use Rattle.addr_map.specs.Places.{MapSizes, spaces_begin, region_start}
use Rattle.flat_code.specs.Memory.{Bytes, Beside, load}
use Rattle.flat_code.specs.Routines.Metadata.{View, no_metadata, IsObjectWord}
use Rattle.flat_code.specs.Routines.Objects.StandsFor.{Keys}
use Rattle.lock_space.specs.Locks.{key_counter, IsFree}
use Rattle.lock_space.specs.Routines.{OtherLocksStay}
use Rattle.heap_space.specs.Rows.{with_row}
use Rattle.heap_space.specs.Table.{block_rows}
use Rattle.flat_actions.specs.Actions.{AreSpacesGood}

-- one more key, which all objects from a number on have, under one lock word
abbrev pub with_key : (objects lock : ℕ) → Keys → Keys
with_key n lock k = record {
  made = suc k.made;
  own = λ j. if nat_lt j n then k.own j else k.made;
  held = λ j. if nat_lt j n then k.held j else record { key = 2 + k.made; lock = lock };
}

-- a range of object space is zero, with no metadata, and all that stands beside it is as it was
pub record IsZeroRange (map : MapSizes) (entry : View) (address bytes : ℕ) (before after : Bytes) : Type 0 where
  pub zeros : (i : ℕ) → i < bytes → after (address + i) ≡ 0
  pub low : (b : ℕ) → b < spaces_begin → Beside address bytes b → after b ≡ before b
  pub cleared : (w : ℕ) → w < bytes / 8 → entry after (address + 8 * w) ≡ no_metadata
  pub entries : (b : ℕ) → IsObjectWord map b → (b < address) ⊎ (address + 8 * (bytes / 8) ≤ b)
      → entry after b ≡ entry before b

-- a lock word that was free has the next key
pub record IsKeyTaken (map : MapSizes) (lock : ℕ) (before after : Bytes) : Type 0 where
  pub was_free : IsFree map before lock
  pub locked : load 8 after lock ≡ key_counter map before
  pub others : OtherLocksStay map lock before after
  pub counter : key_counter map after ≡ suc (key_counter map before)

-- a block of some bytes stands at a place, with its row, under a lock word
pub record IsBlockMade (map : MapSizes) (entry : View) (IsGood : Bytes
    → Type 0) (place size lock : ℕ) (before after : Bytes)
    : Type 0 where
  pub range : IsZeroRange map entry place size before after
  pub key : IsKeyTaken map lock before after
  pub rows : block_rows map after
      ≡ with_row (record { start = place; size = size; key = key_counter map before }) (block_rows map before)
  pub good : AreSpacesGood map IsGood after
  pub behind : (b : ℕ) → region_start map StructureValues ≤ b → after b ≡ before b

-- a range of the object stack is zero, and a lock word has a new key
pub record IsRangeMade (map : MapSizes) (entry : View) (IsGood : Bytes
    → Type 0) (first bytes lock : ℕ) (before after : Bytes)
    : Type 0 where
  pub range : IsZeroRange map entry first bytes before after
  pub key : IsKeyTaken map lock before after
  pub rows : block_rows map after ≡ block_rows map before
  pub good : AreSpacesGood map IsGood after
  pub behind : (b : ℕ) → region_start map StructureValues ≤ b → after b ≡ before b
