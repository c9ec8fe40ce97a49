-- The memory with which an image begins: static objects, the entries of the pointers that they hold, the global lock
-- word, and zeros.
use Rattle.std.specs.Prelude.{◌≡◌, ◌≢◌, ℕ, ◌+◌, ◌*◌, ◌/◌, ◌<◌, List, true, length, get_or}
use Rattle.addr_map.specs.Places.{MapSizes}
use Rattle.obj_memory.specs.declared.object.Storage.TheVariants.{Static}
use Rattle.obj_memory.specs.declared.value.Tag.TheVariants.{Untagged}
use Rattle.obj_memory.specs.Objects.{Objects, object_at}
use Rattle.obj_memory.specs.Sound.{IsSound, AreDisjoint}
use Rattle.flat_code.specs.Memory.{Bytes, load}
use Rattle.flat_code.specs.Routines.Registers.{IsNoneOf}
use Rattle.flat_code.specs.Routines.Metadata.{Metadata, View}
use Rattle.flat_code.specs.Routines.Objects.StandsFor.{Views, IsPlaced, spell}
use Rattle.flat_code.specs.Routines.Objects.Start.{start_keys}
use Rattle.shadow_space.specs.declared.start.StartEntry.{StartEntry}
use Rattle.shadow_space.specs.Start.{metadata_of, words_of, IsStarted}
use Rattle.lock_space.specs.Locks.{IsLockStart}
use Rattle.heap_space.specs.Table.{total_cell}

-- all objects are static and live, and their bytes stand where they do
pub record AreStatics (map : MapSizes) (functions : ℕ) (objects : Objects) (memory : Bytes) : Type 0 where
  pub sound : IsSound functions objects
  pub disjoint : AreDisjoint objects
  pub static : (n : ℕ) → (object_at objects n).storage ≡ Static
  pub live : (n : ℕ) → n < length objects → (object_at objects n).is_live ≡ true
  pub placed : (n : ℕ) → n < length objects → IsPlaced map (object_at objects n)
  pub bytes : (n : ℕ) → n < length objects → (j : ℕ) → j < (object_at objects n).size
      → memory ((object_at objects n).address + j) ≡ get_or (object_at objects n).bytes j 0

abbrev pub no_entry : StartEntry
no_entry = record { at = 0; base = 0; bound = 0; key = 0; lock = 0 }

-- one of the entries is of a word, with this metadata
pub record HasEntry (es : List StartEntry) (address : ℕ) (entry : Metadata) : Type 0 where
  pub index : ℕ
  pub below : index < length es
  pub word : (get_or es index no_entry).at ≡ address
  pub is : metadata_of (get_or es index no_entry) ≡ entry

-- the entries are just those of the words that hold tags
pub record AreEntriesOf (views : Views) (objects : Objects) (es : List StartEntry) : Type 0 where
  pub tagged : (n w : ℕ) → n < length objects → w < (object_at objects n).size / 8
      → get_or (object_at objects n).tags w Untagged ≢ Untagged
      → HasEntry es ((object_at objects n).address + 8 * w)
      (spell views (start_keys views) (get_or (object_at objects n).tags w Untagged))
  pub untagged : (n w : ℕ) → n < length objects → w < (object_at objects n).size / 8
      → get_or (object_at objects n).tags w Untagged ≡ Untagged
      → IsNoneOf ((object_at objects n).address + 8 * w) (words_of es)

-- the shadow space as its form gives it, and no key and no block
pub record AreSpacesAtStart (map : MapSizes) (entry : View) (IsGood : Bytes → Type 0) (es : List StartEntry)
    (memory : Bytes) : Type 0 where
  pub shadow : IsStarted map entry IsGood es memory
  pub locks : IsLockStart map memory
  pub blocks : load 8 memory (total_cell map) ≡ 0
