-- What actions do to a memory and to the objects that it stands for.
use Rattle.std.specs.Prelude.{◌≡◌, ◌≢◌, ℕ, suc, ◌+◌, ◌-◌, ◌*◌, ◌/◌, ◌%◌, ◌<◌, ◌≤◌, ◌⊎◌, List, true, false, length}
use Rattle.std.specs.Prelude.{get_or}
use Rattle.addr_map.specs.Places.{spaces_begin}
use Rattle.obj_memory.specs.declared.object.Storage.TheVariants.{Static, Allocated}
use Rattle.obj_memory.specs.declared.value.Tag.TheVariants.{Untagged}
use Rattle.obj_memory.specs.Objects.{ObjectState, Objects, object_at}
use Rattle.obj_memory.specs.Sound.{IsSound, AreDisjoint}
use Rattle.flat_code.specs.Memory.{Bytes, load}
use Rattle.flat_code.specs.Routines.Metadata.{no_metadata, IsObjectWord}
use Rattle.flat_code.specs.Routines.Objects.StandsFor.{Views, Keys, IsPlaced, IsLock, global_lock, IsHere, IsTable}

-- lock words, the counter of keys and the table of blocks stay
pub record KeepsTables (views : Views) (before after : Bytes) : Type 0 where
  pub locks : (a : ℕ) → IsLock views.sizes a → load 8 after a ≡ load 8 before a
  pub counter : views.counter after ≡ views.counter before
  pub blocks : views.blocks after ≡ views.blocks before

-- one object became another in its place, and all but its bytes and entries stays
pub record Changes (views : Views) (keys : Keys) (before after : ObjectState) (m m' : Bytes) : Type 0 where
  pub here : IsHere views keys m' after
  pub bytes : (a : ℕ) → a < spaces_begin → (a < before.address) ⊎ (before.address + before.size ≤ a) → m' a ≡ m a
  pub entries : (a : ℕ) → IsObjectWord views.sizes a → (a < before.address) ⊎ (before.address + before.size ≤ a)
      → views.entry m' a ≡ views.entry m a
  pub tables : KeepsTables views m m'

-- bytes were put from an address on, and all else stays
pub record IsPut (views : Views) (new : List ℕ) (address : ℕ) (before after : Bytes) : Type 0 where
  pub there : (i : ℕ) → i < length new → after (address + i) ≡ get_or new i 0
  pub beside : (b : ℕ) → b < spaces_begin → (b < address) ⊎ (address + length new ≤ b) → after b ≡ before b
  pub entries : (w : ℕ) → IsObjectWord views.sizes w → views.entry after w ≡ views.entry before w
  pub tables : KeepsTables views before after

-- whether the word at an address is moved with a range from s to d
abbrev pub IsMovedWord : (size d s w : ℕ) → Type 0
IsMovedWord size d s w = (d % 8 ≡ s % 8) × (d ≤ w) × (w + 8 ≤ d + size)

abbrev pub IsKeptWord : (size d s w : ℕ) → Type 0
IsKeptWord size d s w = (d % 8 ≢ s % 8) ⊎ ((w < d) ⊎ (d + size < w + 8))

-- a range of bytes was moved from s to d, with the entries of its whole words where both are equal modulo 8
pub record IsMoved (views : Views) (size d s : ℕ) (before after : Bytes) : Type 0 where
  pub there : (i : ℕ) → i < size → after (d + i) ≡ before (s + i)
  pub beside : (a : ℕ) → a < spaces_begin → (a < d) ⊎ (d + size ≤ a) → after a ≡ before a
  pub entries : (w : ℕ) → IsObjectWord views.sizes w → IsMovedWord size d s w
      → views.entry after w ≡ views.entry before (w - d + s)
  pub others : (w : ℕ) → IsObjectWord views.sizes w → IsKeptWord size d s w → views.entry after w ≡ views.entry before w
  pub tables : KeepsTables views before after

-- bytes, entries and lock words but one are as they were for all that was live
pub record KeepsLive (views : Views) (objects : Objects) (lock : ℕ) (before after : Bytes) : Type 0 where
  pub bytes : (n : ℕ) → (object_at objects n).is_live ≡ true → (j : ℕ) → j < (object_at objects n).size
      → after ((object_at objects n).address + j) ≡ before ((object_at objects n).address + j)
  pub entries : (n : ℕ) → (object_at objects n).is_live ≡ true → (w : ℕ) → w < (object_at objects n).size / 8
      → views.entry after ((object_at objects n).address + 8 * w) ≡ views.entry before
      ((object_at objects n).address + 8 * w)
  pub locks : (a : ℕ) → IsLock views.sizes a → a ≢ lock → load 8 after a ≡ load 8 before a

-- a new object, of zero bytes and no tags, in memory too
pub record IsFresh (views : Views) (memory : Bytes) (object : ObjectState) : Type 0 where
  pub storage : object.storage ≢ Static
  pub placed : IsPlaced views.sizes object
  pub live : object.is_live ≡ true
  pub zeros : (j : ℕ) → get_or object.bytes j 0 ≡ 0
  pub no_tags : (w : ℕ) → get_or object.tags w Untagged ≡ Untagged
  pub bytes : (j : ℕ) → j < object.size → memory (object.address + j) ≡ 0
  pub entries : (w : ℕ) → w < object.size / 8 → views.entry memory (object.address + 8 * w) ≡ no_metadata

-- Objects were made under a lock word that none used, with the next key. All of an entered block are made at once.
pub record AreBorn (views : Views) (before after : Keys) (old new : Objects) (lock : ℕ) (m m' : Bytes) : Type 0 where
  pub some : length old < length new
  pub same : (n : ℕ) → n < length old → object_at new n ≡ object_at old n
  pub fresh : (n : ℕ) → length old ≤ n → n < length new → IsFresh views m' (object_at new n)
  pub sound : IsSound views.functions new
  pub disjoint : AreDisjoint new
  pub alone : (n : ℕ) → length old ≤ n → n < length new → (object_at new n).storage ≡ Allocated
      → length new ≡ suc (length old)
  pub made : after.made ≡ suc before.made
  pub own : (n : ℕ) → n < length old → after.own n ≡ before.own n
  pub held : (n : ℕ) → n < length old → after.held n ≡ before.held n
  pub new_own : (n : ℕ) → length old ≤ n → after.own n ≡ before.made
  pub new_held : (n : ℕ) → length old ≤ n → after.held n ≡ record { key = 2 + before.made; lock = lock }
  pub lock_word : IsLock views.sizes lock
  pub not_global : lock ≢ global_lock views.sizes
  pub free : (n : ℕ) → (object_at old n).is_live ≡ true → (before.held n).lock ≢ lock
  pub locked : load 8 m' lock ≡ 2 + before.made
  pub counter : views.counter m' ≡ 2 + after.made
  pub keeps : KeepsLive views old lock m m'
  pub table : IsTable after new (views.blocks m')

-- all objects under a lock word died
pub record AreDead (views : Views) (keys : Keys) (old new : Objects) (lock : ℕ) (before after : Bytes) : Type 0 where
  pub count : length new ≡ length old
  pub at : (n : ℕ) → (object_at new n ≡ object_at old n)
      ⊎ (object_at new n ≡ record (object_at old n) { is_live = false })
  pub gone : (n : ℕ) → (object_at new n).is_live ≡ true → (keys.held n).lock ≢ lock
  pub stays : (n : ℕ) → (object_at old n).is_live ≡ true → (keys.held n).lock ≢ lock → object_at new n ≡ object_at old n
  pub sound : IsSound views.functions new
  pub disjoint : AreDisjoint new
  pub not_global : lock ≢ global_lock views.sizes
  pub free : load 8 after lock ≡ 0
  pub counter : views.counter after ≡ views.counter before
  pub keeps : KeepsLive views old lock before after
  pub table : IsTable keys new (views.blocks after)
