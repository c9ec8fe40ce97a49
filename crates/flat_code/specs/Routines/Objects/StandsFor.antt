-- When a flat memory stands for the objects of a source.
use Rattle.std.specs.Prelude.{◌≡◌, ◌≢◌, ℕ, ◌+◌, ◌*◌, ◌/◌, ◌%◌, ◌^◌, ◌<◌, ◌≤◌, List, true, false, length, get_or}
use Rattle.addr_map.specs.declared.region.Region.TheVariants.{Heap, Locks}
use Rattle.addr_map.specs.Places.{MapSizes, objects_begin, region_start, region_end, lock_count, function_address}
use Rattle.obj_memory.specs.declared.object.Storage.TheVariants.{Static, Allocated}
use Rattle.obj_memory.specs.declared.value.Tag.{Tag}
use Rattle.obj_memory.specs.declared.value.Tag.TheVariants.{Untagged, OfFunction, OfObject}
use Rattle.obj_memory.specs.declared.value.Value.{Value}
use Rattle.obj_memory.specs.Objects.{ObjectState, Objects, object_at}
use Rattle.obj_memory.specs.Sound.{IsSound, AreDisjoint}
use Rattle.flat_code.specs.Memory.{Bytes, load}
use Rattle.flat_code.specs.State.{Values}
use Rattle.flat_code.specs.declared.registers.Held.{Held}
use Rattle.flat_code.specs.Routines.Metadata.{Metadata, View, no_metadata, metadata_in}

-- ---- what the relation depends on

-- a row of the table of live blocks
pub record BlockRow : Type 0 where
  pub start : ℕ
  pub size : ℕ
  pub key : ℕ

-- What stays for a whole run: the sizes of the map, how many functions the program has, the number of each function's
-- type, and how the runtime's spaces are read: the entry of a word, the counter of keys and the table of live blocks.
pub record Views : Type 0 where
  pub sizes : MapSizes
  pub functions : ℕ
  pub types : ℕ → ℕ
  pub entry : View
  pub counter : Bytes → ℕ
  pub blocks : Bytes → List BlockRow

-- what an object has beside its bytes and tags: a key, and the address of a lock word
pub record Holding : Type 0 where
  pub key : ℕ
  pub lock : ℕ

-- How many keys were made; and by the number of an object, how many were made before its own, which all objects of one
-- entered block share and a block of the heap has alone, and its key and lock word.
pub record Keys : Type 0 where
  pub made : ℕ
  pub own : ℕ → ℕ
  pub held : ℕ → Holding

-- ---- tags and values

-- the entry of a tag; the key of a function has the top bit set over the number of its type
abbrev pub spell : Views → Keys → Tag → Metadata
spell g k Untagged = no_metadata
spell g k (OfFunction f) =
    record { base = function_address f; bound = function_address f; key = 2 ^ 63 + g.types f; lock = 0 }
spell g k (OfObject n b) = record { base = b.base; bound = b.bound; key = (k.held n).key; lock = (k.held n).lock }

-- registers hold a value and its tag: the companions of a pointer variable and of a temporary
pub record Spells (views : Views) (keys : Keys) (value : Value) (held : Held) (values : Values) : Type 0 where
  pub word : values held.value ≡ value.word
  pub tag : metadata_in values held.tag ≡ spell views keys value.tag

-- ---- the objects and their keys, whatever the memory

-- a live object lies in object space
pub record IsPlaced (map : MapSizes) (object : ObjectState) : Type 0 where
  pub first : objects_begin ≤ object.address
  pub last : object.address + object.size ≤ region_end map Heap

-- a lock word, and the one of all static objects
pub record IsLock (map : MapSizes) (address : ℕ) : Type 0 where
  pub first : region_start map Locks ≤ address
  pub last : address + 8 ≤ region_start map Locks + 8 * lock_count map
  pub aligned : address % 8 ≡ 0

abbrev pub global_lock : MapSizes → ℕ
global_lock map = region_start map Locks

-- static objects have key 1 and the global lock word; every other has the key that was made for it, counted from 2, and
-- another lock word
pub record IsKeyed (map : MapSizes) (keys : Keys) (count : ℕ) (object : ObjectState) : Type 0 where
  pub lock : IsLock map (keys.held count).lock
  pub static : object.storage ≡ Static → ((keys.held count).key ≡ 1) × ((keys.held count).lock ≡ global_lock map)
  pub other : object.storage ≢ Static
      → ((keys.held count).key ≡ 2 + keys.own count) × (keys.own count < keys.made) ×
      ((keys.held count).lock ≢ global_lock map)

pub record AreKeyed (map : MapSizes) (keys : Keys) (objects : Objects) : Type 0 where
  pub each : (n : ℕ) → n < length objects → IsKeyed map keys n (object_at objects n)
  -- a block of the heap shares its key with no object
  pub alone : (n j : ℕ) → n < length objects → j < length objects → n ≢ j → (object_at objects n).storage ≡ Allocated
      → (keys.held n).key ≢ (keys.held j).key
  -- objects that were made with one key, those of one entered block, share their lock word
  pub shared : (n j : ℕ) → n < length objects → j < length objects → (object_at objects n).storage ≢ Static
      → (object_at objects j).storage ≢ Static → keys.own n ≡ keys.own j → keys.held n ≡ keys.held j
  -- keys rise with the numbers of objects, so the numbers of those with one key follow one another
  pub rising : (n j : ℕ) → n ≤ j → j < length objects → (object_at objects n).storage ≢ Static
      → (object_at objects j).storage ≢ Static → keys.own n ≤ keys.own j

-- ---- the memory

-- the bytes of a live object, and the entries of its whole words
pub record IsHere (views : Views) (keys : Keys) (memory : Bytes) (object : ObjectState) : Type 0 where
  pub bytes : (j : ℕ) → j < object.size → memory (object.address + j) ≡ get_or object.bytes j 0
  pub tags : (w : ℕ) → w < object.size / 8 → views.entry memory (object.address + 8 * w) ≡ spell views keys
      (get_or object.tags w Untagged)

-- A lock word holds the key of an object exactly where that object is live. The global one holds 1, and one that no
-- live
-- object uses 0.
pub record AreLocked (map : MapSizes) (keys : Keys) (objects : Objects) (memory : Bytes) : Type 0 where
  pub live : (n : ℕ) → (object_at objects n).is_live ≡ true → load 8 memory (keys.held n).lock ≡ (keys.held n).key
  pub dead : (n : ℕ) → n < length objects → (object_at objects n).is_live ≡ false
      → load 8 memory (keys.held n).lock ≢ (keys.held n).key
  pub global : load 8 memory (global_lock map) ≡ 1
  pub unused : (a : ℕ) → IsLock map a → a ≢ global_lock map
      → ((n : ℕ) → (object_at objects n).is_live ≡ true → (keys.held n).lock ≢ a) → load 8 memory a ≡ 0

abbrev pub no_row : BlockRow
no_row = record { start = 0; size = 0; key = 0 }

-- a row is that of a live block
pub record IsRowOf (keys : Keys) (objects : Objects) (row : BlockRow) (count : ℕ) : Type 0 where
  pub live : (object_at objects count).is_live ≡ true
  pub block : (object_at objects count).storage ≡ Allocated
  pub start : row.start ≡ (object_at objects count).address
  pub size : row.size ≡ (object_at objects count).size
  pub key : row.key ≡ (keys.held count).key

-- the rows are those of the live blocks, by address
pub record IsTable (keys : Keys) (objects : Objects) (rows : List BlockRow) : Type 0 where
  pub by_address : (i j : ℕ) → i < j → j < length rows → (get_or rows i no_row).start < (get_or rows j no_row).start
  pub block_of : (i : ℕ) → i < length rows → (n : ℕ) × IsRowOf keys objects (get_or rows i no_row) n
  pub row_of : (n : ℕ) → (object_at objects n).is_live ≡ true → (object_at objects n).storage ≡ Allocated
      → (i : ℕ) × (i < length rows) × IsRowOf keys objects (get_or rows i no_row) n

-- The memory stands for the objects.
pub record StandsFor (views : Views) (keys : Keys) (objects : Objects) (memory : Bytes) : Type 0 where
  pub sound : IsSound views.functions objects
  pub disjoint : AreDisjoint objects
  pub placed : (n : ℕ) → (object_at objects n).is_live ≡ true → IsPlaced views.sizes (object_at objects n)
  pub keyed : AreKeyed views.sizes keys objects
  pub here : (n : ℕ) → (object_at objects n).is_live ≡ true → IsHere views keys memory (object_at objects n)
  pub locks : AreLocked views.sizes keys objects memory
  pub counted : views.counter memory ≡ 2 + keys.made
  pub table : IsTable keys objects (views.blocks memory)
