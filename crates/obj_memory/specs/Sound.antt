-- What always holds of the objects of a run.
use Rattle.std.specs.Prelude.{◌≡◌, ℕ, ◌+◌, ◌*◌, ◌/◌, ◌%◌, ◌^◌, ◌⊎◌, ◌<◌, ◌≤◌, ◌≢◌, true, false, length, get_or}
use Rattle.obj_memory.specs.declared.value.Bounds.{Bounds}
use Rattle.obj_memory.specs.declared.value.Tag.{Tag}
use Rattle.obj_memory.specs.declared.value.Tag.TheVariants.{Untagged, OfFunction, OfObject}
use Rattle.obj_memory.specs.declared.value.Value.{Value}
use Rattle.obj_memory.specs.declared.value.Place.{Place}
use Rattle.obj_memory.specs.Objects.{ObjectState, Objects, object_at}
use Rattle.obj_memory.specs.Heap.{block_room, object_room, is_live_block, has_room}

-- a tag names an object of the list, and its bounds are words and, where there is anything between them, lie in that
-- object
pub record IsTagOf (objects : Objects) (object : ℕ) (bounds : Bounds) : Type 0 where
  pub made : object < length objects
  pub base : (object_at objects object).address ≤ bounds.base
  pub bound : bounds.bound ≤ (object_at objects object).address + (object_at objects object).size
  pub base_word : bounds.base < 2 ^ 64
  pub bound_word : bounds.bound < 2 ^ 64

-- a tag that is none, that of one of so many functions, or one of an object
abbrev pub IsSoundTag : (functions : ℕ) → Objects → Tag → Type 0
IsSoundTag functions objects Untagged = Unit {0}
IsSoundTag functions objects (OfFunction f) = f < functions
IsSoundTag functions objects (OfObject o b) = IsTagOf objects o b

-- an object has all its bytes and tags, stands at a multiple of 16, and holds sound tags
pub record IsSoundObject (functions : ℕ) (objects : Objects) (object : ObjectState) : Type 0 where
  pub aligned : object.address % 16 ≡ 0
  pub bytes : length object.bytes ≡ object.size
  pub values : (k : ℕ) → get_or object.bytes k 0 < 256
  pub tags : length object.tags ≡ object.size / 8
  pub tag : (k : ℕ) → IsSoundTag functions objects (get_or object.tags k Untagged)

-- every object has its bytes and tags, and every tag that is stored is sound
pub record IsSound (functions : ℕ) (objects : Objects) : Type 0 where
  pub at : (n : ℕ) → IsSoundObject functions objects (object_at objects n)

-- some bytes from a place on lie in an object of the list
pub record IsPlace (objects : Objects) (place : Place) (size : ℕ) : Type 0 where
  pub made : place.object < length objects
  pub room : place.offset + size ≤ (object_at objects place.object).size

-- what every action leaves: objects stay where they are, and the dead stay dead
pub record Continues (old new : Objects) : Type 0 where
  pub longer : length old ≤ length new
  pub storage : (n : ℕ) → n < length old → (object_at new n).storage ≡ (object_at old n).storage
  pub address : (n : ℕ) → n < length old → (object_at new n).address ≡ (object_at old n).address
  pub size : (n : ℕ) → n < length old → (object_at new n).size ≡ (object_at old n).size
  pub dead : (n : ℕ) → n < length old → (object_at old n).is_live ≡ false → (object_at new n).is_live ≡ false

-- an access through a pointer that is allowed at a place: some bytes of a live object, at the pointer's address
pub record IsAllowed (objects : Objects) (value : Value) (size : ℕ) (p : Place) : Type 0 where
  pub place : IsPlace objects p size
  pub live : (object_at objects p.object).is_live ≡ true
  pub address : (object_at objects p.object).address + p.offset ≡ value.word

-- two objects that differ in bytes and tags alone
pub record IsSameBut (old new : ObjectState) : Type 0 where
  pub storage : new.storage ≡ old.storage
  pub address : new.address ≡ old.address
  pub size : new.size ≡ old.size
  pub live : new.is_live ≡ old.is_live

-- what every write leaves: the same objects, with other bytes and tags
pub record KeepsObjects (old new : Objects) : Type 0 where
  pub count : length new ≡ length old
  pub at : (n : ℕ) → IsSameBut (object_at old n) (object_at new n)

-- some bytes at one place and some at another are in two objects, or one lies before the other
pub data AreApart (before : Place) (size : ℕ) (after : Place) (count : ℕ) : Type 0 where
  InOthers : after.object ≢ before.object → AreApart before size after count
  Before : after.offset + count ≤ before.offset → AreApart before size after count
  Behind : before.offset + size ≤ after.offset → AreApart before size after count

-- a range of addresses ends before a block, or begins behind it
abbrev pub IsClearOf : (start room : ℕ) → ObjectState → Type 0
IsClearOf start room o = (start + room ≤ o.address) ⊎ (o.address + block_room o.size ≤ start)

-- a range of addresses lies in a heap, clear of every live block
pub record HasRoom (last room : ℕ) (objects : Objects) (start : ℕ) : Type 0 where
  pub in_heap : start + room ≤ last + 1
  pub clear : (n : ℕ) → is_live_block (object_at objects n) ≡ true → IsClearOf start room (object_at objects n)

-- the place of a block in a heap: it lies in the heap, clear of every live block, and no multiple of 16 below it
-- would do
pub record IsBlockPlace (first last size : ℕ) (objects : Objects) (place : ℕ) : Type 0 where
  pub step : ℕ
  pub is_step : place ≡ first + 16 * step
  pub in_heap : place + block_room size ≤ last + 1
  pub clear : (n : ℕ) → is_live_block (object_at objects n) ≡ true
      → IsClearOf place (block_room size) (object_at objects n)
  pub least : (i : ℕ) → i < step → has_room last (block_room size) objects (first + 16 * i) ≡ false

-- a tag that reaches no more than another: the same object or function, and bounds within the other's
abbrev pub IsPartOf : (part whole : Tag) → Type 0
IsPartOf Untagged Untagged = Unit {0}
IsPartOf (OfFunction f) (OfFunction g) = f ≡ g
IsPartOf (OfObject o b) (OfObject n c) = (o ≡ n) × (c.base ≤ b.base) × (b.bound ≤ c.bound)
IsPartOf _ _ = ⊥

-- two ranges that do not meet
abbrev pub DoNotMeet : (start size other count : ℕ) → Type 0
DoNotMeet start size other count = (start + size ≤ other) ⊎ (other + count ≤ start)

-- two objects share no address that they take
abbrev pub AreBeside : (o x : ObjectState) → Type 0
AreBeside o x = DoNotMeet o.address (object_room o.storage o.size) x.address (object_room x.storage x.size)

-- no two live objects share an address that they take, blocks of the heap with their rounded room
pub record AreDisjoint (objects : Objects) : Type 0 where
  pub apart : (m n : ℕ) → m ≢ n → (object_at objects m).is_live ≡ true → (object_at objects n).is_live ≡ true
      → AreBeside (object_at objects m) (object_at objects n)
