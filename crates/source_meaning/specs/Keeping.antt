-- What holds of the objects and accesses of a run.
use Rattle.std.specs.Prelude.{◌≡◌, ℕ, ◌+◌, ◌<◌, ◌≤◌, true, false, List, [], ◌∷◌, length, get_or}
use Rattle.behaviours.specs.Shown.{Access}
use Rattle.obj_memory.specs.declared.value.Bounds.{Bounds}
use Rattle.obj_memory.specs.declared.value.Tag.TheVariants.{OfObject}
use Rattle.obj_memory.specs.declared.value.Value.{Value}
use Rattle.obj_memory.specs.declared.object.Storage.{Storage}
use Rattle.obj_memory.specs.declared.object.Storage.TheVariants.{Static, Automatic, Allocated}
use Rattle.addr_map.specs.declared.region.Region.{Region}
use Rattle.addr_map.specs.declared.region.Region.TheVariants.{Globals, Stack, Heap}
use Rattle.addr_map.specs.Places.{MapSizes, region_start, region_end}
use Rattle.obj_memory.specs.Objects.{ObjectState, Objects, object_at}
use Rattle.obj_memory.specs.Heap.{is_allocated, object_room}
use Rattle.obj_memory.specs.Sound.{IsSound, IsSoundTag, AreDisjoint, Continues}
use Rattle.source_meaning.specs.State.{State}
use Rattle.source_meaning.specs.Actions.{integer}

-- the bytes of an access are bytes of one object
pub record LiesInObject (objects : Objects) (access : Access) : Type 0 where
  pub object : ℕ
  pub made : object < length objects
  pub start : (object_at objects object).address ≤ access.address
  pub end : access.address + access.size ≤ (object_at objects object).address + (object_at objects object).size

abbrev pub AllLie : Objects → List Access → Type 0
AllLie objects [] = Unit {0}
AllLie objects (a ∷ rest) = LiesInObject objects a × AllLie objects rest

-- all objects and stored tags are sound, those of functions each of one of so many, and each access was of bytes of an
-- object
pub record IsKept (functions : ℕ) (objects : Objects) (accesses : List Access) : Type 0 where
  pub sound : IsSound functions objects
  pub lie : AllLie objects accesses

-- the region in which objects of a storage duration stand
abbrev pub region_of : Storage → Region
region_of Static = Globals
region_of Automatic = Stack
region_of Allocated = Heap

-- an object stands in the region of its storage duration, with all bytes that it takes there
pub record IsInRegion (sizes : MapSizes) (object : ObjectState) : Type 0 where
  pub start : region_start sizes (region_of object.storage) ≤ object.address
  pub end : object.address + object_room object.storage object.size ≤ region_end sizes (region_of object.storage)

-- each object of the list, a dead one too, stands in its region
abbrev pub ArePlaced : (sizes : MapSizes) → Objects → Type 0
ArePlaced sizes objects = (n : ℕ) → n < length objects → IsInRegion sizes (object_at objects n)

-- the tags of values are sound
abbrev pub AreTagged : (functions : ℕ) → List Value → Objects → Type 0
AreTagged functions values objects = (x : ℕ) → IsSoundTag functions objects (get_or values x (integer 0)).tag

-- what holds of the objects, plain values and accesses of a state that a run came to: all tags are sound, live objects
-- share no address that they take, all stand in their regions, and so end at 0x60000000 at most, where the heap does
pub record IsSoundState (functions : ℕ) (sizes : MapSizes) (state : State) : Type 0 where
  pub kept : IsKept functions state.objects state.accesses
  pub plain : AreTagged functions state.plain state.objects
  pub apart : AreDisjoint state.objects
  pub placed : ArePlaced sizes state.objects
  pub low : (n : ℕ) → (object_at state.objects n).address + (object_at state.objects n).size ≤ 1610612736

-- objects live on that no `free` ends
pub record LivesOn (old new : Objects) : Type 0 where
  pub continues : Continues old new
  pub live : (n : ℕ) → n < length old → is_allocated (object_at old n).storage ≡ false
      → (object_at old n).is_live ≡ true → (object_at new n).is_live ≡ true

-- a pointer is to some bytes of a live object
pub record IsDirect (objects : Objects) (value : Value) (size : ℕ) : Type 0 where
  pub object : ℕ
  pub bounds : Bounds
  pub tag : value.tag ≡ OfObject object bounds
  pub made : object < length objects
  pub live : (object_at objects object).is_live ≡ true
  pub start : (object_at objects object).address ≤ value.word
  pub end : value.word + size ≤ (object_at objects object).address + (object_at objects object).size

-- of one that no `free` ends
pub record IsNamed (objects : Objects) (value : Value) (size : ℕ) : Type 0 where
  pub direct : IsDirect objects value size
  pub named : is_allocated (object_at objects direct.object).storage ≡ false

-- Live objects share no address that they take, and stand in their regions: those that no `free` ends lie below the top
-- of the object stack, and the blocks of the heap behind all of it.
pub record AreSeparate (sizes : MapSizes) (stacked : ℕ) (objects : Objects) : Type 0 where
  pub apart : AreDisjoint objects
  pub placed : ArePlaced sizes objects
  pub below : (n : ℕ) → (object_at objects n).is_live ≡ true → is_allocated (object_at objects n).storage ≡ false
      → (object_at objects n).address + (object_at objects n).size ≤ stacked
  pub bottom : region_start sizes Stack ≤ stacked
  pub top : stacked ≤ region_end sizes Stack
