-- Objects: how they are made and how they die. An object goes by its number, its place in the list of all that were
-- made; the dead stay there.
use Rattle.std.specs.Prelude.{ℕ, ◌+◌, ◌/◌, Bool, true, false, List, [], ◌∷◌, ◌++◌, replicate, get_or, set}
use Rattle.obj_memory.specs.declared.object.Storage.{Storage}
use Rattle.obj_memory.specs.declared.object.Storage.TheVariants.{Static}
use Rattle.obj_memory.specs.declared.value.Tag.{Tag}
use Rattle.obj_memory.specs.declared.value.Tag.TheVariants.{Untagged, OfObject}
use Rattle.obj_memory.specs.declared.value.Value.{Value}

-- an object: its storage duration (C99 6.2.4), its first address, its bytes, and a tag for each of its words, the 8
-- bytes from an offset on that is a multiple of 8. Objects stand at multiples of 16, so that is a multiple of 8 of
-- the address too
pub record ObjectState : Type 0 where
  pub storage : Storage
  pub address : ℕ
  pub size : ℕ
  pub is_live : Bool
  pub bytes : List ℕ
  pub tags : List Tag

-- all objects that were made, in that order
abbrev pub Objects : Type 0
Objects = List ObjectState

-- what is found at a number that no object has
abbrev pub no_object : ObjectState
no_object = record { storage = Static; address = 0; size = 0; is_live = false; bytes = []; tags = [] }

abbrev pub object_at : Objects → ℕ → ObjectState
object_at objects n = get_or objects n no_object

-- a new object has zero bytes and no tags
unfoldable pub new_object : Storage → (address size : ℕ) → ObjectState
new_object storage address size =
    record {
      storage = storage;
      address = address;
      size = size;
      is_live = true;
      bytes = replicate size 0;
      tags = replicate (size / 8) Untagged;
    }

-- the objects with a new one, whose number is the length of the list before
unfoldable pub with_new : Storage → (address size : ℕ) → Objects → Objects
with_new storage address size objects = objects ++ (new_object storage address size ∷ [])

-- the objects after one died
unfoldable pub with_dead : ℕ → Objects → Objects
with_dead n objects = set objects n (record (object_at objects n) { is_live = false })

-- the objects after an initializer set one to zero bytes and no tags
unfoldable pub with_zeroed : ℕ → Objects → Objects
with_zeroed n objects =
    let o = object_at objects n in
    set objects n (record o { bytes = replicate o.size 0; tags = replicate (o.size / 8) Untagged })

-- a pointer to a whole object
unfoldable pub pointer_to : ℕ → Objects → Value
pointer_to n objects =
    let o = object_at objects n in
    record { word = o.address; tag = OfObject n (record { base = o.address; bound = o.address + o.size }) }
