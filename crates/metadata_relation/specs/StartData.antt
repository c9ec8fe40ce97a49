-- What a file has of the static objects: the entries of the pointers that they hold, and their bytes.
use Rattle.std.specs.Prelude.{◌≡◌, ℕ, ◌+◌, ◌-◌, ◌^◌, ◌<◌, ◌≤◌, List, [], ◌∷◌, ◌++◌, replicate, get_or}
use Rattle.addr_map.specs.declared.region.Region.TheVariants.{Locks, StructureValues}
use Rattle.addr_map.specs.Places.{MapSizes, objects_begin, region_start, function_address}
use Rattle.obj_memory.specs.declared.value.Tag.{Tag}
use Rattle.obj_memory.specs.declared.value.Tag.TheVariants.{Untagged, OfFunction, OfObject}
use Rattle.obj_memory.specs.Heap.{rounded_up}
use Rattle.tac_ir.specs.declared.function.StaticData.{StaticData}
use Rattle.flat_code.specs.Memory.{Bytes}
use Rattle.flat_code.specs.Routines.Metadata.{View}
use Rattle.shadow_space.specs.declared.start.StartEntry.{StartEntry}
use Rattle.shadow_space.specs.Start.{IsStarted}

-- The entry of a word that holds a tag. The key of a function's pointer has the highest bit, and a number for its type;
-- every static object has key 1 and the global lock word.
abbrev pub entry_of_tag : (types : ℕ → ℕ) → (lock address : ℕ) → Tag → List StartEntry
entry_of_tag types lock a Untagged = []
entry_of_tag types lock a (OfFunction f) =
    record {
      at = a;
      base = function_address f;
      bound = function_address f;
      key = 2 ^ 63 + types f;
      lock = 0;
    } ∷ []
entry_of_tag types lock a (OfObject o b) =
    record { at = a; base = b.base; bound = b.bound; key = 1; lock = lock } ∷ []

-- those of words from an address on
abbrev pub entries_of_tags : (types : ℕ → ℕ) → (lock address : ℕ) → List Tag → List StartEntry
entries_of_tags types lock a [] = []
entries_of_tags types lock a (t ∷ ts) = entry_of_tag types lock a t ++ entries_of_tags types lock (a + 8) ts

-- those of static objects, each at a multiple of 16 from an address on, behind so many bytes
abbrev pub entries_of_statics : (types : ℕ → ℕ) → (lock first : ℕ) → List StaticData → (offset : ℕ) → List StartEntry
entries_of_statics types lock first [] offset = []
entries_of_statics types lock first (d ∷ ds) offset =
    entries_of_tags types lock (first + rounded_up 16 offset) d.tags
    ++ entries_of_statics types lock first ds (rounded_up 16 offset + d.size)

-- their bytes, with zeros between them
abbrev pub bytes_of_statics : List StaticData → (offset : ℕ) → List ℕ
bytes_of_statics [] offset = []
bytes_of_statics (d ∷ ds) offset =
    replicate (rounded_up 16 offset - offset) 0
    ++ (d.bytes ++ bytes_of_statics ds (rounded_up 16 offset + d.size))

-- how many bytes they take together
abbrev pub statics_end : List StaticData → (offset : ℕ) → ℕ
statics_end [] offset = offset
statics_end (d ∷ ds) offset = statics_end ds (rounded_up 16 offset + d.size)

-- the region of static objects begins with their bytes
pub record HoldsStatics (statics : List StaticData) (memory : Bytes) : Type 0 where
  pub by : (i : ℕ) → i < statics_end statics 0
      → memory (objects_begin + i) ≡ get_or (bytes_of_statics statics 0) i 0

-- what a file has of the runtime's spaces: the shadow space as its form begins it, and behind it zeros up to the areas of
-- structures
pub record AreSpacesInFile (map : MapSizes) (entry : View) (IsGood : Bytes → Type 0) (es : List StartEntry)
    (memory : Bytes) : Type 0 where
  pub shadow : IsStarted map entry IsGood es memory
  pub zeros : (a : ℕ) → region_start map Locks ≤ a → a < region_start map StructureValues → memory a ≡ 0
