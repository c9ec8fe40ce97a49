-- Where static objects stand, as a table has it.
use Rattle.std.specs.Prelude.{◌≡◌, ℕ, ◌+◌, ◌^◌, ◌≤◌, List, [], ◌∷◌, get_or}
use Rattle.addr_map.specs.Places.{MapSizes}
use Rattle.obj_memory.specs.Heap.{rounded_up}
use Rattle.obj_memory.specs.Objects.{ObjectState}
use Rattle.tac_ir.specs.declared.function.StaticData.{StaticData}
use Rattle.tac_ir.specs.declared.function.Tac.{Tac}
use Rattle.metadata_relation.specs.Blocks.{static_object}
use Rattle.instruction_selection.specs.declared.statics.StaticPlace.{StaticPlace}

abbrev pub place_of : ObjectState → StaticPlace
place_of o = record { address = o.address; size = o.size }

-- a number that no static object has
abbrev pub no_place : StaticPlace
no_place = record { address = 0; size = 0 }

-- the places of static objects, each at a multiple of 16 from an address on
abbrev pub places_from : (first : ℕ) → List StaticData → (offset : ℕ) → List StaticPlace
places_from first [] offset = []
places_from first (d ∷ ds) offset =
    record { address = first + rounded_up 16 offset; size = d.size } ∷ places_from first ds (rounded_up 16 offset + d.size)

-- each static object has its place in a table, and all end below 2^31
pub record AreStaticPlaces (map : MapSizes) (code : Tac) (places : List StaticPlace) : Type 0 where
  pub each : (n : ℕ) → get_or places n no_place ≡ place_of (static_object map code n)
  pub low : (n : ℕ) → (static_object map code n).address + (static_object map code n).size ≤ 2 ^ 31
