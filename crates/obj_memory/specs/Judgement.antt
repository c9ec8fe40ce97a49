-- The judgement of accesses (SoftBound's spatial check, then CETS's temporal check), and what a pointer may reach.
use Rattle.std.specs.Prelude.{ℕ, ◌+◌, ◌-◌, ◌%◌, ◌^◌, min, max, Bool, ◌&&◌, nat_le, if◌then◌else◌}
use Rattle.obj_memory.specs.declared.value.Bounds.{Bounds}
use Rattle.obj_memory.specs.declared.value.Tag.{Tag}
use Rattle.obj_memory.specs.declared.value.Tag.TheVariants.{Untagged, OfFunction, OfObject}
use Rattle.obj_memory.specs.declared.value.Value.{Value}
use Rattle.obj_memory.specs.declared.value.Place.{Place}
use Rattle.obj_memory.specs.declared.judgement.Verdict.{Verdict}
use Rattle.obj_memory.specs.declared.judgement.Verdict.TheVariants.{Outside, Dead, Inside}
use Rattle.obj_memory.specs.Objects.{Objects, object_at}

-- whether the bytes from an address on are within bounds; the sum does not wrap
abbrev pub are_within : Bounds → (address size : ℕ) → Bool
are_within b address size = nat_le b.base address && nat_le (address + size) b.bound

-- the place of an address in an object
abbrev pub place_in : Objects → (object address : ℕ) → Place
place_in objects object address = record { object = object; offset = address - (object_at objects object).address }

-- an access of some bytes from an address on, by the tag: first the bounds, then the life of the object
abbrev pub judged : (size : ℕ) → Tag → (address : ℕ) → Objects → Verdict
judged size Untagged address objects = Outside
judged size (OfFunction f) address objects = Outside
judged size (OfObject o b) address objects =
    if are_within b address size
    then (if (object_at objects o).is_live then Inside (place_in objects o address) else Dead)
    else Outside

-- an access of some bytes, at least one, through a pointer
unfoldable pub judge : (size : ℕ) → Value → Objects → Verdict
judge size v objects = judged size v.tag v.word objects

-- the place of an address by the tag alone
abbrev pub named_in : Tag → (address : ℕ) → Objects → Verdict
named_in Untagged address objects = Outside
named_in (OfFunction f) address objects = Outside
named_in (OfObject o b) address objects = Inside (place_in objects o address)

-- an access that names its object, which is not judged: its place
unfoldable pub named : Value → Objects → Verdict
named v objects = named_in v.tag v.word objects

-- a pointer moved by some bytes: the address wraps, the tag stays
unfoldable pub moved : (offset : ℕ) → Value → Value
moved offset v = record { word = (v.word + offset) % 2 ^ 64; tag = v.tag }

-- bounds that meet the bytes from an address on
abbrev pub narrowed_tag : (address size : ℕ) → Tag → Tag
narrowed_tag address size Untagged = Untagged
narrowed_tag address size (OfFunction f) = OfFunction f
narrowed_tag address size (OfObject o b) =
    OfObject o (record { base = max b.base address; bound = min b.bound (address + size) })

-- a pointer to a member of what a pointer points to: its bounds are where the old ones meet the member's bytes
unfoldable pub narrowed : (offset size : ℕ) → Value → Value
narrowed offset size v =
    let address = (v.word + offset) % 2 ^ 64 in
    record { word = address; tag = narrowed_tag address size v.tag }
