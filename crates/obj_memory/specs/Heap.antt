-- Where `malloc` places a block (C99 7.20.3.3): at the least multiple of 16 of the heap at which it meets no live
-- block.
use Rattle.std.specs.Prelude.{ℕ, zero, suc, ◌+◌, ◌-◌, ◌*◌, ◌/◌, max, Bool, true, false, ◌&&◌, ◌||◌, not, nat_le}
use Rattle.std.specs.Prelude.{if◌then◌else◌, [], ◌∷◌, Option, Some, None}
use Rattle.obj_memory.specs.declared.object.Storage.{Storage}
use Rattle.obj_memory.specs.declared.object.Storage.TheVariants.{Static, Automatic, Allocated}
use Rattle.obj_memory.specs.Objects.{ObjectState, Objects}

-- the least multiple of a number that is not below another
abbrev pub rounded_up : (unit n : ℕ) → ℕ
rounded_up unit n = (n + (unit - 1)) / unit * unit

-- the bytes that a block of some size takes
abbrev pub block_room : (size : ℕ) → ℕ
block_room size = max 16 (rounded_up 16 size)

-- whether an object came from the heap, and is not freed
abbrev pub is_allocated : Storage → Bool
is_allocated Static = false
is_allocated Automatic = false
is_allocated Allocated = true

-- the bytes that an object takes where it stands: as many as it has, and a block of the heap its rounded room
abbrev pub object_room : Storage → (size : ℕ) → ℕ
object_room Static size = size
object_room Automatic size = size
object_room Allocated size = block_room size

abbrev pub is_live_block : ObjectState → Bool
is_live_block o = is_allocated o.storage && o.is_live

-- the number of live blocks
unfoldable pub block_count : Objects → ℕ
block_count [] = 0
block_count (o ∷ os) = (if is_live_block o then 1 else 0) + block_count os

-- whether a range of addresses meets no live block
abbrev pub is_clear_of : (start room : ℕ) → ObjectState → Bool
is_clear_of start room o =
    not (is_live_block o) || (nat_le (start + room) o.address || nat_le (o.address + block_room o.size) start)

unfoldable pub is_clear : (start room : ℕ) → Objects → Bool
is_clear start room [] = true
is_clear start room (o ∷ os) = is_clear_of start room o && is_clear start room os

-- whether a range begins a block in the heap up to its last address
abbrev pub has_room : (last room : ℕ) → Objects → (start : ℕ) → Bool
has_room last room objects start = nat_le (start + room) (last + 1) && is_clear start room objects

-- the least place of a block among so many multiples of 16, this one and those after it
abbrev pub least_from : (count start last room : ℕ) → Objects → Option ℕ
least_from zero start last room objects = None
least_from (suc k) start last room objects =
    if has_room last room objects start then Some start else least_from k (start + 16) last room objects

-- the place of a block of some size in the heap from its first address, a multiple of 16, to its last
unfoldable pub least_place : (first last size : ℕ) → Objects → Option ℕ
least_place first last size objects = least_from ((last + 1 - first) / 16) first last (block_room size) objects
