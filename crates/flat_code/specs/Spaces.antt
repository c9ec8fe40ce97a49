-- The bytes of memory that flat code may use: object space, and the runtime's spaces but for the arguments of calls and
-- the activation records, which are the back end's.
use Rattle.std.specs.Prelude.{ℕ, ◌+◌, Bool, ◌&&◌, ◌||◌, nat_le}
use Rattle.addr_map.specs.declared.region.Region.TheVariants.{Heap, Cells}
use Rattle.addr_map.specs.Places.{MapSizes, objects_begin, spaces_begin, region_end}

-- whether so many bytes from an address on lie in object space
abbrev pub is_of_objects : MapSizes → (address size : ℕ) → Bool
is_of_objects m a n = nat_le objects_begin a && nat_le (a + n) (region_end m Heap)

-- whether they lie in the spaces of the runtime
abbrev pub is_of_runtime : MapSizes → (address size : ℕ) → Bool
is_of_runtime m a n = nat_le spaces_begin a && nat_le (a + n) (region_end m Cells)

abbrev pub is_allowed : MapSizes → (address size : ℕ) → Bool
is_allowed m a n = is_of_objects m a n || is_of_runtime m a n
