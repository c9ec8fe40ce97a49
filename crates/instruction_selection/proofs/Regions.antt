-- Regions that stand one behind the other.
use Rattle.std.proofs.Common.{◌≡◌, ◌≤◌, ◌^◌, refl, arith}
use Rattle.addr_map.specs.declared.region.Region.TheVariants.{Globals, Heap, Stack}
use Rattle.addr_map.specs.Places.{MapSizes, region_start, region_end}

-- the object stack ends where the heap begins
pub stack_ends : (m : MapSizes) → region_start m Heap ≡ region_end m Stack
unfolding region_start
stack_ends m = refl

pub globals_begin : (m : MapSizes) → region_start m Globals ≤ 2 ^ 30
unfolding region_start
globals_begin m = omega arith
