-- Where areas lie.
use Rattle.std.proofs.Common.{ℕ, ◌+◌, ◌^◌, ◌<◌, ◌≤◌, refl, arith}
use Rattle.addr_map.specs.declared.region.Region.TheVariants.{Shadow, StructureValues, Cells}
use Rattle.addr_map.specs.Places.{MapSizes, AreMapped, spaces_begin, region_size, region_start, region_end}
use Rattle.lock_space.proofs.Spaces.{allowed_at}
use Rattle.lib_wrappers.specs.MovingRoutines.Moving.{IsUsableRange}
use Rattle.lib_wrappers.specs.AreaRoutines.Areas.{IsAreaPlace, area_bytes}
use Rattle.lib_wrappers.proofs.AreaRoutines.Bodies.{IsSpaceRange}

pub record IsStructureSpace (map : MapSizes) : Type 0 where
  pub behind : spaces_begin + region_size map Shadow ≤ region_start map StructureValues
  pub inside : region_end map StructureValues ≤ region_end map Cells
  pub small : region_end map StructureValues < 2 ^ 31

pub structure_space : (map : MapSizes) → AreMapped map → IsStructureSpace map
unfolding region_size region_start
structure_space map h = record {
  behind = omega arith;
  inside = omega arith;
  small = omega
      (arith, h.globals, h.budgets.stack.greatest, h.budgets.heap.greatest, h.budgets.blocks, h.budgets.calls.greatest);
}

-- a part of an area may be used
pub part_of_area : (map : MapSizes) → AreMapped map → (size a offset n : ℕ) → IsAreaPlace map size a
    → offset + n ≤ area_bytes size → IsSpaceRange map (a + offset) n
part_of_area map mapped size a offset n p l =
    let s = structure_space map mapped in
    let first = p.first in let last = p.last in
    let behind = s.behind in let inside = s.inside in let small = s.small in
    record { first = omega arith; last = omega arith; small = omega arith }

pub space_usable : (map : MapSizes) (a n : ℕ) → IsSpaceRange map a n → a + n < 2 ^ 62 → IsUsableRange map a n
space_usable map a n r l =
    let first = r.first in let last = r.last in
    record {
      usable = λ i il. allowed_at map (a + i) (a + i) 1 refl (omega arith) (omega arith);
      small = l;
    }
