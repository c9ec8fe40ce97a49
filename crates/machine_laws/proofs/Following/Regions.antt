-- Where the regions of the back end stand, and that flat code uses none of them.
use Rattle.std.proofs.Common.{◌≡◌, ℕ, ◌+◌, ◌*◌, ◌<◌, ◌≤◌, inl, inr, arith}
use Rattle.std.proofs.Common.{⊎_elim, true}
use Rattle.std.specs.Prelude.{nat_le}
use Rattle.std.proofs.lemmas.Bool.{leb-true, and_parts, or_cases}
use Rattle.addr_map.specs.Places.{MapSizes, AreMapped, region_start, region_end, region_size, objects_begin}
use Rattle.addr_map.specs.Places.{spaces_begin}
use Rattle.addr_map.specs.declared.region.Region.TheVariants.{Heap, Cells, Arguments, Calls}
use Rattle.addr_map.specs.declared.region.Region.TheVariants.{RuntimeCalls}
use Rattle.addr_map.proofs.Order.{in_order, ends_low, objects_inside, others_behind}
use Rattle.flat_code.specs.Spaces.{is_of_objects, is_of_runtime, is_allowed}
use Rattle.machine_laws.specs.View.Segments.{IsOfData}
use Rattle.machine_laws.specs.Following.Matching.{object_bytes, space_bytes, IsOfFlat}

pub record AreRegions (m : MapSizes) : Type 0 where
  pub heap_low : objects_begin ≤ region_end m Heap
  pub heap : region_end m Heap ≤ spaces_begin
  pub cells_low : spaces_begin ≤ region_end m Cells
  pub cells : region_end m Cells ≤ region_start m Arguments
  pub arguments : region_start m Arguments + 8192 ≤ region_start m Calls
  pub calls : region_start m Calls + 2 * m.budgets.calls ≤ region_start m RuntimeCalls
  pub end : region_start m RuntimeCalls + region_size m RuntimeCalls < 0x60000000
  pub space : spaces_begin + space_bytes m ≡ region_start m RuntimeCalls + region_size m RuntimeCalls
  pub object : objects_begin + object_bytes m ≡ region_end m Heap

pub regions : (m : MapSizes) → AreMapped m → AreRegions m
unfolding region_size
regions m h =
    let heap_in = objects_inside m h Heap (omega arith) (omega arith) in
    let cells_in = others_behind m h Cells (omega arith) in
    let runtime_in = others_behind m h RuntimeCalls (omega arith) in
    record {
      heap_low = omega (arith, heap_in.0);
      heap = heap_in.1;
      cells_low = omega (arith, cells_in);
      cells = in_order m h Cells Arguments (omega arith);
      arguments = in_order m h Arguments Calls (omega arith);
      calls = in_order m h Calls RuntimeCalls (omega arith);
      end = ends_low m h RuntimeCalls;
      space = omega (arith, runtime_in);
      object = omega (arith, heap_in.0);
    }

-- what is allowed to flat code is one of the data segments' and flat code's own
pub allowed_data : (m : MapSizes) → AreRegions m → (a n : ℕ) → is_allowed m a n ≡ true
    → IsOfData (object_bytes m) (space_bytes m) a n
allowed_data m r a n e = ⊎_elim
    (λ q. let p = and_parts (nat_le objects_begin a) (nat_le (a + n) (region_end m Heap)) q in
    let low = leb-true objects_begin a p.0 in
    let high = leb-true (a + n) (region_end m Heap) p.1 in
    inl (low, omega (arith, r.object)))
    (λ q. let p = and_parts (nat_le spaces_begin a) (nat_le (a + n) (region_end m Cells)) q in
    let low = leb-true spaces_begin a p.0 in
    let high = leb-true (a + n) (region_end m Cells) p.1 in
    inr (low, omega (arith, r.space, r.cells, r.arguments, r.calls)))
    (or_cases (is_of_objects m a n) (is_of_runtime m a n) e)

pub allowed_flat : (m : MapSizes) → (a n i : ℕ) → is_allowed m a n ≡ true → i < n → IsOfFlat m (a + i)
allowed_flat m a n i e lt = ⊎_elim
    (λ q. let p = and_parts (nat_le objects_begin a) (nat_le (a + n) (region_end m Heap)) q in
    let low = leb-true objects_begin a p.0 in
    let high = leb-true (a + n) (region_end m Heap) p.1 in
    inl (omega arith, omega arith))
    (λ q. let p = and_parts (nat_le spaces_begin a) (nat_le (a + n) (region_end m Cells)) q in
    let low = leb-true spaces_begin a p.0 in
    let high = leb-true (a + n) (region_end m Cells) p.1 in
    inr (omega arith, omega arith))
    (or_cases (is_of_objects m a n) (is_of_runtime m a n) e)

-- what is allowed lies before the words of arguments
pub allowed_before : (m : MapSizes) → AreRegions m → (a n : ℕ) → is_allowed m a n ≡ true
    → a + n ≤ region_start m Arguments
allowed_before m r a n e = ⊎_elim
    (λ q. let p = and_parts (nat_le objects_begin a) (nat_le (a + n) (region_end m Heap)) q in
    let high = leb-true (a + n) (region_end m Heap) p.1 in
    omega (arith, r.heap, r.cells_low, r.cells))
    (λ q. let p = and_parts (nat_le spaces_begin a) (nat_le (a + n) (region_end m Cells)) q in
    let high = leb-true (a + n) (region_end m Cells) p.1 in
    omega (arith, r.cells))
    (or_cases (is_of_objects m a n) (is_of_runtime m a n) e)

pub flat_before : (m : MapSizes) → AreRegions m → (a : ℕ) → IsOfFlat m a → a < region_start m Arguments
flat_before m r a h = ⊎_elim
    (λ q. let low = q.0 in let high = q.1 in omega (arith, r.heap, r.cells_low, r.cells))
    (λ q. let high = q.1 in omega (arith, r.cells)) h
