-- How much memory the segments of an image take.
use Rattle.std.proofs.Common.{ap, ℕ, ◌+◌, ◌*◌, ◌<◌, ◌≤◌, List, length, map, arith}
use Rattle.std.proofs.Common.{length-append, ◌++◌, true}
use Rattle.std.proofs.lemmas.List.{length-map}
use Rattle.addr_map.specs.Places.{MapSizes, AreMapped, region_size, region_start}
use Rattle.addr_map.specs.declared.region.Region.TheVariants.{Shadow, Locks, FreeLocks, Blocks}
use Rattle.addr_map.specs.declared.region.Region.TheVariants.{StructureValues, Cells, Arguments, Calls, RuntimeCalls}
use Rattle.rv_isa.specs.Table.{word_of}
use Rattle.elf_image.specs.Writing.{IsInOrder}
use Rattle.flat_code.specs.declared.function.FlatProgram.{FlatProgram}
use Rattle.reg_plan.specs.declared.plan.FunctionPlan.{FunctionPlan}
use Rattle.machine_laws.specs.Following.Matching.{object_bytes, space_bytes}
use Rattle.machine_laws.specs.Following.Start.{start_block}
use Rattle.machine_laws.proofs.Following.Regions.{regions}
use Rattle.machine_laws.proofs.CodeLayout.Bytes.{bytes_length}
use Rattle.machine_laws.specs.Calls.Table.{source_count}
use Rattle.machine_laws.specs.Segments.Segments.{table_words, code_words}
use Rattle.machine_laws.specs.Segments.Segments.{FitsSegments}
use Rattle.machine_laws.proofs.Segments.Standing.{start_stands}
use Rattle.rv_codegen.specs.MachineImages.Image.{written}

-- ---- data

objects_size : (m : MapSizes) → AreMapped m → object_bytes m ≤ 0x1800000
unfolding region_size region_start
objects_size m h = omega (arith, h.globals, h.budgets.stack.greatest, h.budgets.heap.greatest)

shadow_size : (m : MapSizes) → AreMapped m → region_size m Shadow ≤ 0x8000000
unfolding region_size
shadow_size m h = omega (arith, h.globals, h.budgets.stack.greatest, h.budgets.heap.greatest)

locks_size : (m : MapSizes) → AreMapped m → region_size m Locks ≤ 0x400000
unfolding region_size
locks_size m h = omega (arith, h.budgets.stack.greatest, h.budgets.blocks)

free_locks_size : (m : MapSizes) → AreMapped m → region_size m FreeLocks ≤ 0x400000
unfolding region_size
free_locks_size m h = omega (arith, h.budgets.stack.greatest, h.budgets.blocks)

blocks_size : (m : MapSizes) → AreMapped m → region_size m Blocks ≤ 0x400000
unfolding region_size
blocks_size m h = omega (arith, h.budgets.blocks)

others_size : (m : MapSizes) → AreMapped m
    → region_size m StructureValues + region_size m Cells + region_size m Arguments + region_size m Calls
    + region_size m RuntimeCalls ≤ 0x3020000
unfolding region_size
others_size m h = omega (arith, h.budgets.calls.greatest)

spaces_size : (m : MapSizes) → AreMapped m → space_bytes m ≤ 0xc000000
unfolding region_start
spaces_size m h = omega (arith, shadow_size m h, locks_size m h, free_locks_size m h, blocks_size m h, others_size m h)

-- ---- code

-- the start stands behind as many entries of four words as there are functions at most
table_length : (m : MapSizes) (p : FlatProgram) (plans : List FunctionPlan)
    → 4 * source_count p < length (table_words m p plans)
table_length m p plans =
    let s = start_stands m p plans in
    let whole = ap length s.is in
    let a = length-append s.before (map word_of (start_block m p) ++ s.behind) in
    let b = length-append (map word_of (start_block m p)) s.behind in
    let at_is = s.at_is in
    let long = length-map (start_block m p) word_of in
    omega arith

-- ---- together

pub in_order : (m : MapSizes) (p : FlatProgram) (plans : List FunctionPlan) (objects spaces : List ℕ) → AreMapped m
    → FitsSegments m p plans → length objects ≤ object_bytes m → length spaces ≤ space_bytes m
    → IsInOrder (written m p plans objects spaces)
unfolding written
in_order m p plans objects spaces mapped fits few few' =
    let r = regions m mapped in
    let a = bytes_length (table_words m p plans) in
    let b = bytes_length (code_words m p plans) in
    let table = fits.table in
    let code = fits.code in
    let entry = table_length m p plans in
    let o = objects_size m mapped in
    let s = spaces_size m mapped in
    record {
      jump_table_bytes = omega arith;
      code_bytes = omega arith;
      objects_bytes = few;
      runtime_bytes = few';
      jump_table_first = omega arith;
      code_next = omega arith;
      objects_next = omega arith;
      runtime_last = omega arith;
      runtime_address = omega arith;
      together = omega arith;
      aligned = omega arith;
      entry_from = omega arith;
      entry_below = omega arith;
    }
