-- How the table of live blocks and the heap lie.
use Rattle.std.proofs.Common.{◌≡◌, ◌+◌, ◌*◌, ◌%◌, ◌^◌, ◌<◌, ◌≤◌, arith}
use Rattle.addr_map.specs.declared.region.Region.TheVariants.{Heap, Blocks, Cells}
use Rattle.addr_map.specs.Places.{MapSizes, AreMapped, objects_begin, spaces_begin, region_size, region_start}
use Rattle.addr_map.specs.Places.{region_last, region_end}

pub record IsTableLaidOut (s : MapSizes) : Type 0 where
  pub first : spaces_begin ≤ region_start s Blocks
  pub ends : 8 + 32 * s.budgets.blocks ≤ region_size s Blocks
  pub inside : region_start s Blocks + region_size s Blocks ≤ region_end s Cells
  pub small : region_end s Cells < 2 ^ 32
  pub heap_first : objects_begin ≤ region_start s Heap
  pub heap_aligned : region_start s Heap % 16 ≡ 0
  pub heap_some : region_start s Heap + 4096 ≤ region_end s Heap
  pub heap_small : region_end s Heap < 2 ^ 31
  pub some_block : 1 ≤ s.budgets.blocks
  pub few : s.budgets.blocks ≤ 65536

pub table_laid_out : (s : MapSizes) → AreMapped s → IsTableLaidOut s
unfolding region_size region_start
table_laid_out s h = record {
  first = omega arith;
  ends = omega arith;
  inside = omega arith;
  small = omega (
    arith,
    h.globals,
    h.budgets.stack.greatest,
    h.budgets.heap.greatest,
    h.budgets.blocks,
    h.budgets.calls.greatest,
  );
  heap_first = omega arith;
  heap_aligned = omega (arith, h.budgets.stack.whole);
  heap_some = omega (arith, h.budgets.heap.least);
  heap_small = omega (arith, h.globals, h.budgets.stack.greatest, h.budgets.heap.greatest);
  some_block = h.budgets.some_block;
  few = h.budgets.blocks;
}

-- the last address of the heap
pub last_of_heap : (s : MapSizes) → IsTableLaidOut s → region_last s Heap + 1 ≡ region_end s Heap
last_of_heap s lie = let some = lie.heap_some in omega arith
