-- The regions stand in order, in whole pages.
use Rattle.std.proofs.Common.{◌≡◌, ℕ, zero, suc, ◌+◌, ◌*◌, ◌%◌, ◌<◌, ◌≤◌, ◌⊎◌, inl, inr, refl, ap, sym, ◌∙◌, subst, arith}
use Rattle.std.proofs.Math.Nat.{eq-or-lt_of_le}
use Rattle.addr_map.specs.declared.region.Region.{Region}
use Rattle.addr_map.specs.declared.region.Region.TheVariants.{JumpTable, Code, Globals, Stack, Heap, Shadow, Locks}
use Rattle.addr_map.specs.declared.region.Region.TheVariants.{FreeLocks, Blocks, StructureValues, Cells}
use Rattle.addr_map.specs.declared.region.Region.TheVariants.{Arguments, Calls, RuntimeCalls}
use Rattle.addr_map.specs.Places.{MapSizes, AreMapped, whole_pages, order_of, region_size, region_start, region_end}
use Rattle.addr_map.specs.Places.{behind_locks}
use Rattle.addr_map.specs.Places.{code_begin, code_size, objects_begin, spaces_begin}

pages_below : (n bound : ℕ) → n + 4095 ≤ bound → whole_pages n ≤ bound
pages_below n bound h = omega (arith, h)

pages_whole : (n : ℕ) → whole_pages n % 4096 ≡ 0
pages_whole n = omega arith

globals_small : (m : MapSizes) → AreMapped m → region_size m Globals ≤ 0x400000
unfolding region_size
globals_small m h = omega (arith, h.globals)

shadow_small : (m : MapSizes) → AreMapped m → region_size m Shadow ≤ 0x8000000
unfolding region_size
shadow_small m h = omega (arith, h.globals, h.budgets.stack.greatest, h.budgets.heap.greatest)

locks_small : (m : MapSizes) → AreMapped m → region_size m Locks ≤ 0x400000
unfolding region_size
locks_small m h = omega (arith, h.budgets.stack.greatest, h.budgets.blocks)

free_locks_small : (m : MapSizes) → AreMapped m → region_size m FreeLocks ≤ 0x400000
unfolding region_size
free_locks_small m h = omega (arith, h.budgets.stack.greatest, h.budgets.blocks)

blocks_small : (m : MapSizes) → AreMapped m → region_size m Blocks ≤ 0x400000
unfolding region_size
blocks_small m h = omega (arith, h.budgets.blocks)

size_whole : (m : MapSizes) → AreMapped m → (r : Region) → region_size m r % 4096 ≡ 0
unfolding region_size
size_whole m h JumpTable = refl
size_whole m h Code = refl
size_whole m h Globals = pages_whole _
size_whole m h Stack = h.budgets.stack.whole
size_whole m h Heap = h.budgets.heap.whole
size_whole m h Shadow = pages_whole _
size_whole m h Locks = pages_whole _
size_whole m h FreeLocks = pages_whole _
size_whole m h Blocks = pages_whole _
size_whole m h StructureValues = h.budgets.calls.whole
size_whole m h Cells = refl
size_whole m h Arguments = refl
size_whole m h Calls = omega (arith, h.budgets.calls.whole)
size_whole m h RuntimeCalls = refl

-- the region of a place in the order
region_at : ℕ → Region
region_at zero = JumpTable
region_at (suc zero) = Code
region_at (suc (suc zero)) = Globals
region_at (suc (suc (suc zero))) = Stack
region_at (suc (suc (suc (suc zero)))) = Heap
region_at (suc (suc (suc (suc (suc zero))))) = Shadow
region_at (suc (suc (suc (suc (suc (suc zero)))))) = Locks
region_at (suc (suc (suc (suc (suc (suc (suc zero))))))) = FreeLocks
region_at (suc (suc (suc (suc (suc (suc (suc (suc zero)))))))) = Blocks
region_at (suc (suc (suc (suc (suc (suc (suc (suc (suc zero))))))))) = StructureValues
region_at (suc (suc (suc (suc (suc (suc (suc (suc (suc (suc zero)))))))))) = Cells
region_at (suc (suc (suc (suc (suc (suc (suc (suc (suc (suc (suc zero))))))))))) = Arguments
region_at (suc (suc (suc (suc (suc (suc (suc (suc (suc (suc (suc (suc zero)))))))))))) = Calls
region_at _ = RuntimeCalls

region_of_order : (r : Region) → region_at (order_of r) ≡ r
unfolding region_at
region_of_order JumpTable = refl
region_of_order Code = refl
region_of_order Globals = refl
region_of_order Stack = refl
region_of_order Heap = refl
region_of_order Shadow = refl
region_of_order Locks = refl
region_of_order FreeLocks = refl
region_of_order Blocks = refl
region_of_order StructureValues = refl
region_of_order Cells = refl
region_of_order Arguments = refl
region_of_order Calls = refl
region_of_order RuntimeCalls = refl

order_small : (r : Region) → order_of r ≤ 13
order_small JumpTable = omega arith
order_small Code = omega arith
order_small Globals = omega arith
order_small Stack = omega arith
order_small Heap = omega arith
order_small Shadow = omega arith
order_small Locks = omega arith
order_small FreeLocks = omega arith
order_small Blocks = omega arith
order_small StructureValues = omega arith
order_small Cells = omega arith
order_small Arguments = omega arith
order_small Calls = omega arith
order_small RuntimeCalls = omega arith

-- the region after another
next : Region → Region
next JumpTable = Code
next Code = Globals
next Globals = Stack
next Stack = Heap
next Heap = Shadow
next Shadow = Locks
next Locks = FreeLocks
next FreeLocks = Blocks
next Blocks = StructureValues
next StructureValues = Cells
next Cells = Arguments
next Arguments = Calls
next Calls = RuntimeCalls
next RuntimeCalls = RuntimeCalls

next_at : (k : ℕ) → k < 13 → next (region_at k) ≡ region_at (suc k)
unfolding next region_at
next_at zero h = refl
next_at (suc zero) h = refl
next_at (suc (suc zero)) h = refl
next_at (suc (suc (suc zero))) h = refl
next_at (suc (suc (suc (suc zero)))) h = refl
next_at (suc (suc (suc (suc (suc zero))))) h = refl
next_at (suc (suc (suc (suc (suc (suc zero)))))) h = refl
next_at (suc (suc (suc (suc (suc (suc (suc zero))))))) h = refl
next_at (suc (suc (suc (suc (suc (suc (suc (suc zero)))))))) h = refl
next_at (suc (suc (suc (suc (suc (suc (suc (suc (suc zero))))))))) h = refl
next_at (suc (suc (suc (suc (suc (suc (suc (suc (suc (suc zero)))))))))) h = refl
next_at (suc (suc (suc (suc (suc (suc (suc (suc (suc (suc (suc zero))))))))))) h = refl
next_at (suc (suc (suc (suc (suc (suc (suc (suc (suc (suc (suc (suc zero)))))))))))) h = refl
next_at (suc (suc (suc (suc (suc (suc (suc (suc (suc (suc (suc (suc (suc k))))))))))))) h = absurd (omega arith)

size_of_jump_table : (m : MapSizes) → region_size m JumpTable ≡ 0xf0000
unfolding region_size
size_of_jump_table m = refl

size_of_code : (m : MapSizes) → region_size m Code ≡ 0x800000
unfolding region_size
size_of_code m = refl

size_of_stack : (m : MapSizes) → region_size m Stack ≡ m.budgets.stack
unfolding region_size
size_of_stack m = refl

size_of_heap : (m : MapSizes) → region_size m Heap ≡ m.budgets.heap
unfolding region_size
size_of_heap m = refl

size_of_calls : (m : MapSizes) → region_size m Calls ≡ 2 * m.budgets.calls
unfolding region_size
size_of_calls m = refl

size_of_values : (m : MapSizes) → region_size m StructureValues ≡ m.budgets.calls
unfolding region_size
size_of_values m = refl

size_of_arguments : (m : MapSizes) → region_size m Arguments ≡ 8192
unfolding region_size
size_of_arguments m = refl

size_of_runtime_calls : (m : MapSizes) → region_size m RuntimeCalls ≡ 65536
unfolding region_size
size_of_runtime_calls m = refl

size_of_cells : (m : MapSizes) → region_size m Cells ≡ 4096
unfolding region_size
size_of_cells m = refl

order_at : (k : ℕ) → k < 13 → order_of (region_at k) ≡ k
unfolding region_at
order_at zero h = refl
order_at (suc zero) h = refl
order_at (suc (suc zero)) h = refl
order_at (suc (suc (suc zero))) h = refl
order_at (suc (suc (suc (suc zero)))) h = refl
order_at (suc (suc (suc (suc (suc zero))))) h = refl
order_at (suc (suc (suc (suc (suc (suc zero)))))) h = refl
order_at (suc (suc (suc (suc (suc (suc (suc zero))))))) h = refl
order_at (suc (suc (suc (suc (suc (suc (suc (suc zero)))))))) h = refl
order_at (suc (suc (suc (suc (suc (suc (suc (suc (suc zero))))))))) h = refl
order_at (suc (suc (suc (suc (suc (suc (suc (suc (suc (suc zero)))))))))) h = refl
order_at (suc (suc (suc (suc (suc (suc (suc (suc (suc (suc (suc zero))))))))))) h = refl
order_at (suc (suc (suc (suc (suc (suc (suc (suc (suc (suc (suc (suc zero)))))))))))) h = refl
order_at (suc (suc (suc (suc (suc (suc (suc (suc (suc (suc (suc (suc (suc k))))))))))))) h = absurd (omega arith)

before_next : (m : MapSizes) → AreMapped m → (r : Region) → order_of r < 13 → region_end m r ≤ region_start m (next r)
unfolding next region_start
before_next m h JumpTable lt = let s : region_size m JumpTable ≡ 0xf0000 = size_of_jump_table m in omega (arith, s)
before_next m h Code lt = let s : region_size m Code ≡ 0x800000 = size_of_code m in omega (arith, s)
before_next m h Globals lt = omega arith
before_next m h Stack lt = omega arith
before_next m h Heap lt =
    let s : region_size m Stack ≡ m.budgets.stack = size_of_stack m in
    let t : region_size m Heap ≡ m.budgets.heap = size_of_heap m in
    omega (arith, globals_small m h, s, t, h.budgets.stack.greatest, h.budgets.heap.greatest)
before_next m h Shadow lt = omega arith
before_next m h Locks lt = omega arith
before_next m h FreeLocks lt = omega arith
before_next m h Blocks lt = omega arith
before_next m h StructureValues lt = omega arith
before_next m h Cells lt = omega arith
before_next m h Arguments lt = omega arith
before_next m h Calls lt = omega arith
before_next m h RuntimeCalls lt = absurd (omega arith)

at_in_order : (m : MapSizes) → AreMapped m → (i j : ℕ) → i < j → j ≤ 13
    → region_end m (region_at i) ≤ region_start m (region_at j)
at_in_order m h i zero lt le = absurd (omega arith)
at_in_order m h i (suc j) lt le = go (eq-or-lt_of_le ij) (λ below. at_in_order m h i j below (omega arith))
  where
    ij : i ≤ j
    ij = omega arith

    step : region_end m (region_at j) ≤ region_start m (region_at (suc j))
    step =
        let small : j < 13 = omega arith in
        subst (λ r. region_end m (region_at j) ≤ region_start m r) (next_at j small)
        (before_next m h (region_at j) (omega (arith, order_at j small, small)))

    go : (i ≡ j) ⊎ (i < j) → (i < j → region_end m (region_at i) ≤ region_start m (region_at j))
        → region_end m (region_at i) ≤ region_start m (region_at (suc j))
    go (inl same) earlier = subst (λ k. region_end m (region_at k) ≤ region_start m (region_at (suc j))) (sym same) step
    go (inr below) earlier = omega (arith, earlier below, step)

pub in_order : (m : MapSizes) → AreMapped m → (r s : Region) → order_of r < order_of s
    → region_end m r ≤ region_start m s
in_order m h r s lt =
    let at = at_in_order m h (order_of r) (order_of s) lt (order_small s) in
    subst (λ q. region_end m q ≤ region_start m s) (region_of_order r)
    (subst (λ q. region_end m (region_at (order_of r)) ≤ region_start m q) (region_of_order s) at)

behind_blocks_whole : (m : MapSizes) → AreMapped m → (behind_locks m + region_size m Blocks) % 4096 ≡ 0
behind_blocks_whole m h = omega
    (arith, size_whole m h Shadow, size_whole m h Locks, size_whole m h FreeLocks, size_whole m h Blocks)

start_whole : (m : MapSizes) → AreMapped m → (r : Region) → region_start m r % 4096 ≡ 0
unfolding region_start
start_whole m h JumpTable = refl
start_whole m h Code = refl
start_whole m h Globals = refl
start_whole m h Stack = omega (arith, size_whole m h Globals)
start_whole m h Heap = omega (arith, size_whole m h Globals, size_whole m h Stack)
start_whole m h Shadow = refl
start_whole m h Locks = omega (arith, size_whole m h Shadow)
start_whole m h FreeLocks = omega (arith, size_whole m h Shadow, size_whole m h Locks)
start_whole m h Blocks = omega (arith, size_whole m h Shadow, size_whole m h Locks, size_whole m h FreeLocks)
start_whole m h StructureValues = omega (arith, behind_blocks_whole m h)
start_whole m h Cells = omega (arith, behind_blocks_whole m h, size_whole m h StructureValues)
start_whole m h Arguments = omega
    (arith, behind_blocks_whole m h, size_whole m h StructureValues, size_whole m h Cells)
start_whole m h Calls = omega
    (arith, behind_blocks_whole m h, size_whole m h StructureValues, size_whole m h Cells, size_whole m h Arguments)
start_whole m h RuntimeCalls = omega (
  arith,
  behind_blocks_whole m h,
  size_whole m h StructureValues,
  size_whole m h Cells,
  size_whole m h Arguments,
  size_whole m h Calls,
)

pub starts_whole : (m : MapSizes) → AreMapped m → (r : Region) → region_start m r % 4096 ≡ 0
starts_whole = start_whole

pub ends_whole : (m : MapSizes) → AreMapped m → (r : Region) → region_end m r % 4096 ≡ 0
ends_whole m h r = omega (arith, start_whole m h r, size_whole m h r)

last_low : (m : MapSizes) → AreMapped m → region_end m RuntimeCalls < 0x60000000
unfolding region_start
last_low m h =
    let c : region_size m Calls ≡ 2 * m.budgets.calls = size_of_calls m in
    let v : region_size m StructureValues ≡ m.budgets.calls = size_of_values m in
    let t : region_size m Cells ≡ 4096 = size_of_cells m in
    let a : region_size m Arguments ≡ 8192 = size_of_arguments m in
    let r : region_size m RuntimeCalls ≡ 65536 = size_of_runtime_calls m in
    omega (
      arith,
      shadow_small m h,
      locks_small m h,
      free_locks_small m h,
      blocks_small m h,
      c,
      v,
      t,
      a,
      r,
      h.budgets.calls.greatest,
    )

pub ends_low : (m : MapSizes) → AreMapped m → (r : Region) → region_end m r < 0x60000000
unfolding region_at
ends_low m h r = go (eq-or-lt_of_le (order_small r))
  where
    go : (order_of r ≡ 13) ⊎ (order_of r < 13) → region_end m r < 0x60000000
    go (inl last) = subst (λ q. region_end m q < 0x60000000) (sym (ap region_at last) ∙ region_of_order r)
        (last_low m h)
    go (inr before) = let first = in_order m h r RuntimeCalls before in omega (arith, first, last_low m h)

-- object space holds the objects and nothing else
globals_first : (m : MapSizes) → region_start m Globals ≡ objects_begin
unfolding region_start
globals_first m = refl

spaces_first : (m : MapSizes) → region_start m Shadow ≡ spaces_begin
unfolding region_start
spaces_first m = refl

from : (m : MapSizes) → AreMapped m → (r s : Region) → order_of r ≤ order_of s → region_start m r ≤ region_start m s
from m h r s le = go (eq-or-lt_of_le le)
  where
    go : (order_of r ≡ order_of s) ⊎ (order_of r < order_of s) → region_start m r ≤ region_start m s
    go (inl same) = subst (λ q. region_start m r ≤ region_start m q)
        (sym (region_of_order r) ∙ ap region_at same ∙ region_of_order s) (omega arith)
    go (inr before) = omega (arith, in_order m h r s before)

pub objects_inside : (m : MapSizes) → AreMapped m → (r : Region) → order_of Globals ≤ order_of r
    → order_of r ≤ order_of Heap
    → (objects_begin ≤ region_start m r) × (region_end m r ≤ spaces_begin)
objects_inside m h r least greatest = (
  omega (arith, from m h Globals r least, globals_first m),
  omega
      (arith, in_order m h r Shadow (omega arith), spaces_first m),
)

pub others_before : (m : MapSizes) → AreMapped m → (r : Region) → order_of r < order_of Globals
    → region_end m r ≤ objects_begin
others_before m h r lt = omega (arith, in_order m h r Globals lt, globals_first m)

pub others_behind : (m : MapSizes) → AreMapped m → (r : Region) → order_of Heap < order_of r
    → spaces_begin ≤ region_start m r
others_behind m h r lt = omega (arith, from m h Shadow r (omega arith), spaces_first m)

pub code_fixed : (m : MapSizes) → (region_start m Code ≡ code_begin) × (region_end m Code ≡ code_begin + code_size)
unfolding region_start region_size
code_fixed m = (refl, refl)
