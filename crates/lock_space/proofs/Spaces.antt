-- How the lock space lies, and that the runtime may use its spaces.
use Rattle.std.proofs.Common.{◌≡◌, ◌≢◌, ℕ, ◌+◌, ◌*◌, ◌%◌, ◌^◌, ◌<◌, ◌≤◌, true, ap, ◌∙◌}
use Rattle.std.proofs.Common.{arith}
use Rattle.addr_map.specs.declared.region.Region.TheVariants.{Locks, FreeLocks, Blocks, Cells}
use Rattle.addr_map.specs.Places.{MapSizes, AreMapped, spaces_begin, region_size, region_start, region_end}
use Rattle.flat_code.specs.Spaces.{is_allowed}
use Rattle.flat_code.specs.Routines.Objects.StandsFor.{IsLock, global_lock}
use Rattle.flat_code.proofs.Routines.Spaces.Quiet.{space_allowed}
use Rattle.lock_space.specs.Locks.{lock_total}

-- the lock words, then the cells and the list, then the table of blocks
pub record AreLocksLaidOut (s : MapSizes) : Type 0 where
  pub first : spaces_begin ≤ region_start s Locks
  pub aligned : region_start s Locks % 8 ≡ 0
  pub cells : region_start s Locks + 8 + 8 * lock_total s ≤ region_start s FreeLocks
  pub blocks : region_start s FreeLocks + 16 + 8 * lock_total s ≤ region_start s Blocks
  pub inside : region_start s Blocks ≤ region_end s Cells
  pub small : region_start s Blocks < 2 ^ 31

pub locks_laid_out : (s : MapSizes) → AreMapped s → AreLocksLaidOut s
unfolding region_size region_start
locks_laid_out s h = record {
  first = omega arith;
  aligned = omega arith;
  cells = omega arith;
  blocks = omega arith;
  inside = omega arith;
  small = omega (arith, h.globals, h.budgets.stack.greatest, h.budgets.heap.greatest, h.budgets.blocks);
}

-- an access of the runtime's spaces is allowed, at a place that is known by an equation
pub allowed_at : (s : MapSizes) (a b n : ℕ) → a ≡ b → spaces_begin ≤ b → b + n ≤ region_end s Cells
    → is_allowed s a n ≡ true
allowed_at s a b n e lo hi = ap (λ x. is_allowed s x n) e ∙ space_allowed s b n lo hi

-- where a lock word stands that is not the global one
pub record IsOwnLock (s : MapSizes) (a : ℕ) : Type 0 where
  pub begins : region_start s Locks + 8 ≤ a
  pub ends : a + 8 ≤ region_start s Locks + 8 + 8 * lock_total s
  pub aligned : a % 8 ≡ 0

pub own_lock : (s : MapSizes) (a : ℕ) → AreLocksLaidOut s → IsLock s a → a ≢ global_lock s → IsOwnLock s a
own_lock s a lie l ne =
    let f = l.first in let e = l.last in let x = l.aligned in let y = lie.aligned in
    record { begins = omega (arith, ne); ends = omega arith; aligned = l.aligned }
