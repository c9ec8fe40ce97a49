-- The lock words, the counter of keys and the list of free lock words.
use Rattle.std.specs.Prelude.{◌≡◌, ◌≢◌, ℕ, ◌+◌, ◌-◌, ◌*◌, ◌/◌, ◌%◌, ◌^◌, ◌<◌, ◌≤◌}
use Rattle.addr_map.specs.declared.region.Region.TheVariants.{Locks, FreeLocks, Blocks}
use Rattle.addr_map.specs.Places.{MapSizes, region_start}
use Rattle.flat_code.specs.Memory.{Bytes, load, KeepsBut, Keeps}
use Rattle.flat_code.specs.Routines.Objects.StandsFor.{IsLock, global_lock}

-- ---- where they stand

-- all lock words but the global one are handed out: one for each 16 bytes of automatic objects and one for each block
abbrev pub lock_total : MapSizes → ℕ
lock_total map = map.budgets.stack / 16 + map.budgets.blocks

-- two cells, how many keys were made and how many lock words are in use, and behind them the list
abbrev pub keys_cell : MapSizes → ℕ
keys_cell map = region_start map FreeLocks

abbrev pub used_cell : MapSizes → ℕ
used_cell map = region_start map FreeLocks + 8

abbrev pub listed_cell : MapSizes → (i : ℕ) → ℕ
listed_cell map i = region_start map FreeLocks + 16 + 8 * i

-- ---- what they hold

-- keys are counted from 2 on: 0 is no key, and 1 that of all static objects
abbrev pub key_counter : MapSizes → Bytes → ℕ
key_counter map m = 2 + load 8 m (keys_cell map)

abbrev pub used_locks : MapSizes → Bytes → ℕ
used_locks map m = load 8 m (used_cell map)

-- The list has a place for each lock word but the global one; those from the number of used ones on are free. A lock
-- word is kept as the difference from the one that stands at this place when a run begins, modulo 2 ^ 64: bytes of
-- zero are the list of all lock words in order.
abbrev pub first_lock : MapSizes → (i : ℕ) → ℕ
first_lock map i = region_start map Locks + 8 * (i + 1)

abbrev pub listed_lock : MapSizes → Bytes → (i : ℕ) → ℕ
listed_lock map m i = (first_lock map i + load 8 m (listed_cell map i)) % 2 ^ 64

-- a lock word, not the global one, that holds no key
pub record IsFree (map : MapSizes) (memory : Bytes) (address : ℕ) : Type 0 where
  pub lock : IsLock map address
  pub not_global : address ≢ global_lock map
  pub empty : load 8 memory address ≡ 0

-- What holds of the memory whenever a routine is called: the free lock words are just those in the list, each once.
pub record AreLocksGood (map : MapSizes) (memory : Bytes) : Type 0 where
  pub within : used_locks map memory ≤ lock_total map
  pub free : (i : ℕ) → used_locks map memory ≤ i → i < lock_total map → IsFree map memory (listed_lock map memory i)
  pub once : (i j : ℕ) → used_locks map memory ≤ i → i < lock_total map → used_locks map memory ≤ j → j < lock_total map
      → listed_lock map memory i ≡ listed_lock map memory j → i ≡ j
  pub listed : (a : ℕ) → IsFree map memory a
      → (i : ℕ) × (used_locks map memory ≤ i) × (i < lock_total map) × (listed_lock map memory i ≡ a)
  pub global : load 8 memory (global_lock map) ≡ 1

-- ---- the bytes of the lock space: the lock words, the cells and the list

abbrev pub lock_space_size : MapSizes → ℕ
lock_space_size map = region_start map Blocks - region_start map Locks

abbrev pub KeepsButLocks : MapSizes → Bytes → Bytes → Type 0
KeepsButLocks map = KeepsBut (region_start map Locks) (lock_space_size map)

abbrev pub KeepsLocks : MapSizes → Bytes → Bytes → Type 0
KeepsLocks map = Keeps (region_start map Locks) (lock_space_size map)

-- the lock space when a run begins: the global lock word holds 1, and all else is zero
pub record IsLockStart (map : MapSizes) (memory : Bytes) : Type 0 where
  pub global : load 8 memory (global_lock map) ≡ 1
  pub zeros : (a : ℕ) → region_start map Locks + 8 ≤ a → a < region_start map Blocks → memory a ≡ 0
