-- The lock space by its bytes, and when a run begins.
use Rattle.std.proofs.Common.{◌≡◌, ℕ, zero, suc, ◌+◌, ◌-◌, ◌/◌, ◌%◌, ◌^◌, ◌<◌, ◌≤◌, refl, sym, ap, ◌∙◌, subst, arith}
use Rattle.addr_map.specs.declared.region.Region.TheVariants.{Locks, Blocks}
use Rattle.addr_map.specs.Places.{MapSizes, region_start}
use Rattle.flat_code.specs.Memory.{Bytes, load}
use Rattle.flat_code.proofs.Stored.{load_kept}
use Rattle.flat_code.specs.Routines.Objects.StandsFor.{IsLock, global_lock}
use Rattle.lock_space.specs.Locks.{lock_total, keys_cell, used_cell, listed_cell, key_counter, used_locks, first_lock}
use Rattle.lock_space.specs.Locks.{listed_lock, IsFree, AreLocksGood, KeepsLocks, IsLockStart}
use Rattle.lock_space.proofs.Spaces.{AreLocksLaidOut, own_lock}

-- ---- equal bytes

module _ (s : MapSizes) (m m' : Bytes) (lie : AreLocksLaidOut s) (keep : KeepsLocks s m m') where
  -- a word of the lock space
  word_kept : (a : ℕ) → region_start s Locks ≤ a → a + 8 ≤ region_start s Blocks → load 8 m' a ≡ load 8 m a
  word_kept a lo hi = load_kept 8 m m' a (λ i l.
      (let e : region_start s Locks + (a - region_start s Locks + i) ≡ a + i = omega arith in
      subst (λ b. m' b ≡ m b) e (keep (a - region_start s Locks + i) (omega arith))))

  pub lock_kept : (a : ℕ) → IsLock s a → load 8 m' a ≡ load 8 m a
  lock_kept a l =
      let f = l.first in let e = l.last in let c = lie.cells in let b = lie.blocks in
      word_kept a (omega arith) (omega arith)

  pub counter_kept : key_counter s m' ≡ key_counter s m
  counter_kept =
      let c = lie.cells in let b = lie.blocks in
      ap (λ n. 2 + n) (word_kept (keys_cell s) (omega arith) (omega arith))

  used_kept : used_locks s m' ≡ used_locks s m
  used_kept =
      let c = lie.cells in let b = lie.blocks in
      word_kept (used_cell s) (omega arith) (omega arith)

  entry_kept : (i : ℕ) → i < lock_total s → listed_lock s m' i ≡ listed_lock s m i
  entry_kept i l =
      let c = lie.cells in let b = lie.blocks in
      ap (λ d. (first_lock s i + d) % 2 ^ 64) (word_kept (listed_cell s i) (omega arith) (omega arith))

  free_kept : (a : ℕ) → IsFree s m a → IsFree s m' a
  free_kept a f = record { lock = f.lock; not_global = f.not_global; empty = lock_kept a f.lock ∙ f.empty }

  was_free : (a : ℕ) → IsFree s m' a → IsFree s m a
  was_free a f = record { lock = f.lock; not_global = f.not_global; empty = sym (lock_kept a f.lock) ∙ f.empty }

  pub good_kept : IsLock s (global_lock s) → AreLocksGood s m → AreLocksGood s m'
  good_kept is_lock g =
      let u = used_kept in let w = g.within in
      record {
        within = omega arith;
        free = λ i l b. subst (IsFree s m') (sym (entry_kept i b))
            (free_kept (listed_lock s m i) (g.free i (omega arith) b));
        once = λ i j il ib jl jb e. g.once i j (omega arith) ib (omega arith) jb
            (sym (entry_kept i ib) ∙ e ∙ entry_kept j jb);
        listed = λ a f. (let at = g.listed a (was_free a f) in let lo = at.1 in
            (at.0, omega arith, at.2, entry_kept at.0 at.2 ∙ at.3));
        global = lock_kept (global_lock s) is_lock ∙ g.global;
      }

-- ---- a run begins

zeros_loaded : (n : ℕ) (m : Bytes) (a : ℕ) → ((i : ℕ) → i < n → m (a + i) ≡ 0) → load n m a ≡ 0
unfolding load
zeros_loaded zero m a h = refl
zeros_loaded (suc n) m a h =
    let here : m a ≡ 0 = let e : a + 0 ≡ a = omega arith in subst (λ b. m b ≡ 0) e (h 0 (omega arith)) in
    let rest = zeros_loaded n m (suc a) (λ i l. (let e : a + suc i ≡ suc a + i = omega arith in
    subst (λ b. m b ≡ 0) e (h (suc i) (omega arith)))) in
    omega arith

module _ (s : MapSizes) (m : Bytes) (lie : AreLocksLaidOut s) (start : IsLockStart s m) where
  zero_word : (a : ℕ) → region_start s Locks + 8 ≤ a → a + 8 ≤ region_start s Blocks → load 8 m a ≡ 0
  zero_word a lo hi = zeros_loaded 8 m a (λ i l. start.zeros (a + i) (omega arith) (omega arith))

  pub counter_begins : key_counter s m ≡ 2
  counter_begins =
      let c = lie.cells in let b = lie.blocks in
      ap (λ n. 2 + n) (zero_word (keys_cell s) (omega arith) (omega arith))

  none_used : used_locks s m ≡ 0
  none_used = let c = lie.cells in let b = lie.blocks in zero_word (used_cell s) (omega arith) (omega arith)

  entry_begins : (i : ℕ) → i < lock_total s → listed_lock s m i ≡ first_lock s i
  entry_begins i l =
      let c = lie.cells in let b = lie.blocks in let z = lie.small in
      let e = zero_word (listed_cell s i) (omega arith) (omega arith) in
      ap (λ d. (first_lock s i + d) % 2 ^ 64) e ∙ small_word
    where
      small_word : (first_lock s i + 0) % 2 ^ 64 ≡ first_lock s i
      small_word = let c = lie.cells in let b = lie.blocks in let z = lie.small in omega arith

  free_begins : (i : ℕ) → i < lock_total s → IsFree s m (first_lock s i)
  free_begins i l =
      let c = lie.cells in let b = lie.blocks in let a = lie.aligned in
      record {
        lock = record { first = omega arith; last = omega arith; aligned = omega arith };
        not_global = λ e. omega arith;
        empty = zero_word (first_lock s i) (omega arith) (omega arith);
      }

  pub good_begins : AreLocksGood s m
  good_begins =
      let u = none_used in
      record {
        within = omega arith;
        free = λ i l b. subst (IsFree s m) (sym (entry_begins i b)) (free_begins i b);
        once = λ i j il ib jl jb e.
            (let p : first_lock s i ≡ first_lock s j = sym (entry_begins i ib) ∙ e ∙ entry_begins j jb in omega arith);
        listed = λ a f. (let o = own_lock s a lie f.lock f.not_global in
            let lo = o.begins in let hi = o.ends in let x = o.aligned in let y = lie.aligned in
            let i = (a - region_start s Locks) / 8 - 1 in
            let at : first_lock s i ≡ a = omega arith in
            let below : i < lock_total s = omega arith in
            (i, omega arith, below, entry_begins i below ∙ at));
        global = start.global;
      }
