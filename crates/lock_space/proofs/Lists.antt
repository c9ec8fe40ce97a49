-- The list of free lock words after a lock word was handed out or taken back.
use Rattle.std.proofs.Common.{◌≡◌, ◌≢◌, ℕ, suc, ◌+◌, ◌-◌, ◌/◌, ◌%◌, ◌^◌, ◌<◌, ◌≤◌, ⊎_elim}
use Rattle.std.proofs.Common.{sym, ap, ◌∙◌, subst, arith}
use Rattle.std.proofs.lemmas.Bool.{cases_eq}
use Rattle.addr_map.specs.declared.region.Region.TheVariants.{Locks}
use Rattle.addr_map.specs.Places.{MapSizes, region_start}
use Rattle.flat_code.specs.Memory.{Bytes, load, put}
use Rattle.flat_code.proofs.Stored.{put_same, put_other}
use Rattle.flat_code.specs.Routines.Objects.StandsFor.{IsLock, global_lock}
use Rattle.lock_space.specs.Locks.{lock_total, used_locks, listed_cell, first_lock, listed_lock, IsFree, AreLocksGood}
use Rattle.lock_space.specs.Routines.{OtherLocksStay, CanFresh, CanRelease}
use Rattle.flat_code.proofs.Routines.Spaces.Few.{AreFew, at_most}
use Rattle.lock_space.proofs.Spaces.{AreLocksLaidOut, IsOwnLock, own_lock}

-- the list has an entry as before
same_entry : (s : MapSizes) (m m' : Bytes) (i : ℕ) → load 8 m' (listed_cell s i) ≡ load 8 m (listed_cell s i)
    → listed_lock s m' i ≡ listed_lock s m i
same_entry s m m' i e = ap (λ d. (first_lock s i + d) % 2 ^ 64) e

-- ---- one handed out

-- the first free lock word of the list got a value, and the number of used ones is one more
pub record IsHandedOut (s : MapSizes) (m m' : Bytes) : Type 0 where
  pub used : used_locks s m' ≡ suc (used_locks s m)
  pub entries : (j : ℕ) → j < lock_total s → load 8 m' (listed_cell s j) ≡ load 8 m (listed_cell s j)
  pub others : OtherLocksStay s (listed_lock s m (used_locks s m)) m m'
  pub here : load 8 m' (listed_lock s m (used_locks s m)) ≢ 0

-- some lock word is free, so the list has one
pub one_left : (s : MapSizes) (m : Bytes) → CanFresh s m → used_locks s m < lock_total s
one_left s m can = let at = can.good.listed can.some can.some_free in let a = at.1 in let b = at.2 in omega arith

module _ (s : MapSizes) (m m' : Bytes) (is_lock : IsLock s (global_lock s)) (g : AreLocksGood s m)
    (less : used_locks s m < lock_total s) (h : IsHandedOut s m m') where
  abbrev handed : ℕ
  handed = listed_lock s m (used_locks s m)

  still_free : (a : ℕ) → IsFree s m a → a ≢ handed → IsFree s m' a
  still_free a f ne = record { lock = f.lock; not_global = f.not_global; empty = h.others a f.lock ne ∙ f.empty }

  was_free : (a : ℕ) → IsFree s m' a → (a ≢ handed) × IsFree s m a
  was_free a f =
      let ne : a ≢ handed = λ e. h.here (subst (λ x. load 8 m' x ≡ 0) e f.empty) in
      (ne, record { lock = f.lock; not_global = f.not_global; empty = sym (h.others a f.lock ne) ∙ f.empty })

  not_handed : (j : ℕ) → used_locks s m < j → j < lock_total s → listed_lock s m j ≢ handed
  not_handed j l b e =
      let z = g.once j (used_locks s m) (omega arith) b (omega arith) less e in omega arith

  pub good_handed_out : AreLocksGood s m'
  good_handed_out =
      let u = h.used in
      record {
        within = omega arith;
        free = λ j l b. subst (IsFree s m') (sym (same_entry s m m' j (h.entries j b)))
            (still_free (listed_lock s m j) (g.free j (omega arith) b) (not_handed j (omega arith) b));
        once = λ i j il ib jl jb e. g.once i j (omega arith) ib (omega arith) jb
            (sym (same_entry s m m' i (h.entries i ib)) ∙ e ∙ same_entry s m m' j (h.entries j jb));
        listed = λ a f. let before = was_free a f in let at = g.listed a before.1 in let lo = at.1 in
            let ne : at.0 ≢ used_locks s m = λ e. before.0 (sym at.3 ∙ ap (listed_lock s m) e) in
            (at.0, omega (arith, ne), at.2, same_entry s m m' at.0 (h.entries at.0 at.2) ∙ at.3);
        global = h.others (global_lock s) is_lock
            (λ e. (g.free (used_locks s m) (omega arith) less).not_global (sym e))
            ∙ g.global;
      }

-- ---- one taken back

-- a lock word was emptied and put into the list, and the number of used ones is one less
pub record IsTakenBack (s : MapSizes) (a : ℕ) (m m' : Bytes) : Type 0 where
  pub used : used_locks s m ≡ suc (used_locks s m')
  pub entries : (j : ℕ) → j < lock_total s → j ≢ used_locks s m'
      → load 8 m' (listed_cell s j) ≡ load 8 m (listed_cell s j)
  pub entry : listed_lock s m' (used_locks s m') ≡ a
  pub others : OtherLocksStay s a m m'
  pub here : load 8 m' a ≡ 0

-- the number of a lock word behind the global one
abbrev lock_number : MapSizes → ℕ → ℕ
lock_number s a = (a - region_start s Locks) / 8 - 1

-- the lock words of the list, and one more
abbrev lock_of : MapSizes → Bytes → ℕ → ℕ → ℕ
lock_of s m a i = put (listed_lock s m) (lock_total s) a i

-- A lock word that is used is none of the list, so not all of them are free.
pub one_used : (s : MapSizes) (m : Bytes) (a : ℕ) → AreLocksLaidOut s → CanRelease s m a → 0 < used_locks s m
one_used s m a lie can = ⊎_elim (λ e. absurd (none_used e)) (λ ne. omega (arith, ne)) (cases_eq (used_locks s m) 0)
  where
    own : (i : ℕ) → used_locks s m ≡ 0 → i < suc (lock_total s) → IsOwnLock s (lock_of s m a i)
    own i e l = ⊎_elim
        (λ q. subst (λ x. IsOwnLock s (put (listed_lock s m) (lock_total s) a x)) (sym q)
        (subst (IsOwnLock s) (sym (put_same (listed_lock s m) (lock_total s) a))
        (own_lock s a lie can.lock can.not_global)))
        (λ ne. subst (IsOwnLock s) (sym (put_other (listed_lock s m) (lock_total s) a i ne))
        (let f = can.good.free i (omega arith) (omega (arith, ne)) in
        own_lock s (listed_lock s m i) lie f.lock f.not_global))
        (cases_eq i (lock_total s))

    listed_is_empty : (i : ℕ) → used_locks s m ≡ 0 → i < lock_total s → listed_lock s m i ≢ a
    listed_is_empty i e l q =
        can.used (subst (λ x. load 8 m x ≡ 0) q (can.good.free i (omega arith) l).empty)

    same_place : (i j : ℕ) → used_locks s m ≡ 0 → i < suc (lock_total s) → j < suc (lock_total s)
        → lock_of s m a i ≡ lock_of s m a j → i ≡ j
    same_place i j z il jl e = ⊎_elim
        (λ p. ⊎_elim (λ q. p ∙ sym q)
        (λ nq. absurd (listed_is_empty j z (omega (arith, nq)) (sym (there j nq) ∙ sym e ∙ here i p)))
        (cases_eq j (lock_total s)))
        (λ np. ⊎_elim
        (λ q. absurd (listed_is_empty i z (omega (arith, np)) (sym (there i np) ∙ e ∙ here j q)))
        (λ nq. can.good.once i j (omega arith) (omega (arith, np)) (omega arith) (omega (arith, nq))
        (sym (there i np) ∙ e ∙ there j nq))
        (cases_eq j (lock_total s)))
        (cases_eq i (lock_total s))
      where
        here : (i : ℕ) → i ≡ lock_total s → lock_of s m a i ≡ a
        here i q = subst (λ x. put (listed_lock s m) (lock_total s) a x ≡ a) (sym q)
            (put_same (listed_lock s m) (lock_total s) a)

        there : (i : ℕ) → i ≢ lock_total s → lock_of s m a i ≡ listed_lock s m i
        there i ne = put_other (listed_lock s m) (lock_total s) a i ne

    none_used : used_locks s m ≡ 0 → ⊥
    none_used e =
        let few : AreFew (suc (lock_total s)) (lock_total s) (λ i. lock_number s (lock_of s m a i)) = record {
          below = λ i l. (let o = own i e l in let b = o.begins in let d = o.ends in omega arith);
          once = λ i j il jl q. same_place i j e il jl
              (let o = own i e il in let p = own j e jl in
              let b = o.begins in let c = p.begins in let x = o.aligned in let y = p.aligned in
              let z = lie.aligned in omega arith);
        } in
        let most = at_most (suc (lock_total s)) (lock_total s) (λ i. lock_number s (lock_of s m a i)) few in omega arith

module _ (s : MapSizes) (a : ℕ) (m m' : Bytes) (is_lock : IsLock s (global_lock s)) (can : CanRelease s m a)
    (h : IsTakenBack s a m m') where
  g : AreLocksGood s m
  g = can.good

  free_again : (b : ℕ) → IsFree s m b → IsFree s m' b
  free_again b f =
      let ne : b ≢ a = λ e. can.used (subst (λ x. load 8 m x ≡ 0) e f.empty) in
      record { lock = f.lock; not_global = f.not_global; empty = h.others b f.lock ne ∙ f.empty }

  entry_kept : (j : ℕ) → j < lock_total s → j ≢ used_locks s m' → listed_lock s m' j ≡ listed_lock s m j
  entry_kept j l ne = same_entry s m m' j (h.entries j l ne)

  listed_was_free : (j : ℕ) → used_locks s m' ≤ j → j ≢ used_locks s m' → j < lock_total s → listed_lock s m j ≢ a
  listed_was_free j l ne b e =
      let u = h.used in
      can.used (subst (λ x. load 8 m x ≡ 0) e (g.free j (omega (arith, ne)) b).empty)

  free_listed : (j : ℕ) → used_locks s m' ≤ j → j < lock_total s → IsFree s m' (listed_lock s m' j)
  free_listed j l b = ⊎_elim
      (λ e. subst (λ i. IsFree s m' (listed_lock s m' i)) (sym e) (subst (IsFree s m') (sym h.entry)
      (record { lock = can.lock; not_global = can.not_global; empty = h.here })))
      (λ ne. let u = h.used in subst (IsFree s m') (sym (entry_kept j b ne))
      (free_again (listed_lock s m j) (g.free j (omega (arith, ne)) b)))
      (cases_eq j (used_locks s m'))

  listed_once : (i j : ℕ) → used_locks s m' ≤ i → i < lock_total s → used_locks s m' ≤ j → j < lock_total s
      → listed_lock s m' i ≡ listed_lock s m' j → i ≡ j
  listed_once i j il ib jl jb e = ⊎_elim
      (λ p. ⊎_elim (λ q. p ∙ sym q)
      (λ nq. absurd (listed_was_free j jl nq jb
      (sym (entry_kept j jb nq) ∙ sym e ∙ ap (listed_lock s m') p ∙ h.entry)))
      (cases_eq j (used_locks s m')))
      (λ np. ⊎_elim
      (λ q. absurd (listed_was_free i il np ib
      (sym (entry_kept i ib np) ∙ e ∙ ap (listed_lock s m') q ∙ h.entry)))
      (λ nq. let u = h.used in g.once i j (omega (arith, np)) ib (omega (arith, nq)) jb
      (sym (entry_kept i ib np) ∙ e ∙ entry_kept j jb nq))
      (cases_eq j (used_locks s m')))
      (cases_eq i (used_locks s m'))

  all_listed : (b : ℕ) → IsFree s m' b
      → (i : ℕ) × (used_locks s m' ≤ i) × (i < lock_total s) × (listed_lock s m' i ≡ b)
  all_listed b f = ⊎_elim
      (λ e. let u = h.used in let w = g.within in
      (used_locks s m', omega arith, omega arith, h.entry ∙ sym e))
      (λ ne. let u = h.used in
      let at = g.listed b
      (record { lock = f.lock; not_global = f.not_global; empty = sym (h.others b f.lock ne) ∙ f.empty }) in
      let lo = at.1 in
      let other : at.0 ≢ used_locks s m' = λ e. (omega arith) in
      (at.0, omega arith, at.2, entry_kept at.0 at.2 other ∙ at.3))
      (cases_eq b a)

  pub good_taken_back : AreLocksGood s m'
  good_taken_back =
      let u = h.used in let w = g.within in
      record {
        within = omega arith;
        free = free_listed;
        once = listed_once;
        listed = all_listed;
        global = h.others (global_lock s) is_lock (λ e. can.not_global (sym e)) ∙ g.global;
      }
