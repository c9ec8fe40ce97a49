-- A lock word is taken back.
use Rattle.std.proofs.Common.{◌≡◌, ◌≢◌, ℕ, suc, ◌+◌, ◌-◌, ◌*◌, ◌%◌, ◌^◌, ◌<◌, ◌≤◌, [], ◌∷◌, inl, inr}
use Rattle.std.proofs.Common.{⊎_elim, refl, sym, ap, ◌∙◌, subst, arith}
use Rattle.std.proofs.lemmas.Bool.{cases_lt}
use Rattle.addr_map.specs.declared.region.Region.TheVariants.{Locks, FreeLocks}
use Rattle.addr_map.specs.Places.{MapSizes, AreMapped, region_start}
use Rattle.rv_isa.specs.Results.{reg_result, extended}
use Rattle.flat_code.specs.Memory.{Bytes, put, load, store}
use Rattle.flat_code.specs.State.{State}
use Rattle.flat_code.specs.Meaning.{Context}
use Rattle.flat_code.proofs.Stored.{load_beside, load_stored}
use Rattle.flat_code.specs.Routines.Registers.{AreBelow}
use Rattle.flat_code.specs.Routines.Effects.{effects, AreAllowed}
use Rattle.flat_code.specs.Routines.Renaming.{through}
use Rattle.flat_code.specs.Routines.Metadata.{ShowsNothing}
use Rattle.flat_code.proofs.Routines.Distinct.{AreRegisters, register_of, registers_rename, others_stay}
use Rattle.flat_code.proofs.Routines.Wrapped.{straight_routine}
use Rattle.flat_code.proofs.Routines.Regions.{IsLaidOut, laid_out, shadow_not_shown}
use Rattle.flat_code.proofs.Routines.Objects.Changing.{global_is_lock}
use Rattle.shadow_space.proofs.Entries.{context_of, agrees_shows, agrees_memory}
use Rattle.lock_space.specs.Locks.{lock_total, keys_cell, used_cell, listed_cell, key_counter, used_locks, first_lock}
use Rattle.lock_space.specs.Locks.{listed_lock, AreLocksGood, lock_space_size, KeepsButLocks}
use Rattle.lock_space.specs.Routines.{OtherLocksStay, HasReleased, CanRelease, IsReleaseRoutine, release_code}
use Rattle.lock_space.proofs.Spaces.{AreLocksLaidOut, locks_laid_out, allowed_at, own_lock}
use Rattle.lock_space.proofs.Lists.{IsTakenBack, one_used, good_taken_back}
use Rattle.lock_space.proofs.NewKeys.{store_three, same_three, three_beside, three_within}

-- what the routine finds: the lock word, and how many are in use behind it
record IsInUse (s : MapSizes) (m : Bytes) (a n : ℕ) : Type 0 where
  used : load 8 m (used_cell s) ≡ suc n
  less : n < lock_total s
  begins : region_start s Locks + 8 ≤ a
  ends : a + 8 ≤ region_start s Locks + 8 + 8 * lock_total s
  aligned : a % 8 ≡ 0

-- the difference from the lock word that stands at place n when a run begins
abbrev difference_at : MapSizes → (a n : ℕ) → ℕ
difference_at s a n = (a + (2 ^ 64 - first_lock s n)) % 2 ^ 64

abbrev released_memory : MapSizes → Bytes → (a n : ℕ) → Bytes
released_memory s m a n = store_three m a 0 (used_cell s) n (listed_cell s n) (difference_at s a n)

module _ (c : Context) (ok : IsLaidOut c.sizes) (lie : AreLocksLaidOut c.sizes) (v : State) (n : ℕ)
    (h : IsInUse c.sizes v.memory (v.values 0) n) where
  release_does_alone : AreAllowed c (release_code c.sizes 0 1 2 3) v
      × ((effects c (release_code c.sizes 0 1 2 3) v).memory ≡ released_memory c.sizes v.memory (v.values 0) n)
      × ShowsNothing v (effects c (release_code c.sizes 0 1 2 3) v)
  unfolding put reg_result extended
  release_does_alone =
      let f = lie.first in let d = lie.cells in let b = lie.blocks in let i = lie.inside in let s = lie.small in
      let less = h.less in let lo = h.begins in let hi = h.ends in
      let F = region_start c.sizes FreeLocks in let L = region_start c.sizes Locks in
      let m = v.memory in let a = v.values 0 in
      let at0 : (a + 0) % 2 ^ 64 ≡ a = omega arith in
      let at1 : (F % 2 ^ 64 + 8) % 2 ^ 64 ≡ F + 8 = omega arith in
      let m1 = store 8 m ((a + 0) % 2 ^ 64) 0 in
      let got : load 8 m1 ((F % 2 ^ 64 + 8) % 2 ^ 64) ≡ suc n =
      load_beside 8 8 m ((a + 0) % 2 ^ 64) ((F % 2 ^ 64 + 8) % 2 ^ 64) 0 (inr (omega arith))
      ∙ ap (load 8 m) at1 ∙ h.used in
      let rest : (load 8 m1 ((F % 2 ^ 64 + 8) % 2 ^ 64) + (2 ^ 64 - 1)) % 2 ^ 64 ≡ n = omega arith in
      let at2 : (((F % 2 ^ 64) + (load 8 m1 ((F % 2 ^ 64 + 8) % 2 ^ 64) * 8) % 2 ^ 64) % 2 ^ 64 + 8) % 2 ^ 64
      ≡ F + 16 + 8 * n = omega arith in
      let value : (a + (2 ^ 64 - ((load 8 m1 ((F % 2 ^ 64 + 8) % 2 ^ 64) * 8) % 2 ^ 64 + L % 2 ^ 64) % 2 ^ 64)) % 2 ^ 64
      ≡ difference_at c.sizes a n = omega arith in
      let allowed0 = allowed_at c.sizes _ a 8 at0 (omega arith) (omega arith) in
      let allowed1 = allowed_at c.sizes _ (F + 8) 8 at1 (omega arith) (omega arith) in
      let allowed2 = allowed_at c.sizes _ (F + 16 + 8 * n) 8 at2 (omega arith) (omega arith) in (
        (tt, (allowed0, (tt, (allowed1, (tt, (allowed1, (tt, (tt, (tt, (tt, (allowed2, tt))))))))))),
        same_three m _ _ _ _ _ _ a 0 (F + 8) n (F + 16 + 8 * n) (difference_at c.sizes a n) at0 refl at1 rest at2 value,
        record {
          input = refl;
          output = refl;
          taken = refl;
          accesses = shadow_not_shown c _ 8 _ _ ok (omega arith) ∙ shadow_not_shown c _ 8 _ _ ok (omega arith)
              ∙ shadow_not_shown c _ 8 _ _ ok (omega arith) ∙ shadow_not_shown c _ 8 _ _ ok (omega arith);
          turns = refl;
        },
      )

-- ---- what it does to the lock space

module _ (s : MapSizes) (m : Bytes) (lie : AreLocksLaidOut s) (a n : ℕ) (h : IsInUse s m a n) where
  abbrev released : Bytes
  released = released_memory s m a n

  released_counter : key_counter s released ≡ key_counter s m
  released_counter =
      let hi = h.ends in let c = lie.cells in
      ap (λ k. 2 + k)
      (three_beside m a 0 (used_cell s) n (listed_cell s n) (difference_at s a n) (keys_cell s) (inr (omega arith))
      (inl (omega arith)) (inl (omega arith)))

  released_here : load 8 released a ≡ 0
  released_here =
      let hi = h.ends in let c = lie.cells in
      load_beside 8 8 (store 8 (store 8 m a 0) (used_cell s) n) (listed_cell s n) a (difference_at s a n)
      (inl (omega arith))
      ∙ load_beside 8 8 (store 8 m a 0) (used_cell s) a n (inl (omega arith))
      ∙ load_stored 8 m a 0 (omega arith)

  released_others : OtherLocksStay s a m released
  released_others b lock ne =
      let x = lock.aligned in let l = lock.last in let c = lie.cells in let y = h.aligned in
      three_beside m a 0 (used_cell s) n (listed_cell s n) (difference_at s a n) b
      (⊎_elim (λ l. inl (omega arith)) (λ r. inr (omega (arith, ne))) (cases_lt b a)) (inl (omega arith))
      (inl (omega arith))

  released_used : used_locks s released ≡ n
  released_used =
      let c = lie.cells in let b = lie.blocks in let z = lie.small in let l = h.less in
      load_beside 8 8 (store 8 (store 8 m a 0) (used_cell s) n) (listed_cell s n) (used_cell s) (difference_at s a n)
      (inl (omega arith))
      ∙ load_stored 8 (store 8 m a 0) (used_cell s) n (omega arith)

  released_entry : listed_lock s released n ≡ a
  released_entry =
      let c = lie.cells in let b = lie.blocks in let z = lie.small in let l = h.less in let hi = h.ends in
      let d : load 8 released (listed_cell s n) ≡ difference_at s a n =
      load_stored 8 (store 8 (store 8 m a 0) (used_cell s) n) (listed_cell s n) (difference_at s a n) (omega arith) in
      omega arith

  other_entries : (j : ℕ) → j < lock_total s → j ≢ n → load 8 released (listed_cell s j) ≡ load 8 m (listed_cell s j)
  other_entries j l ne =
      let hi = h.ends in let c = lie.cells in
      three_beside m a 0 (used_cell s) n (listed_cell s n) (difference_at s a n) (listed_cell s j) (inr (omega arith))
      (inr (omega arith)) (⊎_elim (λ l. inl (omega arith)) (λ r. inr (omega (arith, ne))) (cases_lt j n))

  taken_back : IsTakenBack s a m released
  taken_back =
      let u = released_used in
      record {
        used = h.used ∙ ap suc (sym u);
        entries = λ j l ne. other_entries j l (λ e. ne (e ∙ sym u));
        entry = ap (listed_lock s released) u ∙ released_entry;
        others = released_others;
        here = released_here;
      }

  released_within : KeepsButLocks s m released
  released_within =
      let lo = h.begins in let hi = h.ends in let c = lie.cells in let b = lie.blocks in let l = h.less in
      three_within m a 0 (used_cell s) n (listed_cell s n) (difference_at s a n) (region_start s Locks)
      (lock_space_size s) (omega arith) (omega arith) (omega arith) (omega arith) (omega arith) (omega arith)

-- ---- the routine

in_use : (s : MapSizes) (m : Bytes) (a : ℕ) → AreLocksLaidOut s → CanRelease s m a
    → IsInUse s m a (used_locks s m - 1)
in_use s m a lie can =
    let some = one_used s m a lie can in
    let w = can.good.within in
    let own = own_lock s a lie can.lock can.not_global in
    record {
      used = omega arith;
      less = omega arith;
      begins = own.begins;
      ends = own.ends;
      aligned = own.aligned;
    }

abbrev release_registers : (lock scratch : ℕ) → ℕ → ℕ
release_registers lock t = register_of (lock ∷ []) [] (t ∷ (t + 1) ∷ (t + 2) ∷ [])

pub release_does : (map : MapSizes) (lock t : ℕ) → AreMapped map → AreBelow t (lock ∷ [])
    → IsReleaseRoutine map lock t (release_code map lock t (t + 1) (t + 2))
release_does map lock t mapped below runtime charge weight =
    let c = context_of map runtime charge weight in
    let ok = laid_out map mapped in
    let lie = locks_laid_out map mapped in
    let r : AreRegisters (lock ∷ []) [] (t ∷ (t + 1) ∷ (t + 2) ∷ []) t =
    record {
      none = (tt, tt);
      distinct = tt;
      ins_below = below;
      res_below = tt;
      from = (omega arith, (omega arith, (omega arith, tt)));
      own_distinct = ((omega arith, (omega arith, tt)), ((omega arith, tt), (tt, tt)));
    } in
    let f = release_registers lock t in
    straight_routine c 4 1 f (release_code map 0 1 2 3) (λ s. CanRelease map s.memory (s.values lock))
    (registers_rename (lock ∷ []) [] (t ∷ (t + 1) ∷ (t + 2) ∷ []) t r) refl 11 (HasReleased map lock t) (omega arith)
    (λ s w p. (release_does_alone c ok lie (through f s) _ (in_use map s.memory (s.values lock) lie p)).0)
    (λ s s' w p agrees only.
    let u = effects c (release_code map 0 1 2 3) (through f s) in
    let a = s.values lock in
    let n = used_locks map s.memory - 1 in
    let h = in_use map s.memory a lie p in
    let does = release_does_alone c ok lie (through f s) n h in
    let same : s'.memory ≡ released_memory map s.memory a n = agrees_memory 4 f u s' agrees ∙ does.1 in
    let good = good_taken_back map a s.memory (released_memory map s.memory a n) (global_is_lock map mapped) p
    (taken_back map s.memory lie a n h) in
    record {
      counter = ap (key_counter map) same ∙ released_counter map s.memory lie a n h;
      released = ap (λ m. load 8 m a) same ∙ released_here map s.memory lie a n h;
      other_locks = λ b l ne. ap (λ m. load 8 m b) same ∙ released_others map s.memory lie a n h b l ne;
      good = subst (AreLocksGood map) (sym same) good;
      memory = subst (KeepsButLocks map s.memory) (sym same) (released_within map s.memory lie a n h);
      shows = agrees_shows 4 f u s s' agrees (let z = does.2 in record {
        input = z.input;
        output = z.output;
        taken = z.taken;
        accesses = z.accesses;
        turns = z.turns;
      });
      others = others_stay (lock ∷ []) [] (t ∷ (t + 1) ∷ (t + 2) ∷ []) t r s s' only;
    })
