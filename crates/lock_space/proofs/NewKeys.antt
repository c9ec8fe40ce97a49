-- The next key, and a new key in a free lock word.
use Rattle.std.proofs.Common.{◌≡◌, ◌≢◌, ℕ, suc, ◌+◌, ◌*◌, ◌%◌, ◌^◌, ◌<◌, ◌≤◌, ◌⊎◌, [], ◌∷◌, inl, inr, ⊎_elim}
use Rattle.std.proofs.Common.{refl, sym, ap, ◌∙◌, subst, arith}
use Rattle.std.proofs.lemmas.Bool.{cases_lt}
use Rattle.addr_map.specs.declared.region.Region.TheVariants.{Locks, FreeLocks}
use Rattle.addr_map.specs.Places.{MapSizes, AreMapped, region_start}
use Rattle.rv_isa.specs.Results.{reg_result, extended}
use Rattle.flat_code.specs.Memory.{Bytes, put, load, store, KeepsBut}
use Rattle.flat_code.specs.State.{State}
use Rattle.flat_code.specs.Meaning.{Context}
use Rattle.flat_code.proofs.Stored.{load_beside, load_stored, store_beside, keeps_within, keeps_both}
use Rattle.flat_code.specs.Routines.Registers.{AreDistinct, AreBelow}
use Rattle.flat_code.specs.Routines.Effects.{effects, AreAllowed}
use Rattle.flat_code.specs.Routines.Renaming.{through}
use Rattle.flat_code.specs.Routines.Metadata.{ShowsNothing}
use Rattle.flat_code.proofs.Routines.Distinct.{AreRegisters, register_of, registers_rename, others_stay}
use Rattle.flat_code.proofs.Routines.Wrapped.{straight_routine}
use Rattle.flat_code.proofs.Routines.Regions.{IsLaidOut, laid_out, shadow_not_shown}
use Rattle.flat_code.proofs.Routines.Objects.Changing.{global_is_lock}
use Rattle.shadow_space.proofs.Entries.{context_of, agrees_shows, agrees_memory}
use Rattle.lock_space.specs.Locks.{lock_total, keys_cell, used_cell, listed_cell, key_counter, used_locks}
use Rattle.lock_space.specs.Locks.{listed_lock, IsFree, AreLocksGood, lock_space_size, KeepsButLocks}
use Rattle.lock_space.specs.Routines.{OtherLocksStay, HasNext, FewKeys, HasFresh, CanFresh, IsNextRoutine}
use Rattle.lock_space.specs.Routines.{IsFreshRoutine, next_code, fresh_code}
use Rattle.lock_space.proofs.Spaces.{AreLocksLaidOut, locks_laid_out, allowed_at, own_lock}
use Rattle.lock_space.proofs.Lists.{IsHandedOut, one_left, good_handed_out}

-- ---- three stores

-- three words are stored
abbrev pub store_three : Bytes → (a x b y c z : ℕ) → Bytes
store_three m a x b y c z = store 8 (store 8 (store 8 m a x) b y) c z

pub same_three : (m : Bytes) (a x b y c z a' x' b' y' c' z' : ℕ) → a ≡ a' → x ≡ x' → b ≡ b' → y ≡ y' → c ≡ c' → z ≡ z'
    → store_three m a x b y c z ≡ store_three m a' x' b' y' c' z'
same_three m a x b y c z a' x' b' y' c' z' ea ex eb ey ec ez = cc

-- a word stands beside another
abbrev pub IsBeside : (a b : ℕ) → Type 0
IsBeside a b = (a + 8 ≤ b) ⊎ (b + 8 ≤ a)

pub three_beside : (m : Bytes) (a x b y c z w : ℕ) → IsBeside w a → IsBeside w b → IsBeside w c
    → load 8 (store_three m a x b y c z) w ≡ load 8 m w
three_beside m a x b y c z w p q r =
    load_beside 8 8 (store 8 (store 8 m a x) b y) c w z r ∙ load_beside 8 8 (store 8 m a x) b w y q
    ∙ load_beside 8 8 m a w x p

pub three_within : (m : Bytes) (a x b y c z first size : ℕ) → first ≤ a → a + 8 ≤ first + size
    → first ≤ b → b + 8 ≤ first + size → first ≤ c → c + 8 ≤ first + size
    → KeepsBut first size m (store_three m a x b y c z)
three_within m a x b y c z first size a1 a2 b1 b2 c1 c2 =
    let m1 = store 8 m a x in let m2 = store 8 m1 b y in
    keeps_both first size m m2 (store 8 m2 c z)
    (keeps_both first size m m1 m2 (keeps_within a 8 first size m m1 a1 a2 (store_beside 8 m a x))
    (keeps_within b 8 first size m1 m2 b1 b2 (store_beside 8 m1 b y)))
    (keeps_within c 8 first size m2 (store 8 m2 c z) c1 c2 (store_beside 8 m2 c z))

-- ---- the next key

module _ (c : Context) (ok : IsLaidOut c.sizes) (lie : AreLocksLaidOut c.sizes) (v : State) where
  next_allowed : AreAllowed c (next_code c.sizes 0 1) v
  unfolding put reg_result
  next_allowed =
      let f = lie.first in let d = lie.cells in let b = lie.blocks in let i = lie.inside in let s = lie.small in
      let at : (region_start c.sizes FreeLocks % 2 ^ 64 + 0) % 2 ^ 64 ≡ keys_cell c.sizes = omega arith in
      (tt, (allowed_at c.sizes _ (keys_cell c.sizes) 8 at (omega arith) (omega arith), (tt, tt)))

  found_key : FewKeys c.sizes v.memory → (effects c (next_code c.sizes 0 1) v).values 0 ≡ key_counter c.sizes v.memory
  unfolding put reg_result extended
  found_key few =
      let d = lie.cells in let b = lie.blocks in let s = lie.small in
      let at : (region_start c.sizes FreeLocks % 2 ^ 64 + 0) % 2 ^ 64 ≡ keys_cell c.sizes = omega arith in
      let small : (load 8 v.memory (keys_cell c.sizes) + 2) % 2 ^ 64 ≡ key_counter c.sizes v.memory = omega arith in
      ap (λ x. (load 8 v.memory x + 2) % 2 ^ 64) at ∙ small

  next_shows : ShowsNothing v (effects c (next_code c.sizes 0 1) v)
  unfolding put reg_result
  next_shows =
      let f = lie.first in let d = lie.cells in let s = lie.small in let b = lie.blocks in
      record {
        input = refl;
        output = refl;
        taken = refl;
        accesses = shadow_not_shown c _ 8 _ _ ok (omega arith);
        turns = refl;
      }

abbrev next_registers : (key scratch : ℕ) → ℕ → ℕ
next_registers key t = register_of [] (key ∷ []) (t ∷ [])

pub next_does : (map : MapSizes) (key t : ℕ) → AreMapped map → AreBelow t (key ∷ [])
    → IsNextRoutine map key t (next_code map key t)
next_does map key t mapped below runtime charge weight =
    let c = context_of map runtime charge weight in
    let ok = laid_out map mapped in
    let lie = locks_laid_out map mapped in
    let r : AreRegisters [] (key ∷ []) (t ∷ []) t =
    record {
      none = tt;
      distinct = (tt, tt);
      ins_below = tt;
      res_below = below;
      from = (omega arith, tt);
      own_distinct = (tt, tt);
    } in
    let f = next_registers key t in
    straight_routine c 2 0 f (next_code map 0 1) (λ s. FewKeys map s.memory)
    (registers_rename [] (key ∷ []) (t ∷ []) t r) refl 3 (HasNext map key t) (omega arith)
    (λ s w p. next_allowed c ok lie (through f s))
    (λ s s' w p agrees only.
    let u = effects c (next_code map 0 1) (through f s) in
    record {
      next_key = sym (agrees.values 0 (omega arith)) ∙ found_key c ok lie (through f s) p;
      memory = agrees_memory 2 f u s' agrees;
      shows = agrees_shows 2 f u s s' agrees (let h = next_shows c ok lie (through f s) in record {
        input = h.input;
        output = h.output;
        taken = h.taken;
        accesses = h.accesses;
        turns = h.turns;
      });
      others = others_stay [] (key ∷ []) (t ∷ []) t r s s' only;
    })

-- ---- a new key

-- what the routine finds: the keys made, the lock words in use, and the first free one of the list
record Found (s : MapSizes) (m : Bytes) (k i a : ℕ) : Type 0 where
  keys : load 8 m (keys_cell s) ≡ k
  few : k < 2 ^ 62
  used : load 8 m (used_cell s) ≡ i
  less : i < lock_total s
  entry : listed_lock s m i ≡ a
  begins : region_start s Locks + 8 ≤ a
  ends : a + 8 ≤ region_start s Locks + 8 + 8 * lock_total s
  aligned : a % 8 ≡ 0

abbrev fresh_memory : MapSizes → Bytes → (k i a : ℕ) → Bytes
fresh_memory s m k i a = store_three m (keys_cell s) (suc k) (used_cell s) (suc i) a (2 + k)

module _ (c : Context) (ok : IsLaidOut c.sizes) (lie : AreLocksLaidOut c.sizes) (v : State) (k i a : ℕ)
    (h : Found c.sizes v.memory k i a) where
  fresh_does_alone : AreAllowed c (fresh_code c.sizes 0 1 2 3) v
      × ((effects c (fresh_code c.sizes 0 1 2 3) v).memory ≡ fresh_memory c.sizes v.memory k i a)
      × ((effects c (fresh_code c.sizes 0 1 2 3) v).values 0 ≡ 2 + k)
      × ((effects c (fresh_code c.sizes 0 1 2 3) v).values 1 ≡ a)
      × ShowsNothing v (effects c (fresh_code c.sizes 0 1 2 3) v)
  unfolding put reg_result extended
  fresh_does_alone =
      let f = lie.first in let d = lie.cells in let b = lie.blocks in let n = lie.inside in let s = lie.small in
      let few = h.few in let less = h.less in let lo = h.begins in let hi = h.ends in let entry = h.entry in
      let F = region_start c.sizes FreeLocks in let L = region_start c.sizes Locks in
      let m = v.memory in
      let at0 : (F % 2 ^ 64 + 0) % 2 ^ 64 ≡ F = omega arith in
      let at1 : (F % 2 ^ 64 + 8) % 2 ^ 64 ≡ F + 8 = omega arith in
      let got0 : load 8 m ((F % 2 ^ 64 + 0) % 2 ^ 64) ≡ k = ap (load 8 m) at0 ∙ h.keys in
      let key1 : (load 8 m ((F % 2 ^ 64 + 0) % 2 ^ 64) + 1) % 2 ^ 64 ≡ suc k = omega arith in
      let key2 : (load 8 m ((F % 2 ^ 64 + 0) % 2 ^ 64) + 2) % 2 ^ 64 ≡ 2 + k = omega arith in
      let m1 = store 8 m ((F % 2 ^ 64 + 0) % 2 ^ 64)
      ((load 8 m ((F % 2 ^ 64 + 0) % 2 ^ 64) + 1) % 2 ^ 64) in
      let got1 : load 8 m1 ((F % 2 ^ 64 + 8) % 2 ^ 64) ≡ i =
      load_beside 8 8 m ((F % 2 ^ 64 + 0) % 2 ^ 64) ((F % 2 ^ 64 + 8) % 2 ^ 64) _ (inr (omega arith))
      ∙ ap (load 8 m) at1 ∙ h.used in
      let used1 : (load 8 m1 ((F % 2 ^ 64 + 8) % 2 ^ 64) + 1) % 2 ^ 64 ≡ suc i = omega arith in
      let m2 = store 8 m1 ((F % 2 ^ 64 + 8) % 2 ^ 64)
      ((load 8 m1 ((F % 2 ^ 64 + 8) % 2 ^ 64) + 1) % 2 ^ 64) in
      let offset : (((load 8 m1 ((F % 2 ^ 64 + 8) % 2 ^ 64) + 1) % 2 ^ 64) * 8) % 2 ^ 64 ≡ 8 * (i + 1) = omega arith in
      let at2 : (((F % 2 ^ 64)
      + ((((load 8 m1 ((F % 2 ^ 64 + 8) % 2 ^ 64) + 1) % 2 ^ 64) * 8) % 2 ^ 64)) % 2 ^ 64 + 8) % 2 ^ 64
      ≡ F + 16 + 8 * i = omega arith in
      let got2 : load 8 m2 ((((F % 2 ^ 64)
      + ((((load 8 m1 ((F % 2 ^ 64 + 8) % 2 ^ 64) + 1) % 2 ^ 64) * 8) % 2 ^ 64)) % 2 ^ 64 + 8) % 2 ^ 64)
      ≡ load 8 m (F + 16 + 8 * i) =
      ap (load 8 m2) at2
      ∙ load_beside 8 8 m1 ((F % 2 ^ 64 + 8) % 2 ^ 64) (F + 16 + 8 * i) _ (inr (omega arith))
      ∙ load_beside 8 8 m ((F % 2 ^ 64 + 0) % 2 ^ 64) (F + 16 + 8 * i) _ (inr (omega arith)) in
      let lock : ((load 8 m2 ((((F % 2 ^ 64)
      + ((((load 8 m1 ((F % 2 ^ 64 + 8) % 2 ^ 64) + 1) % 2 ^ 64) * 8) % 2 ^ 64)) % 2 ^ 64 + 8) % 2 ^ 64)
      + ((((load 8 m1 ((F % 2 ^ 64 + 8) % 2 ^ 64) + 1) % 2 ^ 64) * 8) % 2 ^ 64)) % 2 ^ 64 + L % 2 ^ 64) % 2 ^ 64
      ≡ a = omega arith in
      let at3 : (((load 8 m2 ((((F % 2 ^ 64)
      + ((((load 8 m1 ((F % 2 ^ 64 + 8) % 2 ^ 64) + 1) % 2 ^ 64) * 8) % 2 ^ 64)) % 2 ^ 64 + 8) % 2 ^ 64)
      + ((((load 8 m1 ((F % 2 ^ 64 + 8) % 2 ^ 64) + 1) % 2 ^ 64) * 8) % 2 ^ 64)) % 2 ^ 64 + L % 2 ^ 64) % 2 ^ 64 + 0)
      % 2 ^ 64 ≡ a = omega arith in
      let allowed0 = allowed_at c.sizes _ F 8 at0 (omega arith) (omega arith) in
      let allowed1 = allowed_at c.sizes _ (F + 8) 8 at1 (omega arith) (omega arith) in (
        (
          tt,
          (
            allowed0,
            (
              tt,
              (
                allowed0,
                (
                  tt,
                  (
                    allowed1,
                    (
                      tt,
                      (
                        allowed1,
                        (
                          tt,
                          (
                            tt,
                            (
                              allowed_at c.sizes _
                                  (F + 16 + 8 * i) 8 at2 (omega arith) (omega arith),
                              (
                                tt,
                                (
                                  tt,
                                  (allowed_at c.sizes _ a 8 at3 (omega arith) (omega arith), tt),
                                ),
                              ),
                            ),
                          ),
                        ),
                      ),
                    ),
                  ),
                ),
              ),
            ),
          ),
        ),
        same_three m _ _ _ _ _ _ F (suc k) (F + 8) (suc i) a (2 + k) at0 key1 at1 used1 at3 key2,
        key2,
        lock,
        record {
          input = refl;
          output = refl;
          taken = refl;
          accesses = shadow_not_shown c _ 8 _ _ ok (omega arith) ∙ shadow_not_shown c _ 8 _ _ ok (omega arith)
              ∙ shadow_not_shown c _ 8 _ _ ok (omega arith) ∙ shadow_not_shown c _ 8 _ _ ok (omega arith)
              ∙ shadow_not_shown c _ 8 _ _ ok (omega arith) ∙ shadow_not_shown c _ 8 _ _ ok (omega arith);
          turns = refl;
        },
      )

-- ---- what it does to the lock space

module _ (s : MapSizes) (m : Bytes) (lie : AreLocksLaidOut s) (k i a : ℕ) (h : Found s m k i a) where
  abbrev fresh : Bytes
  fresh = fresh_memory s m k i a

  -- the cells, the lock word and the others afterwards
  fresh_counter : key_counter s fresh ≡ suc (key_counter s m)
  fresh_counter =
      let few = h.few in let hi = h.ends in let c = lie.cells in let e = h.keys in
      let z : load 8 fresh (keys_cell s) ≡ suc k =
      load_beside 8 8 (store 8 (store 8 m (keys_cell s) (suc k)) (used_cell s) (suc i)) a (keys_cell s) (2 + k)
      (inr (omega arith))
      ∙ load_beside 8 8 (store 8 m (keys_cell s) (suc k)) (used_cell s) (keys_cell s) (suc i) (inl (omega arith))
      ∙ load_stored 8 m (keys_cell s) (suc k) (omega arith) in
      omega arith

  fresh_used : used_locks s fresh ≡ suc i
  fresh_used =
      let hi = h.ends in let c = lie.cells in let b = lie.blocks in let z = lie.small in let l = h.less in
      load_beside 8 8 (store 8 (store 8 m (keys_cell s) (suc k)) (used_cell s) (suc i)) a (used_cell s) (2 + k)
      (inr (omega arith))
      ∙ load_stored 8 (store 8 m (keys_cell s) (suc k)) (used_cell s) (suc i) (omega arith)

  fresh_here : load 8 fresh a ≡ 2 + k
  fresh_here =
      let few = h.few in
      load_stored 8 (store 8 (store 8 m (keys_cell s) (suc k)) (used_cell s) (suc i)) a (2 + k) (omega arith)

  fresh_other : OtherLocksStay s a m fresh
  fresh_other b lock ne =
      let x = lock.aligned in let l = lock.last in let c = lie.cells in let y = h.aligned in
      three_beside m (keys_cell s) (suc k) (used_cell s) (suc i) a (2 + k) b (inl (omega arith)) (inl (omega arith))
      (⊎_elim (λ l. inl (omega arith)) (λ r. inr (omega (arith, ne))) (cases_lt b a))

  handed_out : used_locks s m ≡ i → listed_lock s m i ≡ a → IsHandedOut s m fresh
  handed_out u e =
      let at : listed_lock s m (used_locks s m) ≡ a = ap (listed_lock s m) u ∙ e in
      record {
        used = fresh_used ∙ ap suc (sym u);
        entries = λ j l. (let hi = h.ends in let c = lie.cells in
            three_beside m (keys_cell s) (suc k) (used_cell s) (suc i) a (2 + k) (listed_cell s j) (inr (omega arith))
            (inr (omega arith)) (inr (omega arith)));
        others = subst (λ x. OtherLocksStay s x m fresh) (sym at) fresh_other;
        here = subst (λ x. load 8 fresh x ≢ 0) (sym at) (λ z. (let w = fresh_here in omega arith));
      }

  fresh_within : KeepsButLocks s m fresh
  fresh_within =
      let lo = h.begins in let hi = h.ends in let c = lie.cells in let b = lie.blocks in let l = h.less in
      three_within m (keys_cell s) (suc k) (used_cell s) (suc i) a (2 + k) (region_start s Locks) (lock_space_size s)
      (omega arith) (omega arith) (omega arith) (omega arith) (omega arith) (omega arith)

-- ---- the routine

abbrev fresh_registers : (key lock scratch : ℕ) → ℕ → ℕ
fresh_registers key lock t = register_of [] (key ∷ lock ∷ []) (t ∷ (t + 1) ∷ [])

-- what is found where a lock word is free
found_of : (s : MapSizes) (m : Bytes) → AreLocksLaidOut s → (can : CanFresh s m)
    → Found s m (load 8 m (keys_cell s)) (used_locks s m) (listed_lock s m (used_locks s m))
found_of s m lie can =
    let few = can.few in
    let less = one_left s m can in
    let free = can.good.free (used_locks s m) (omega arith) less in
    let own = own_lock s (listed_lock s m (used_locks s m)) lie free.lock free.not_global in
    record {
      keys = refl;
      few = omega arith;
      used = refl;
      less = less;
      entry = refl;
      begins = own.begins;
      ends = own.ends;
      aligned = own.aligned;
    }

pub fresh_does : (map : MapSizes) (key lock t : ℕ) → AreMapped map → AreDistinct (key ∷ lock ∷ [])
    → AreBelow t (key ∷ lock ∷ []) → IsFreshRoutine map key lock t (fresh_code map key lock t (t + 1))
fresh_does map key lock t mapped distinct below runtime charge weight =
    let c = context_of map runtime charge weight in
    let ok = laid_out map mapped in
    let lie = locks_laid_out map mapped in
    let r : AreRegisters [] (key ∷ lock ∷ []) (t ∷ (t + 1) ∷ []) t =
    record {
      none = tt;
      distinct = distinct;
      ins_below = tt;
      res_below = below;
      from = (omega arith, (omega arith, tt));
      own_distinct = ((omega arith, tt), (tt, tt));
    } in
    let f = fresh_registers key lock t in
    straight_routine c 4 0 f (fresh_code map 0 1 2 3) (λ s. CanFresh map s.memory)
    (registers_rename [] (key ∷ lock ∷ []) (t ∷ (t + 1) ∷ []) t r) refl 14 (HasFresh map key lock t) (omega arith)
    (λ s w p. (fresh_does_alone c ok lie (through f s) _ _ _ (found_of map s.memory lie p)).0)
    (λ s s' w p agrees only.
    let u = effects c (fresh_code map 0 1 2 3) (through f s) in
    let k = load 8 s.memory (keys_cell map) in
    let i = used_locks map s.memory in
    let a = listed_lock map s.memory i in
    let h = found_of map s.memory lie p in
    let does = fresh_does_alone c ok lie (through f s) k i a h in
    let same : s'.memory ≡ fresh_memory map s.memory k i a = agrees_memory 4 f u s' agrees ∙ does.1 in
    let at : s'.values lock ≡ a = sym (agrees.values 1 (omega arith)) ∙ does.3 in
    let good = good_handed_out map s.memory (fresh_memory map s.memory k i a) (global_is_lock map mapped) p.good
    h.less (handed_out map s.memory lie k i a h refl refl) in
    record {
      new_key = sym (agrees.values 0 (omega arith)) ∙ does.2;
      counter = ap (key_counter map) same ∙ fresh_counter map s.memory lie k i a h;
      was_free = subst (IsFree map s.memory) (sym at) (p.good.free i (omega arith) h.less);
      locked = ap (load 8 s'.memory) at ∙ ap (λ m. load 8 m a) same ∙ fresh_here map s.memory lie k i a h;
      other_locks = λ b l ne. ap (λ m. load 8 m b) same
          ∙ fresh_other map s.memory lie k i a h b l (λ e. ne (e ∙ sym at));
      good = subst (AreLocksGood map) (sym same) good;
      memory = subst (KeepsButLocks map s.memory) (sym same) (fresh_within map s.memory lie k i a h);
      shows = agrees_shows 4 f u s s' agrees (let z = does.4 in record {
        input = z.input;
        output = z.output;
        taken = z.taken;
        accesses = z.accesses;
        turns = z.turns;
      });
      others = others_stay [] (key ∷ lock ∷ []) (t ∷ (t + 1) ∷ []) t r s s' only;
    })
