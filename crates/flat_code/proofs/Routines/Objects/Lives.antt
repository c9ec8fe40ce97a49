-- Births and deaths.
use Rattle.std.proofs.Common.{◌≡◌, ◌≢◌, ℕ, ◌+◌, ◌<◌, ◌≤◌, ◌⊎◌, inl, inr, true, false}
use Rattle.std.proofs.Common.{length, get_or}
use Rattle.std.proofs.Common.{refl, sym, ap, ◌∙◌, subst, arith, ⊎_elim}
use Rattle.std.proofs.lemmas.Bool.{cases_eq, cases_lt, cases_Bool}
use Rattle.addr_map.specs.Places.{AreMapped}
use Rattle.obj_memory.specs.declared.object.Storage.{Storage}
use Rattle.obj_memory.specs.declared.object.Storage.TheVariants.{Static, Automatic, Allocated}
use Rattle.obj_memory.specs.declared.value.Tag.{Tag}
use Rattle.obj_memory.specs.declared.value.Tag.TheVariants.{Untagged, OfFunction, OfObject}
use Rattle.obj_memory.specs.Objects.{Objects, object_at}
use Rattle.obj_memory.specs.Sound.{IsSoundTag}
use Rattle.flat_code.specs.Memory.{Bytes, load}
use Rattle.flat_code.specs.Routines.Objects.StandsFor.{Views, Keys, spell, IsPlaced, IsLock, global_lock, IsKeyed}
use Rattle.flat_code.specs.Routines.Objects.StandsFor.{IsHere, AreLocked, StandsFor}
use Rattle.flat_code.specs.Routines.Objects.Changes.{AreBorn, AreDead}
use Rattle.flat_code.proofs.Routines.Objects.Changing.{live_is_made, global_is_lock}

storage_cases : (s : Storage) → (s ≡ Static) ⊎ (s ≢ Static)
storage_cases Static = inl refl
storage_cases Automatic = inr (λ e. cc)
storage_cases Allocated = inr (λ e. cc)

-- the tag of an object that was made is spelled alike where its key and lock word are the same
spell_same : (g : Views) (k k' : Keys) (objects : Objects) (t : Tag)
    → ((n : ℕ) → n < length objects → k'.held n ≡ k.held n) → IsSoundTag g.functions objects t
    → spell g k' t ≡ spell g k t
spell_same g k k' objects Untagged same h = refl
spell_same g k k' objects (OfFunction f) same h = refl
spell_same g k k' objects (OfObject n b) same h =
    ap (λ z. record { base = b.base; bound = b.bound; key = z.key; lock = z.lock }) (same n h.made)

-- a key that was made is below the next
key_below : (g : Views) (k : Keys) (objects : Objects) (m : Bytes) (n : ℕ) → StandsFor g k objects m
    → n < length objects → (k.held n).key < 2 + k.made
key_below g k objects m n st l =
    let h = st.keyed.each n l in
    ⊎_elim (λ e. (let z = (h.static e).0 in omega arith))
    (λ ne. (let z = h.other ne in let a = z.0 in let b = z.1 in omega arith))
    (storage_cases (object_at objects n).storage)

module _ (g : Views) (k k' : Keys) (mapped : AreMapped g.sizes) (old new : Objects) (lock : ℕ) (m m' : Bytes)
    (st : StandsFor g k old m) (b : AreBorn g k k' old new lock m m') where
  -- an object of the list is an old one or a new one
  each : (n : ℕ) → (n < length old) ⊎ (length old ≤ n)
  each n = cases_lt n (length old)

  made : (n : ℕ) → (object_at new n).is_live ≡ true → n < length new
  made n l = live_is_made new n l

  was_live : (n : ℕ) → n < length old → (object_at new n).is_live ≡ true → (object_at old n).is_live ≡ true
  was_live n h l = ap (λ o. o.is_live) (sym (b.same n h)) ∙ l

  new_key : (n : ℕ) → length old ≤ n → (k'.held n).key ≡ 2 + k.made
  new_key n h = ap (λ z. z.key) (b.new_held n h)

  new_lock : (n : ℕ) → length old ≤ n → (k'.held n).lock ≡ lock
  new_lock n h = ap (λ z. z.lock) (b.new_held n h)

  old_key : (n : ℕ) → n < length old → (k'.held n).key ≡ (k.held n).key
  old_key n h = ap (λ z. z.key) (b.held n h)

  placed : (n : ℕ) → (object_at new n).is_live ≡ true → IsPlaced g.sizes (object_at new n)
  placed n l = ⊎_elim
      (λ h. subst (IsPlaced g.sizes) (sym (b.same n h)) (st.placed n (was_live n h l)))
      (λ h. (b.fresh n h (made n l)).placed)
      (each n)

  keyed : (n : ℕ) → n < length new → IsKeyed g.sizes k' n (object_at new n)
  keyed n l = ⊎_elim
      (λ h. (let q = st.keyed.each n h in let e = b.same n h in let d = b.held n h in let w = b.own n h in
      let r = b.made in
      record {
        lock = subst (λ z. IsLock g.sizes z.lock) (sym d) q.lock;
        static = λ s. subst (λ z. (z.key ≡ 1) × (z.lock ≡ global_lock g.sizes)) (sym d)
            (q.static (ap (λ o. o.storage) (sym e) ∙ s));
        other = λ s. (let y = q.other (λ z. s (ap (λ o. o.storage) e ∙ z)) in (
          ap (λ z. z.key) d ∙ y.0 ∙ ap (λ z. 2 + z) (sym w),
          (let a = y.1 in omega arith),
          subst (λ z. z.lock ≢ global_lock g.sizes) (sym d) y.2,
        ));
      }))
      (λ h. (let r = b.made in let w = b.new_own n h in record {
        lock = subst (IsLock g.sizes) (sym (new_lock n h)) b.lock_word;
        static = λ s. absurd ((b.fresh n h l).storage s);
        other = λ s. (new_key n h ∙ ap (λ z. 2 + z) (sym w), omega arith, (λ e. b.not_global (sym (new_lock n h) ∙ e)));
      }))
      (each n)

  alone : (n j : ℕ) → n < length new → j < length new → n ≢ j → (object_at new n).storage ≡ Allocated
      → (k'.held n).key ≢ (k'.held j).key
  alone n j nl jl ne e q = ⊎_elim
      (λ h. ⊎_elim
      (λ i. st.keyed.alone n j h i ne (ap (λ o. o.storage) (sym (b.same n h)) ∙ e)
      (sym (old_key n h) ∙ q ∙ old_key j i))
      (λ i. (let z = key_below g k old m n st h in let y = old_key n h in omega (arith, z, y, q, new_key j i)))
      (each j))
      (λ h. ⊎_elim
      (λ i. (let z = key_below g k old m j st i in let y = old_key j i in omega (arith, z, y, q, new_key n h)))
      (λ i. (let s = b.alone n h nl e in ne (omega arith)))
      (each j))
      (each n)

  -- of an old object that is not static
  old_own : (n : ℕ) → n < length old → (object_at new n).storage ≢ Static
      → ((object_at old n).storage ≢ Static) × (k.own n < k.made) × (k'.own n ≡ k.own n)
  old_own n h s =
      let out : (object_at old n).storage ≢ Static = λ e. s (ap (λ o. o.storage) (b.same n h) ∙ e) in
      (out, ((st.keyed.each n h).other out).1, b.own n h)

  shared : (n j : ℕ) → n < length new → j < length new → (object_at new n).storage ≢ Static
      → (object_at new j).storage ≢ Static → k'.own n ≡ k'.own j → k'.held n ≡ k'.held j
  shared n j nl jl s r e = ⊎_elim
      (λ h. ⊎_elim
      (λ i. (let x = old_own n h s in let y = old_own j i r in
      b.held n h ∙ st.keyed.shared n j h i x.0 y.0 (sym x.2 ∙ e ∙ y.2) ∙ sym (b.held j i)))
      (λ i. absurd (let x = old_own n h s in let a = x.1 in let c = x.2 in let d = b.new_own j i in omega arith))
      (each j))
      (λ h. ⊎_elim
      (λ i. absurd (let x = old_own j i r in let a = x.1 in let c = x.2 in let d = b.new_own n h in omega arith))
      (λ i. b.new_held n h ∙ sym (b.new_held j i))
      (each j))
      (each n)

  rising : (n j : ℕ) → n ≤ j → j < length new → (object_at new n).storage ≢ Static
      → (object_at new j).storage ≢ Static → k'.own n ≤ k'.own j
  rising n j le jl s r = ⊎_elim
      (λ h. ⊎_elim
      (λ i. (let x = old_own n h s in let y = old_own j i r in let a = x.2 in let c = y.2 in
      let d = st.keyed.rising n j le i x.0 y.0 in omega arith))
      (λ i. (let x = old_own n h s in let a = x.1 in let c = x.2 in let d = b.new_own j i in omega arith))
      (each j))
      (λ h. (let d = b.new_own n h in let e = b.new_own j (omega arith) in omega arith))
      (each n)

  here : (n : ℕ) → (object_at new n).is_live ≡ true → IsHere g k' m' (object_at new n)
  here n l = ⊎_elim
      (λ h. subst (IsHere g k' m') (sym (b.same n h)) (let live = was_live n h l in let q = st.here n live in record {
        bytes = λ j jl. b.keeps.bytes n live j jl ∙ q.bytes j jl;
        tags = λ w wl. b.keeps.entries n live w wl ∙ q.tags w wl
            ∙ sym (spell_same g k k' old (get_or (object_at old n).tags w Untagged) b.held ((st.sound.at n).tag w));
      }))
      (λ h. (let q = b.fresh n h (made n l) in record {
        bytes = λ j jl. q.bytes j jl ∙ sym (q.zeros j);
        tags = λ w wl. q.entries w wl ∙ ap (spell g k') (sym (q.no_tags w));
      }))
      (each n)

  dead_stays : (n : ℕ) → n < length old → (object_at new n).is_live ≡ false
      → ((k.held n).lock ≡ lock) ⊎ ((k.held n).lock ≢ lock) → load 8 m' (k.held n).lock ≢ (k.held n).key
  dead_stays n h d (inl e) q =
      let z = key_below g k old m n st h in
      let y : load 8 m' (k.held n).lock ≡ 2 + k.made = ap (load 8 m') e ∙ b.locked in
      omega (arith, z, y, q)
  dead_stays n h d (inr ne) q = st.locks.dead n h (ap (λ o. o.is_live) (sym (b.same n h)) ∙ d)
      (sym (b.keeps.locks (k.held n).lock (st.keyed.each n h).lock ne) ∙ q)

  locks : AreLocked g.sizes k' new m'
  locks = record {
    live = λ n l. ⊎_elim
        (λ h. (let live = was_live n h l in
        subst (λ z. load 8 m' z.lock ≡ z.key) (sym (b.held n h))
        (b.keeps.locks (k.held n).lock (st.keyed.each n h).lock (b.free n live) ∙ st.locks.live n live)))
        (λ h. subst (λ z. load 8 m' z.lock ≡ z.key) (sym (b.new_held n h)) b.locked)
        (each n);
    dead = λ n l d. ⊎_elim
        (λ h. subst (λ z. load 8 m' z.lock ≢ z.key) (sym (b.held n h)) (dead_stays n h d (cases_eq (k.held n).lock
        lock)))
        (λ h q. (let z : true ≡ false = sym (b.fresh n h l).live ∙ d in cc))
        (each n);
    global = b.keeps.locks (global_lock g.sizes) (global_is_lock g.sizes mapped) (λ e. b.not_global (sym e))
        ∙ st.locks.global;
    unused = λ a l ne none.
        b.keeps.locks a l
        (λ e. none (length old) (b.fresh (length old) (omega arith) b.some).live (new_lock (length old) (omega arith) ∙
        sym e))
        ∙ st.locks.unused a l ne (λ n live e. (let h = live_is_made old n live in
        none n (ap (λ o. o.is_live) (b.same n h) ∙ live) (ap (λ z. z.lock) (b.held n h) ∙ e)));
  }

  pub born : StandsFor g k' new m'
  born = record {
    sound = b.sound;
    disjoint = b.disjoint;
    placed = placed;
    keyed = record { each = keyed; alone = alone; shared = shared; rising = rising };
    here = here;
    locks = locks;
    counted = b.counter;
    table = b.table;
  }

module _ (g : Views) (k : Keys) (mapped : AreMapped g.sizes) (old new : Objects) (lock : ℕ) (m m' : Bytes)
    (st : StandsFor g k old m) (b : AreDead g k old new lock m m') where
  same_storage : (n : ℕ) → (object_at new n).storage ≡ (object_at old n).storage
  same_storage n = ⊎_elim (λ e. ap (λ o. o.storage) e) (λ e. ap (λ o. o.storage) e) (b.at n)

  lived : (n : ℕ) → (object_at new n).is_live ≡ true
      → (object_at new n ≡ object_at old n) × ((object_at old n).is_live ≡ true)
  lived n l = ⊎_elim
      (λ e. (e, ap (λ o. o.is_live) (sym e) ∙ l))
      (λ e. absurd (let z : true ≡ false = sym l ∙ ap (λ o. o.is_live) e in cc))
      (b.at n)

  dies : (n : ℕ) → n < length old → (object_at new n).is_live ≡ false
      → ((k.held n).lock ≡ lock) ⊎ ((k.held n).lock ≢ lock) → load 8 m' (k.held n).lock ≢ (k.held n).key
  dies n h d (inl e) q =
      let held = st.keyed.each n h in
      let y : load 8 m' (k.held n).lock ≡ 0 = ap (load 8 m') e ∙ b.free in
      ⊎_elim (λ s. b.not_global (sym e ∙ (held.static s).1)) (λ s. (let z = (held.other s).0 in omega (arith, z, y, q)))
      (storage_cases (object_at old n).storage)
  dies n h d (inr ne) q = ⊎_elim
      (λ live. absurd (let z : true ≡ false = sym live ∙ ap (λ o. o.is_live) (sym (b.stays n live ne)) ∙ d in cc))
      (λ dead. st.locks.dead n h dead (sym (b.keeps.locks (k.held n).lock (st.keyed.each n h).lock ne) ∙ q))
      (cases_Bool (object_at old n).is_live)

  still_here : (n : ℕ) → (object_at new n).is_live ≡ true → IsHere g k m' (object_at new n)
  still_here n l =
      let q = lived n l in let h = st.here n q.1 in
      subst (IsHere g k m') (sym q.0) (record {
        bytes = λ j jl. b.keeps.bytes n q.1 j jl ∙ h.bytes j jl;
        tags = λ w wl. b.keeps.entries n q.1 w wl ∙ h.tags w wl;
      })

  locks_left : AreLocked g.sizes k new m'
  locks_left = record {
    live = λ n l. (let q = lived n l in
        b.keeps.locks (k.held n).lock (st.keyed.each n (live_is_made old n q.1)).lock (b.gone n l) ∙ st.locks.live n
        q.1);
    dead = λ n l d. dies n (omega (arith, l, b.count)) d (cases_eq (k.held n).lock lock);
    global = b.keeps.locks (global_lock g.sizes) (global_is_lock g.sizes mapped) (λ e. b.not_global (sym e))
        ∙ st.locks.global;
    unused = λ a l ne none. unused a l ne none (cases_eq a lock);
  }
    where
      unused : (a : ℕ) → IsLock g.sizes a → a ≢ global_lock g.sizes
          → ((n : ℕ) → (object_at new n).is_live ≡ true → (k.held n).lock ≢ a) → (a ≡ lock) ⊎ (a ≢ lock)
          → load 8 m' a ≡ 0
      unused a l ne none (inl e) = ap (load 8 m') e ∙ b.free
      unused a l ne none (inr e) = b.keeps.locks a l e ∙ st.locks.unused a l ne
          (λ n live q. none n (ap (λ o. o.is_live) (b.stays n live (λ z. e (sym q ∙ z))) ∙ live) q)

  pub died : StandsFor g k new m'
  died = record {
    sound = b.sound;
    disjoint = b.disjoint;
    placed = λ n l. (let q = lived n l in subst (IsPlaced g.sizes) (sym q.0) (st.placed n q.1));
    keyed = record {
      each = λ n l. (let h = st.keyed.each n (omega (arith, l, b.count)) in record {
        lock = h.lock;
        static = λ e. h.static (sym (same_storage n) ∙ e);
        other = λ e. h.other (λ z. e (same_storage n ∙ z));
      });
      alone = λ n j nl jl ne e. st.keyed.alone n j (omega (arith, nl, b.count)) (omega (arith, jl, b.count)) ne
          (sym (same_storage n) ∙ e);
      shared = λ n j nl jl a c e. st.keyed.shared n j (omega (arith, nl, b.count)) (omega (arith, jl, b.count))
          (λ q. a (same_storage n ∙ q)) (λ q. c (same_storage j ∙ q)) e;
      rising = λ n j le jl a c. st.keyed.rising n j le (omega (arith, jl, b.count)) (λ q. a (same_storage n ∙ q))
          (λ q. c (same_storage j ∙ q));
    };
    here = still_here;
    locks = locks_left;
    counted = b.counter ∙ st.counted;
    table = b.table;
  }
