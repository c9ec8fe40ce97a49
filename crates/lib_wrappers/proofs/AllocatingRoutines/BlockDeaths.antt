-- The objects of a block that is left die.
use Rattle.std.proofs.Common.{◌≡◌, ◌≢◌, ℕ, ◌+◌, ◌*◌, ◌<◌, ◌⊎◌, inl, inr, ⊎_elim, List, [], ◌∷◌, true, false, length}
use Rattle.std.proofs.Common.{refl, sym, ap, ◌∙◌, subst, arith}
use Rattle.std.proofs.lemmas.Bool.{cases_eq}
use Rattle.addr_map.specs.Places.{MapSizes, AreMapped, spaces_begin}
use Rattle.obj_memory.specs.declared.object.Storage.TheVariants.{Static, Automatic, Allocated}
use Rattle.obj_memory.specs.Objects.{ObjectState, Objects, object_at, with_dead}
use Rattle.obj_memory.specs.Sound.{AreDisjoint}
use Rattle.obj_memory.proofs.Making.{dead_is_dead, dead_other, dead_object, disjoint_dead}
use Rattle.source_meaning.specs.State.{State as Source, Home, NoObject, InObject}
use Rattle.source_meaning.specs.Blocks.{without_homes}
use Rattle.source_meaning.proofs.Holding.{length-dead}
use Rattle.source_meaning.proofs.Laying.{without_sound}
use Rattle.flat_code.specs.Memory.{Bytes, load}
use Rattle.flat_code.specs.Routines.Metadata.{View, IsObjectWord}
use Rattle.flat_code.proofs.Routines.Regions.{laid_out}
use Rattle.flat_code.specs.Routines.Objects.StandsFor.{Views, Keys, IsLock, global_lock, IsTable, StandsFor}
use Rattle.flat_code.specs.Routines.Objects.Changes.{AreDead}
use Rattle.flat_code.proofs.Routines.Objects.Changing.{word_of}
use Rattle.flat_code.proofs.Routines.Objects.Lives.{died}
use Rattle.lock_space.specs.Locks.{key_counter}
use Rattle.lock_space.specs.Routines.{OtherLocksStay}
use Rattle.heap_space.specs.Table.{block_rows}
use Rattle.flat_actions.specs.Actions.{views_of}
use Rattle.lib_wrappers.specs.AllocatingRoutines.Entering.{IsHomeOf, AreOfLock}

-- ---- objects without those of some homes

pub count_without : (homes : List Home) (objects : Objects) → length (without_homes homes objects) ≡ length objects
count_without [] objects = refl
count_without (NoObject ∷ hs) objects = count_without hs objects
count_without (InObject o ∷ hs) objects = count_without hs (with_dead o objects) ∙ length-dead o objects

-- one that is among none stays
pub without_other : (homes : List Home) (n : ℕ) (objects : Objects) → (IsHomeOf n homes → ⊥)
    → object_at (without_homes homes objects) n ≡ object_at objects n
without_other [] n objects h = refl
without_other (NoObject ∷ hs) n objects h = without_other hs n objects h
without_other (InObject o ∷ hs) n objects h =
    without_other hs n (with_dead o objects) (λ q. h (inr q)) ∙ dead_other o n objects (λ e. h (inl e))

-- any may have died, and did nothing else
abbrev SameOrDead : (o x : ObjectState) → Type 0
SameOrDead o x = (x ≡ o) ⊎ (x ≡ record o { is_live = false })

dead_more : (n o : ℕ) (objects : Objects) → n < length objects
    → SameOrDead (object_at objects n) (object_at (with_dead o objects) n)
dead_more n o objects l = ⊎_elim
    (λ (e : n ≡ o). inr (subst (λ i. object_at (with_dead i objects) n ≡ record (object_at objects n)
    { is_live = false })
    e (dead_object n objects l)))
    (λ ne. inl (dead_other o n objects ne))
    (cases_eq n o)

abbrev dead_of : ObjectState → ObjectState
dead_of o = record o { is_live = false }

same_or_dead : (o x y : ObjectState) → SameOrDead o x → SameOrDead x y → SameOrDead o y
same_or_dead o x y (inl p) (inl q) = inl (q ∙ p)
same_or_dead o x y (inl p) (inr q) = inr (q ∙ ap (λ (z : ObjectState). dead_of z) p)
same_or_dead o x y (inr p) (inl q) = inr (q ∙ p)
same_or_dead o x y (inr p) (inr q) = inr (q ∙ ap (λ (z : ObjectState). dead_of z) p)

pub without_at : (homes : List Home) (n : ℕ) (objects : Objects) → n < length objects
    → SameOrDead (object_at objects n) (object_at (without_homes homes objects) n)
without_at [] n objects l = inl refl
without_at (NoObject ∷ hs) n objects l = without_at hs n objects l
without_at (InObject o ∷ hs) n objects l =
    let e = length-dead o objects in
    same_or_dead (object_at objects n) (object_at (with_dead o objects) n) _ (dead_more n o objects l)
    (without_at hs n (with_dead o objects) (omega arith))

stays_dead : (homes : List Home) (n : ℕ) (objects : Objects) → n < length objects → (object_at objects n).is_live ≡
    false
    → (object_at (without_homes homes objects) n).is_live ≡ false
stays_dead homes n objects l dead = ⊎_elim
    (λ e. ap (λ o. o.is_live) e ∙ dead) (λ e. ap (λ o. o.is_live) e) (without_at homes n objects l)

pub without_dead : (homes : List Home) (n : ℕ) (objects : Objects) → n < length objects → IsHomeOf n homes
    → (object_at (without_homes homes objects) n).is_live ≡ false
without_dead [] n objects l h = absurd h
without_dead (NoObject ∷ hs) n objects l h = without_dead hs n objects l h
without_dead (InObject o ∷ hs) n objects l h =
    let e = length-dead o objects in
    ⊎_elim
    (λ (here : n ≡ o). stays_dead hs n (with_dead o objects) (omega arith)
    (subst (λ i. (object_at (with_dead i objects) n).is_live ≡ false) here (dead_is_dead n objects)))
    (λ later. without_dead hs n (with_dead o objects) (omega arith) later)
    h

without_disjoint : (homes : List Home) (objects : Objects) → AreDisjoint objects
    → AreDisjoint (without_homes homes objects)
without_disjoint [] objects h = h
without_disjoint (NoObject ∷ hs) objects h = without_disjoint hs objects h
without_disjoint (InObject o ∷ hs) objects h = without_disjoint hs (with_dead o objects) (disjoint_dead o objects h)

-- whether an object is among homes
is_home : (n : ℕ) (homes : List Home) → IsHomeOf n homes ⊎ (IsHomeOf n homes → ⊥)
is_home n [] = inr (λ h. h)
is_home n (NoObject ∷ hs) = is_home n hs
is_home n (InObject o ∷ hs) = ⊎_elim
    (λ e. inl (inl e))
    (λ ne. ⊎_elim (λ h. inl (inr h)) (λ none. inr (λ h. ⊎_elim (λ e. ne e) (λ q. none q) h)) (is_home n hs))
    (cases_eq n o)

-- ---- their lock word

module _ (g : Views) (k : Keys) (x : Source) (homes : List Home) (lock : ℕ) (m : Bytes)
    (st : StandsFor g k x.objects m) (of : AreOfLock k x homes lock) where
  not_static : (n : ℕ) → IsHomeOf n homes → (object_at x.objects n).storage ≢ Static
  not_static n h e = let no : Automatic ≡ Static = sym (of.under n h).1 ∙ e in cc

  pub lock_not_global : lock ≢ global_lock g.sizes
  lock_not_global e =
      let u = of.under of.some of.some_home in
      ((st.keyed.each of.some u.0).other (not_static of.some of.some_home)).2 (u.2 ∙ e)

  pub lock_used : load 8 m lock ≢ 0
  lock_used e =
      let u = of.under of.some of.some_home in
      let key = ((st.keyed.each of.some u.0).other (not_static of.some of.some_home)).0 in
      let held = st.locks.live of.some of.some_live in
      let at : (k.held of.some).key ≡ 0 = sym held ∙ ap (load 8 m) u.2 ∙ e in
      omega arith

  pub lock_is_one : IsLock g.sizes lock
  lock_is_one =
      let u = of.under of.some of.some_home in subst (IsLock g.sizes) u.2 (st.keyed.each of.some u.0).lock

-- ---- the deaths

module _ (map : MapSizes) (mapped : AreMapped map) (functions : ℕ) (types : ℕ → ℕ) (entry : View)
    (IsGood : Bytes → Type 0) (k : Keys) (x : Source) (homes : List Home) (lock : ℕ) (m m' : Bytes)
    (st : StandsFor (views_of map functions types entry) k x.objects m) (of : AreOfLock k x homes lock)
    (low : (b : ℕ) → b < spaces_begin → m' b ≡ m b) (entries : (b : ℕ) → IsObjectWord map b → entry m' b ≡ entry m b)
    (released : load 8 m' lock ≡ 0) (others : OtherLocksStay map lock m m')
    (counter : key_counter map m' ≡ key_counter map m) (rows : block_rows map m' ≡ block_rows map m) where
  abbrev g : Views
  g = views_of map functions types entry

  abbrev old : Objects
  old = x.objects

  abbrev new : Objects
  new = without_homes homes old

  -- what lives still is no home
  still : (n : ℕ) → (object_at new n).is_live ≡ true
      → (IsHomeOf n homes → ⊥) × (object_at new n ≡ object_at old n) × ((object_at old n).is_live ≡ true)
  still n l =
      let none : IsHomeOf n homes → ⊥ = λ h. (let no : true ≡ false = sym l ∙ without_dead homes n old
      (of.under n h).0 h
      in cc) in
      let same = without_other homes n old none in
      (none, same, ap (λ o. o.is_live) (sym same) ∙ l)

  table : IsTable k new (block_rows map m')
  table = subst (IsTable k new) (sym rows) (record {
    by_address = st.table.by_address;
    block_of = λ i l. (let r = st.table.block_of i l in
        let none : IsHomeOf r.0 homes → ⊥ =
        λ h. (let no : Automatic ≡ Allocated = sym (of.under r.0 h).1 ∙ r.1.block in cc) in
        let same = without_other homes r.0 old none in (
          r.0,
          record {
            live = ap (λ o. o.is_live) same ∙ r.1.live;
            block = ap (λ o. o.storage) same ∙ r.1.block;
            start = r.1.start ∙ sym (ap (λ o. o.address) same);
            size = r.1.size ∙ sym (ap (λ o. o.size) same);
            key = r.1.key;
          },
        ));
    row_of = λ n live block. (let s = still n live in
        let r = st.table.row_of n s.2 (ap (λ o. o.storage) (sym s.1) ∙ block) in (
          r.0,
          r.1,
          record {
            live = live;
            block = block;
            start = r.2.start ∙ sym (ap (λ o. o.address) s.1);
            size = r.2.size ∙ sym (ap (λ o. o.size) s.1);
            key = r.2.key;
          },
        ));
  })

  deaths : AreDead g k old new lock m m'
  deaths =
      let ok = laid_out map mapped in let small = ok.small in
      record {
        count = count_without homes old;
        at = λ n. ⊎_elim
            (λ h. without_at homes n old (of.under n h).0)
            (λ none. inl (without_other homes n old none))
            (is_home n homes);
        gone = λ n l e. (let s = still n l in s.0 (of.home n s.2 e));
        stays = λ n l ne. without_other homes n old (λ h. ne (of.under n h).2);
        sound = without_sound functions homes old st.sound;
        disjoint = without_disjoint homes old st.disjoint;
        not_global = lock_not_global g k x homes lock m st of;
        free = released;
        counter = counter;
        keeps = record {
          bytes = λ n l j jl. (let at = st.placed n l in let last = at.last in
              low ((object_at old n).address + j) (omega arith));
          entries = λ n l w wl. entries ((object_at old n).address + 8 * w)
              (word_of map functions old (object_at old n) w (st.sound.at n) (st.placed n l) wl);
          locks = λ a l ne. others a l ne;
        };
        table = table;
      }

  pub block_left : StandsFor g k new m'
  block_left = died g k mapped old new lock m m' st deaths
