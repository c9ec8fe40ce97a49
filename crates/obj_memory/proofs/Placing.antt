-- The place of a block.
use Rattle.std.proofs.Common.{◌⊎◌, ◌++◌, ◌%◌, ◌∙◌, set, ◌≡◌, ℕ, zero, suc, ◌+◌, ◌-◌, ◌*◌, ◌/◌, ◌<◌, ◌≤◌, Bool, true}
use Rattle.std.proofs.Common.{false, not, ◌&&◌, ◌||◌, nat_le, if◌then◌else◌, inl, inr, [], ◌∷◌, Some, None, refl, ap}
use Rattle.std.proofs.Common.{sym, subst, arith}
use Rattle.std.proofs.lemmas.Bool.{le-leb, leb-true, leb-false, lt-leb}
use Rattle.obj_memory.specs.declared.object.Storage.{Storage}
use Rattle.obj_memory.specs.declared.object.Storage.TheVariants.{Allocated}
use Rattle.obj_memory.specs.Objects.{new_object, with_new, with_dead, ObjectState, Objects, object_at}
use Rattle.obj_memory.specs.Heap.{is_allocated, block_count, block_room, is_live_block, is_clear, is_clear_of}
use Rattle.obj_memory.specs.Heap.{has_room, least_from, least_place}
use Rattle.obj_memory.specs.Sound.{HasRoom, IsBlockPlace, IsClearOf}

clear_of : (start room : ℕ) (o : ObjectState) → is_clear_of start room o ≡ true → is_live_block o ≡ true
    → IsClearOf start room o
clear_of start room o e l = go (is_live_block o) (nat_le (start + room) o.address)
    (nat_le (o.address + block_room o.size) start) refl refl l e
  where
    go : (b x y : Bool) → nat_le (start + room) o.address ≡ x → nat_le (o.address + block_room o.size) start ≡ y
        → b ≡ true → (not b || (x || y)) ≡ true → IsClearOf start room o
    go true true y ex ey lb h = inl (leb-true _ _ ex)
    go true false true ex ey lb h = inr (leb-true _ _ ey)
    go true false false ex ey lb h = absurd cc
    go false x y ex ey lb h = absurd cc

both : (a b : Bool) → (a && b) ≡ true → (a ≡ true) × (b ≡ true)
both true b e = (refl, e)
both false b e = absurd cc

pub clear_at : (start room : ℕ) (objects : Objects) → is_clear start room objects ≡ true → (n : ℕ)
    → is_live_block (object_at objects n) ≡ true → IsClearOf start room (object_at objects n)
unfolding is_clear
clear_at start room [] e n l = absurd cc
clear_at start room (o ∷ os) e zero l = clear_of start room o (both _ _ e).0 l
clear_at start room (o ∷ os) e (suc n) l = clear_at start room os
    (both (is_clear_of start room o) (is_clear start room os) e).1 n l

module _ (last room : ℕ) (objects : Objects) where
  -- one place of the search
  pub record IsLeast (count start found : ℕ) : Type 0 where
    pub step : ℕ
    pub below : step < count
    pub place : start + 16 * step ≡ found
    pub has : has_room last room objects found ≡ true
    pub least : (i : ℕ) → i < step → has_room last room objects (start + 16 * i) ≡ false

  pub least_found : (count start found : ℕ) → least_from count start last room objects ≡ Some found
      → IsLeast count start found
  least_found zero start found e = absurd cc
  least_found (suc k) start found e = go (has_room last room objects start) refl e (least_found k (start + 16) found)
    where
      go : (b : Bool) → has_room last room objects start ≡ b →
          (if b then Some start else least_from k (start + 16) last room objects) ≡ Some found
          → (least_from k (start + 16) last room objects ≡ Some found → IsLeast k (start + 16) found)
          → IsLeast (suc k) start found
      go true c h later =
          let same : start ≡ found = cc in
          record {
            step = 0;
            below = omega arith;
            place = omega (arith, same);
            has = subst (λ p. has_room last room objects p ≡ true) same c;
            least = λ i lt. absurd (omega arith);
          }
      go false c h later =
          let l = later h in
          record {
            step = suc l.step;
            below = omega (arith, l.below);
            place = omega (arith, l.place);
            has = l.has;
            least = first l.least;
          }
        where
          first : {n : ℕ} → ((i : ℕ) → i < n → has_room last room objects (start + 16 + 16 * i) ≡ false) → (i : ℕ)
              → i < suc n → has_room last room objects (start + 16 * i) ≡ false
          first f zero lt = let z : start ≡ start + 16 * 0 = omega arith in subst
              (λ p. has_room last room objects p ≡ false) z c
          first f (suc i) lt = let z : start + 16 + 16 * i ≡ start + 16 * suc i = omega arith in subst
              (λ p. has_room last room objects p ≡ false) z (f i (omega arith))

  pub none_found : (count start : ℕ) → least_from count start last room objects ≡ None → (i : ℕ) → i < count
      → has_room last room objects (start + 16 * i) ≡ false
  none_found zero start e i lt = absurd (omega arith)
  none_found (suc k) start e i lt = go (has_room last room objects start) refl e (none_found k (start + 16)) i lt
    where
      go : (b : Bool) → has_room last room objects start ≡ b →
          (if b then Some start else least_from k (start + 16) last room objects) ≡ None
          → (least_from k (start + 16) last room objects ≡ None → (i : ℕ) → i < k
          → has_room last room objects (start + 16 + 16 * i) ≡ false)
          → (i : ℕ) → i < suc k → has_room last room objects (start + 16 * i) ≡ false
      go true c h later i lt = absurd cc
      go false c h later zero lt = let z : start ≡ start + 16 * 0 = omega arith in subst
          (λ p. has_room last room objects p ≡ false) z c
      go false c h later (suc i) lt = let z : start + 16 + 16 * i
          ≡ start + 16 * suc i = omega arith in subst (λ p. has_room last room objects p ≡ false) z
          (later h i (omega arith))

pub room_holds : (size : ℕ) → size ≤ block_room size
room_holds size = omega arith

pub room_most : (size : ℕ) → 16 ≤ block_room size
room_most size = omega arith

pub room_whole : (size : ℕ) → block_room size % 16 ≡ 0
room_whole size = omega arith

pub least_place_found : (first last size : ℕ) (objects : Objects) (p : ℕ)
    → least_place first last size objects ≡ Some p → IsBlockPlace first last size objects p
unfolding least_place
least_place_found first last size objects p e =
    let l = least_found last (block_room size) objects ((last + 1 - first) / 16) first p e in
    let h = both _ _ l.has in
    record {
      step = l.step;
      is_step = sym l.place;
      in_heap = leb-true _ _ h.0;
      clear = clear_at p (block_room size) objects h.1;
      least = l.least;
    }

pub least_place_none : (first last size : ℕ) (objects : Objects) → least_place first last size objects ≡ None
    → (i : ℕ) → has_room last (block_room size) objects (first + 16 * i) ≡ false
unfolding least_place
least_place_none first last size objects e i = go (nat_le (suc i) ((last + 1 - first) / 16)) refl
  where
    go : (b : Bool) → nat_le (suc i) ((last + 1 - first) / 16) ≡ b
        → has_room last (block_room size) objects (first + 16 * i) ≡ false
    go true c = none_found last (block_room size) objects ((last + 1 - first) / 16) first e i (leb-true _ _ c)
    go false c =
        let past : (last + 1 - first) / 16 < suc i = leb-false _ _ c in
        let most : 16 ≤ block_room size = room_most size in
        let test : nat_le (first + 16 * i + block_room size) (last + 1)
        ≡ false = lt-leb _ _ (omega (arith, past, most)) in
        ap (λ b. b && is_clear (first + 16 * i) (block_room size) objects) test

-- the count of live blocks
count_added : (objects : Objects) (x : ObjectState) → block_count (objects ++ (x ∷ []))
    ≡ block_count objects + (if is_live_block x then 1 else 0)
unfolding block_count
count_added [] x = omega arith
count_added (o ∷ os) x = let rest = count_added os x in omega (arith, rest)

pub block_count_made : (address size : ℕ) (objects : Objects)
    → block_count (with_new Allocated address size objects) ≡ block_count objects + 1
unfolding with_new new_object
block_count_made address size objects = count_added objects (new_object Allocated address size)

pub block_count_other : (storage : Storage) (address size : ℕ) (objects : Objects) → is_allocated storage ≡ false
    → block_count (with_new storage address size objects) ≡ block_count objects
unfolding with_new new_object
block_count_other storage address size objects e =
    count_added objects (new_object storage address size) ∙ ap
    (λ b. block_count objects + (if b && true then 1 else 0)) e ∙ omega arith

-- an object that died is no live block
dead_block : (o : ObjectState) → is_live_block (record o { is_live = false }) ≡ false
dead_block o = elim (is_allocated o.storage) as (λ b. (b && false) ≡ false) [ true ↦ refl | false ↦ refl ]

count_set : (objects : Objects) (n : ℕ) → block_count (set objects n
    (record (object_at objects n) { is_live = false })) + (if is_live_block (object_at objects n) then 1 else 0)
    ≡ block_count objects
unfolding block_count
count_set [] n = refl
count_set (o ∷ os) zero =
    ap (λ b. (if b then 1 else 0) + block_count os + (if is_live_block o then 1 else 0)) (dead_block o) ∙ omega arith
count_set (o ∷ os) (suc n) = let rest = count_set os n in omega (arith, rest)

pub block_count_dead : (n : ℕ) (objects : Objects) → is_live_block (object_at objects n) ≡ true
    → block_count (with_dead n objects) + 1 ≡ block_count objects
unfolding with_dead
block_count_dead n objects e =
    ap (λ b. block_count (set objects n (record (object_at objects n) { is_live = false })) + (if b then 1 else 0))
    (sym e) ∙ count_set objects n

pub block_count_dead_other : (n : ℕ) (objects : Objects) → is_live_block (object_at objects n) ≡ false
    → block_count (with_dead n objects) ≡ block_count objects
unfolding with_dead
block_count_dead_other n objects e =
    let all : block_count (set objects n (record (object_at objects n) { is_live = false })) + 0 ≡ block_count objects =
    ap (λ b. block_count (set objects n (record (object_at objects n) { is_live = false })) + (if b then 1 else 0))
    (sym e) ∙ count_set objects n in
    omega (arith, all)

-- a place that has room, as a fact and as a test
clear_back : (start room : ℕ) (objects : Objects) → ((n : ℕ) → is_live_block (object_at objects n) ≡ true
    → IsClearOf start room (object_at objects n))
    → is_clear start room objects ≡ true
unfolding is_clear
clear_back start room [] h = refl
clear_back start room (o ∷ os) h = joined _ _ (one (is_live_block o) refl (h 0))
    (clear_back start room os (λ n. h (suc n)))
  where
    joined : (a b : Bool) → a ≡ true → b ≡ true → (a && b) ≡ true
    joined a b ea eb = ap (λ x. x && b) ea ∙ eb

    either : (x y : Bool) → (x ≡ true) ⊎ (y ≡ true) → (x || y) ≡ true
    either true y e = refl
    either false y (inl e) = absurd cc
    either false y (inr e) = e

    one : (b : Bool) → is_live_block o ≡ b → (b ≡ true → IsClearOf start room o)
        → (not b || (nat_le (start + room) o.address || nat_le (o.address + block_room o.size) start)) ≡ true
    one false e f = refl
    one true e f = either _ _ (tested (f refl))
      where
        tested : IsClearOf start room o → (nat_le (start + room) o.address ≡ true)
            ⊎ (nat_le (o.address + block_room o.size) start ≡ true)
        tested (inl before) = inl (le-leb _ _ before)
        tested (inr behind) = inr (le-leb _ _ behind)

pub has_room_tells : (last room : ℕ) (objects : Objects) (start : ℕ) → has_room last room objects start ≡ true
    → HasRoom last room objects start
has_room_tells last room objects start e =
    let h = both (nat_le (start + room) (last + 1)) (is_clear start room objects) e in
    record { in_heap = leb-true _ _ h.0; clear = clear_at start room objects h.1 }

pub has_room_by : (last room : ℕ) (objects : Objects) (start : ℕ) → HasRoom last room objects start
    → has_room last room objects start ≡ true
has_room_by last room objects start h =
    ap (λ b. b && is_clear start room objects) (le-leb _ _ h.in_heap) ∙ clear_back start room objects h.clear

-- the search comes to the least place
reaches : (last room : ℕ) (objects : Objects) (count start k : ℕ) → k < count
    → has_room last room objects (start + 16 * k) ≡ true
    → ((i : ℕ) → i < k → has_room last room objects (start + 16 * i) ≡ false)
    → least_from count start last room objects ≡ Some (start + 16 * k)
reaches last room objects zero start k lt h least = absurd (omega arith)
reaches last room objects (suc c) start zero lt h least =
    let z : start + 16 * 0 ≡ start = omega arith in
    let here : has_room last room objects start ≡ true = subst (λ p. has_room last room objects p ≡ true) z h in
    ap (λ b. if b then Some start else least_from c (start + 16) last room objects) here ∙ ap (λ p. Some p) (sym z)
reaches last room objects (suc c) start (suc k) lt h least =
    let z : start + 16 * 0 ≡ start = omega arith in
    let s : start + 16 * suc k ≡ start + 16 + 16 * k = omega arith in
    let here : has_room last room objects start ≡ false = subst (λ p. has_room last room objects p ≡ false) z
    (least 0 (omega arith)) in
    let next = reaches last room objects c (start + 16) k (omega arith)
    (subst (λ p. has_room last room objects p ≡ true) s h)
    (λ i below. let t : start + 16 * suc i ≡ start + 16 + 16 * i = omega arith in
    subst (λ p. has_room last room objects p ≡ false) t (least (suc i) (omega (arith, below)))) in
    ap (λ b. if b then Some start else least_from c (start + 16) last room objects) here ∙ next
    ∙ ap (λ p. Some p) (sym s)

pub least_place_by : (first last size : ℕ) (objects : Objects) (place : ℕ)
    → IsBlockPlace first last size objects place → least_place first last size objects ≡ Some place
unfolding least_place
least_place_by first last size objects place h =
    let most : 16 ≤ block_room size = room_most size in
    let e = h.is_step in
    let in_heap = h.in_heap in
    let below : h.step < (last + 1 - first) / 16 = omega (arith, most, e, in_heap) in
    let has : has_room last (block_room size) objects (first + 16 * h.step) ≡ true =
    subst (λ p. has_room last (block_room size) objects p ≡ true) e
    (has_room_by last (block_room size) objects place (record { in_heap = h.in_heap; clear = h.clear })) in
    reaches last (block_room size) objects ((last + 1 - first) / 16) first h.step below has h.least
    ∙ ap (λ p. Some p) (sym e)
