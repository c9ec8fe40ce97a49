-- Live objects that share no address: automatic and static ones end at the top of the object stack or below, allocated
-- ones
-- begin behind the object stack.
use Rattle.source_meaning.specs.Good.{EndsMade}
use Rattle.std.proofs.Common.{◌≡◌, ℕ, ◌+◌, ◌≤◌, ◌<◌, ◌⊎◌, inl, inr, List, [], ◌∷◌, Bool, true, false, length, refl, sym}
use Rattle.std.proofs.Common.{ap, ◌∙◌, subst, arith, nat_eq}
use Rattle.std.proofs.lemmas.Bool.{eqb-true, eqb-false, cases_lt}
use Rattle.obj_memory.specs.declared.object.Storage.{Storage}
use Rattle.obj_memory.specs.declared.object.Storage.TheVariants.{Static, Automatic, Allocated}
use Rattle.addr_map.specs.declared.region.Region.TheVariants.{Stack, Heap}
use Rattle.addr_map.specs.Places.{MapSizes, AreMapped, region_start, region_end}
use Rattle.addr_map.proofs.Order.{in_order}
use Rattle.obj_memory.specs.Objects.{ObjectState, Objects, object_at, new_object, with_new, with_dead}
use Rattle.obj_memory.specs.Heap.{is_allocated, block_room, object_room}
use Rattle.obj_memory.specs.Sound.{AreBeside, KeepsObjects, DoNotMeet, Continues}
use Rattle.obj_memory.proofs.Making.{new_last, new_other, dead_is_dead, dead_other, disjoint_kept, disjoint_dead}
use Rattle.obj_memory.proofs.Making.{disjoint_new}
use Rattle.source_meaning.specs.State.{Home}
use Rattle.source_meaning.specs.State.{NoObject, InObject}
use Rattle.source_meaning.specs.Calls.{}
use Rattle.source_meaning.specs.Blocks.{without_homes}
use Rattle.source_meaning.specs.Keeping.{region_of, IsInRegion, ArePlaced, AreSeparate}
use Rattle.source_meaning.proofs.Holding.{length-new, length-dead, live_made}
use Rattle.obj_memory.proofs.Continuing.{continues_dead}

-- objects stay in their regions

pub in_region : (sizes : MapSizes) (old new : ObjectState) → new.storage ≡ old.storage → new.address ≡ old.address
    → new.size ≡ old.size → IsInRegion sizes old → IsInRegion sizes new
in_region sizes old new s a z h = record {
  start = rw (s, a) h.start;
  end = rw (s, a, z) h.end;
}

pub placed_on : (sizes : MapSizes) (old new : Objects) → length new ≡ length old → Continues old new
    → ArePlaced sizes old → ArePlaced sizes new
placed_on sizes old new same c h n lt =
    let here : n < length old = omega (arith, same, lt) in
    in_region sizes (object_at old n) (object_at new n) (c.storage n here) (c.address n here) (c.size n here) (h n here)

pub placed_kept : (sizes : MapSizes) (old new : Objects) → KeepsObjects old new → ArePlaced sizes old
    → ArePlaced sizes new
placed_kept sizes old new k h n lt =
    let same = k.count in
    let e = k.at n in
    in_region sizes (object_at old n) (object_at new n) e.storage e.address e.size (h n (omega (arith, same, lt)))

-- the new object of a list that has one more stands in its region too
pub placed_new : (sizes : MapSizes) (storage : Storage) (address size : ℕ) (objects : Objects) → ArePlaced sizes objects
    → IsInRegion sizes (new_object storage address size) → ArePlaced sizes (with_new storage address size objects)
placed_new sizes storage address size objects h fresh n lt = by (cases_lt n (length objects))
  where
    by : (n < length objects) ⊎ (length objects ≤ n)
        → IsInRegion sizes (object_at (with_new storage address size objects) n)
    by (inl less) = subst (IsInRegion sizes) (sym (new_other storage address size n objects less)) (h n less)
    by (inr le) =
        let same : length objects ≡ n = omega (arith, lt, length-new storage address size objects, le) in
        subst (λ k. IsInRegion sizes (object_at (with_new storage address size objects) k)) same
        (subst (IsInRegion sizes) (sym (new_last storage address size objects)) fresh)

-- a live block begins behind the object stack
heap_begins : (storage : Storage) (sizes : MapSizes) → is_allocated storage ≡ true
    → region_start sizes (region_of storage) ≡ region_start sizes Heap
heap_begins Static sizes e = absurd (cc)
heap_begins Automatic sizes e = absurd (cc)
heap_begins Allocated sizes e = refl

pub behind_stack : (sizes : MapSizes) (top : ℕ) (objects : Objects) → AreMapped sizes → AreSeparate sizes top objects
    → (n : ℕ) → (object_at objects n).is_live ≡ true → is_allocated (object_at objects n).storage ≡ true
    → region_end sizes Stack ≤ (object_at objects n).address
behind_stack sizes top objects mapped h n live block =
    let order = in_order sizes mapped Stack Heap (omega arith) in
    let first = heap_begins (object_at objects n).storage sizes block in
    let start = (h.placed n (live_made objects n live)).start in
    omega (arith, order, first, start)

-- an object that is no block takes the bytes that it has
pub held_room : (storage : Storage) (size : ℕ) → is_allocated storage ≡ false → object_room storage size ≡ size
held_room Static size e = refl
held_room Automatic size e = refl
held_room Allocated size e = absurd (cc)

pub separate_kept : (sizes : MapSizes) (top : ℕ) (old new : Objects) → KeepsObjects old new → AreSeparate sizes top old
    → AreSeparate sizes top new
separate_kept sizes top old new k h = record {
  apart = disjoint_kept old new k h.apart;
  placed = placed_kept sizes old new k h.placed;
  below = λ n live held.
      let e = k.at n in
      let a = e.address in
      let z = e.size in
      let end = h.below n (sym e.live ∙ live) (ap is_allocated (sym e.storage) ∙ held) in
      omega (arith, a, z, end);
  bottom = h.bottom;
  top = h.top;
}

-- the others stay as they are where one died
dead_same : (m n : ℕ) (objects : Objects) → (object_at (with_dead m objects) n).is_live ≡ true
    → object_at (with_dead m objects) n ≡ object_at objects n
dead_same m n objects live = by (nat_eq n m) refl
  where
    by : (b : Bool) → nat_eq n m ≡ b → object_at (with_dead m objects) n ≡ object_at objects n
    by true e = absurd (let same = eqb-true n m e in let both : true ≡ false = sym live
        ∙ ap (λ k. (object_at (with_dead m objects) k).is_live) same ∙ dead_is_dead m objects in cc)
    by false e = dead_other m n objects (eqb-false n m e)

pub separate_dead : (sizes : MapSizes) (top m : ℕ) (objects : Objects) → AreSeparate sizes top objects
    → AreSeparate sizes top (with_dead m objects)
separate_dead sizes top m objects h = record {
  apart = disjoint_dead m objects h.apart;
  placed = placed_on sizes objects (with_dead m objects) (length-dead m objects) (continues_dead m objects) h.placed;
  below = λ n live held.
      let e = dead_same m n objects live in
      subst (λ (o : ObjectState). o.address + o.size ≤ top) (sym e)
      (h.below n (ap (λ (o : ObjectState). o.is_live) (sym e) ∙ live)
      (ap (λ (o : ObjectState). is_allocated o.storage) (sym e) ∙ held));
  bottom = h.bottom;
  top = h.top;
}

pub separate_without : (sizes : MapSizes) (top : ℕ) (homes : List Home) (objects : Objects)
    → AreSeparate sizes top objects → AreSeparate sizes top (without_homes homes objects)
separate_without sizes top [] objects h = h
separate_without sizes top (NoObject ∷ hs) objects h = separate_without sizes top hs objects h
separate_without sizes top (InObject k ∷ hs) objects h = separate_without sizes top hs (with_dead k objects)
    (separate_dead sizes top k objects h)

-- a new object

-- a live object of a list with a new one is one of the list before, or the new one
new_cases : (storage : Storage) (address size : ℕ) (objects : Objects) (n : ℕ)
    → (object_at (with_new storage address size objects) n).is_live ≡ true → (n < length objects) ⊎ (length objects ≡ n)
new_cases storage address size objects n live = by (cases_lt n (length objects))
  where
    by : (n < length objects) ⊎ (length objects ≤ n) → (n < length objects) ⊎ (length objects ≡ n)
    by (inl lt) = inl lt
    by (inr le) = inr (let made = live_made (with_new storage address size objects) n live in omega
        (arith, made, length-new storage address size objects, le))

-- what holds of those before, if it is live and of some kind of storage, and of the new one
new_each : (P : ObjectState → Type 0) (b : Bool) (storage : Storage) (address size : ℕ) (objects : Objects)
    → ((n : ℕ) → (object_at objects n).is_live ≡ true → is_allocated (object_at objects n).storage ≡ b
    → P (object_at objects n))
    → (is_allocated (new_object storage address size).storage ≡ b → P (new_object storage address size))
    → (n : ℕ) → (object_at (with_new storage address size objects) n).is_live ≡ true
    → is_allocated (object_at (with_new storage address size objects) n).storage ≡ b
    → P (object_at (with_new storage address size objects) n)
new_each P b storage address size objects old new n live kind = by (new_cases storage address size objects n live)
  where
    by : (n < length objects) ⊎ (length objects ≡ n) → P (object_at (with_new storage address size objects) n)
    by (inl lt) =
        let e = new_other storage address size n objects lt in
        subst P (sym e) (old n (ap (λ (o : ObjectState). o.is_live) (sym e) ∙ live)
        (ap (λ (o : ObjectState). is_allocated o.storage) (sym e) ∙ kind))
    by (inr same) =
        let e = ap (λ k. object_at (with_new storage address size objects) k) (sym same)
        ∙ new_last storage address size objects in
        subst P (sym e) (new (ap (λ (o : ObjectState). is_allocated o.storage) (sym e) ∙ kind))

allocated_is : (address size : ℕ) → is_allocated (new_object Allocated address size).storage ≡ false → {A : Type 0} → A
unfolding new_object
allocated_is address size e = absurd (cc)

automatic_end : (address size : ℕ)
    → (new_object Automatic address size).address + (new_object Automatic address size).size ≤ address + size
unfolding new_object
automatic_end address size = omega arith

-- by whether it is a block
by_storage : (o : ObjectState) (A : Type 0) → (is_allocated o.storage ≡ true → A) → (is_allocated o.storage ≡ false → A)
    → A
by_storage o A block other = by (is_allocated o.storage) refl
  where
    by : (b : Bool) → is_allocated o.storage ≡ b → A
    by true e = block e
    by false e = other e

-- what a new object is
new_storage : (storage : Storage) (address size : ℕ) → (new_object storage address size).storage ≡ storage
unfolding new_object
new_storage storage address size = refl

new_beside : (storage : Storage) (address size : ℕ) (o : ObjectState)
    → DoNotMeet address (object_room storage size) o.address (object_room o.storage o.size)
    → AreBeside (new_object storage address size) o
unfolding new_object
new_beside storage address size o h = h

new_region : (sizes : MapSizes) (storage : Storage) (address size : ℕ)
    → region_start sizes (region_of storage) ≤ address
    → address + object_room storage size ≤ region_end sizes (region_of storage)
    → IsInRegion sizes (new_object storage address size)
unfolding new_object
new_region sizes storage address size s e = record { start = s; end = e }

-- a block in the heap that meets no other block
pub separate_block : (sizes : MapSizes) (stacked address size : ℕ) (objects : Objects) → AreMapped sizes
    → AreSeparate sizes stacked objects → region_start sizes Heap ≤ address
    → address + block_room size ≤ region_end sizes Heap
    → ((n : ℕ) → (object_at objects n).is_live ≡ true → is_allocated (object_at objects n).storage ≡ true
    → DoNotMeet address (block_room size) (object_at objects n).address
    (object_room (object_at objects n).storage (object_at objects n).size))
    → AreSeparate sizes stacked (with_new Allocated address size objects)
separate_block sizes stacked address size objects mapped h at fits clear = record {
  apart = disjoint_new Allocated address size objects h.apart
      (λ n live. new_beside Allocated address size (object_at objects n)
      (by_storage (object_at objects n)
      (DoNotMeet address (block_room size) (object_at objects n).address
      (object_room (object_at objects n).storage (object_at objects n).size)) (clear n live)
      (λ held. inr (let end = h.below n live held in let top = h.top in let order = in_order sizes mapped Stack Heap
      (omega arith) in let room = held_room (object_at objects n).storage (object_at objects n).size held in omega
      (arith, end, top, order, room, at)))));
  placed = placed_new sizes Allocated address size objects h.placed (new_region sizes Allocated address size at fits);
  below = new_each (λ o. o.address + o.size ≤ stacked) false Allocated address size objects h.below
      (λ e. allocated_is address size e);
  bottom = h.bottom;
  top = h.top;
}

-- an automatic object on top of the object stack
pub separate_automatic : (sizes : MapSizes) (stacked address size : ℕ) (objects : Objects) → AreMapped sizes
    → AreSeparate sizes stacked objects → stacked ≤ address → address + size ≤ region_end sizes Stack
    → AreSeparate sizes (address + size) (with_new Automatic address size objects)
separate_automatic sizes stacked address size objects mapped h at fits = record {
  apart = disjoint_new Automatic address size objects h.apart
      (λ n live. new_beside Automatic address size (object_at objects n)
      (by_storage (object_at objects n)
      (DoNotMeet address size (object_at objects n).address
      (object_room (object_at objects n).storage (object_at objects n).size))
      (λ block. inl (let start = behind_stack sizes stacked objects mapped h n live block in omega
      (arith, start, fits)))
      (λ held. inr (let end = h.below n live held in let room = held_room (object_at objects n).storage
      (object_at objects n).size held in omega (arith, end, room, at)))));
  placed = placed_new sizes Automatic address size objects h.placed
      (new_region sizes Automatic address size (let bottom = h.bottom in omega (arith, bottom, at)) fits);
  below = new_each (λ o. o.address + o.size ≤ address + size) false Automatic address size objects
      (λ n live held. let end = h.below n live held in omega arith) (λ e. automatic_end address size);
  bottom = let bottom = h.bottom in omega (arith, bottom, at);
  top = fits;
}

-- objects that are made, and still live, are blocks

pub ends_as_many : (old new : Objects) → length new ≡ length old → EndsMade old new
ends_as_many old new same n le live = absurd (let lt = live_made new n live in omega (arith, lt, same, le))

pub ends_same : (objects : Objects) → EndsMade objects objects
ends_same objects = ends_as_many objects objects refl

block_storage : (address size : ℕ) → is_allocated (new_object Allocated address size).storage ≡ true
unfolding new_object
block_storage address size = refl

pub ends_block : (address size : ℕ) (objects : Objects) → EndsMade objects (with_new Allocated address size objects)
ends_block address size objects n le live = by (new_cases Allocated address size objects n live)
  where
    by : (n < length objects) ⊎ (length objects ≡ n)
        → is_allocated (object_at (with_new Allocated address size objects) n).storage ≡ true
    by (inl lt) = absurd (omega (arith, lt, le))
    by (inr same) = ap (λ k. is_allocated (object_at (with_new Allocated address size objects) k).storage) (sym same)
        ∙ ap (λ o. is_allocated o.storage) (new_last Allocated address size objects) ∙ block_storage address size

pub live_before : (mid new : Objects) → Continues mid new → (n : ℕ) → n < length mid → (object_at new n).is_live ≡ true
    → (object_at mid n).is_live ≡ true
live_before mid new c n lt live = by (object_at mid n).is_live refl
  where
    by : (b : Bool) → (object_at mid n).is_live ≡ b → (object_at mid n).is_live ≡ true
    by true e = e
    by false e = absurd (let both : true ≡ false = sym live ∙ c.dead n lt e in cc)

pub ends_then : (old mid new : Objects) → Continues mid new → EndsMade old mid → EndsMade mid new → EndsMade old new
ends_then old mid new c p q n le live = by (cases_lt n (length mid))
  where
    by : (n < length mid) ⊎ (length mid ≤ n) → is_allocated (object_at new n).storage ≡ true
    by (inl lt) = ap is_allocated (c.storage n lt) ∙ p n le (live_before mid new c n lt live)
    by (inr ge) = q n ge live

-- the state of a caller, whose stack's top goes back, where all objects that were made and still live are blocks
pub separate_back : (sizes : MapSizes) (stacked top : ℕ) (old new : Objects) → AreSeparate sizes stacked old
    → AreSeparate sizes top new → Continues old new → EndsMade old new → AreSeparate sizes stacked new
separate_back sizes stacked top old new h g c ends = record {
  apart = g.apart;
  placed = g.placed;
  below = λ n live held. by n live held (cases_lt n (length old));
  bottom = h.bottom;
  top = h.top;
}
  where
    by : (n : ℕ) → (object_at new n).is_live ≡ true → is_allocated (object_at new n).storage ≡ false
        → (n < length old) ⊎ (length old ≤ n) → (object_at new n).address + (object_at new n).size ≤ stacked
    by n live held (inl lt) =
        let a = c.address n lt in
        let z = c.size n lt in
        let end = h.below n (live_before old new c n lt live) (ap is_allocated (sym (c.storage n lt)) ∙ held) in
        omega (arith, a, z, end)
    by n live held (inr le) = absurd (let both : true ≡ false = sym (ends n le live) ∙ held in cc)
