-- One object changes, in the list and in memory.
use Rattle.std.proofs.Common.{◌≡◌, ◌≢◌, ℕ, zero, suc, ◌+◌, ◌*◌, ◌/◌, ◌<◌, ◌≤◌, ◌⊎◌, inl, inr, [], ◌∷◌}
use Rattle.std.proofs.Common.{true}
use Rattle.std.proofs.Common.{length, get_or, sym, ◌∙◌, subst, arith, ⊎_elim}
use Rattle.std.proofs.lemmas.Bool.{cases_eq}
use Rattle.addr_map.specs.Places.{MapSizes, AreMapped, region_size, region_start}
use Rattle.obj_memory.specs.declared.object.Storage.{Storage}
use Rattle.obj_memory.specs.declared.object.Storage.TheVariants.{Static, Automatic, Allocated}
use Rattle.obj_memory.specs.Heap.{object_room}
use Rattle.obj_memory.specs.Objects.{ObjectState, Objects, object_at}
use Rattle.obj_memory.specs.Sound.{IsSound, IsSoundObject, KeepsObjects, AreBeside}
use Rattle.obj_memory.proofs.Making.{disjoint_kept}
use Rattle.flat_code.specs.Memory.{Bytes}
use Rattle.flat_code.specs.Routines.Metadata.{IsObjectWord}
use Rattle.flat_code.proofs.Routines.Regions.{IsLaidOut}
use Rattle.flat_code.specs.Routines.Objects.StandsFor.{Views, Keys, BlockRow, no_row, IsPlaced, IsLock, global_lock}
use Rattle.flat_code.specs.Routines.Objects.StandsFor.{IsKeyed}
use Rattle.flat_code.specs.Routines.Objects.StandsFor.{IsHere, AreLocked, IsRowOf, IsTable, StandsFor}
use Rattle.flat_code.specs.Routines.Objects.Changes.{Changes}

-- what is live was made
pub live_is_made : (objects : Objects) (n : ℕ) → (object_at objects n).is_live ≡ true → n < length objects
live_is_made [] n e = cc
live_is_made (o ∷ objects) zero e = omega arith
live_is_made (o ∷ objects) (suc n) e = let l = live_is_made objects n e in omega arith

-- a word of an object is a word of object space
pub word_of : (sizes : MapSizes) (functions : ℕ) (objects : Objects) (o : ObjectState) (w : ℕ)
    → IsSoundObject functions objects o → IsPlaced sizes o → w < o.size / 8 → IsObjectWord sizes (o.address + 8 * w)
word_of sizes functions objects o w sound p l =
    let a = sound.aligned in
    record { first = omega (arith, p.first); last = omega (arith, p.last); aligned = omega arith }

-- an object has no more bytes than it takes
size_of_room : (s : Storage) (size : ℕ) → size ≤ object_room s size
size_of_room Static size = omega arith
size_of_room Automatic size = omega arith
size_of_room Allocated size = omega arith

pub beside_bytes : (o x : ObjectState) → AreBeside o x
    → (o.address + o.size ≤ x.address) ⊎ (x.address + x.size ≤ o.address)
beside_bytes o x h =
    let a = size_of_room o.storage o.size in let b = size_of_room x.storage x.size in
    ⊎_elim (λ l. inl (omega arith)) (λ r. inr (omega arith)) h

pub global_is_lock : (m : MapSizes) → AreMapped m → IsLock m (global_lock m)
unfolding region_start region_size
global_is_lock m h = record { first = omega arith; last = omega arith; aligned = omega arith }

module _ (g : Views) (k : Keys) (mapped : AreMapped g.sizes) (ok : IsLaidOut g.sizes) (n : ℕ) (old new : Objects)
    (m m' : Bytes) (st : StandsFor g k old m) (live : (object_at old n).is_live ≡ true) (keeps : KeepsObjects old new)
    (sound : IsSound g.functions new) (same : (j : ℕ) → j ≢ n → object_at new j ≡ object_at old j)
    (c : Changes g k (object_at old n) (object_at new n) m m') where
  was_live : (j : ℕ) → (object_at new j).is_live ≡ true → (object_at old j).is_live ≡ true
  was_live j l = sym (keeps.at j).live ∙ l

  placed : (j : ℕ) → (object_at new j).is_live ≡ true → IsPlaced g.sizes (object_at new j)
  placed j l =
      let p = st.placed j (was_live j l) in let e = keeps.at j in
      record { first = omega (arith, p.first, e.address); last = omega (arith, p.last, e.address, e.size) }

  keyed : (j : ℕ) → j < length new → IsKeyed g.sizes k j (object_at new j)
  keyed j l =
      let h = st.keyed.each j (omega (arith, l, keeps.count)) in let e = (keeps.at j).storage in
      record { lock = h.lock; static = λ q. h.static (sym e ∙ q); other = λ q. h.other (λ z. q (e ∙ z)) }

  other : (j : ℕ) → j ≢ n → (object_at old j).is_live ≡ true → IsHere g k m' (object_at old j)
  other j ne l =
      let h = st.here j l in
      let p = st.placed j l in
      let o = object_at old j in
      let x = object_at old n in
      let small = ok.small in
      let out = beside_bytes o x (st.disjoint.apart j n ne l live) in
      record {
        bytes = λ i il. c.bytes (o.address + i) (omega (arith, p.last))
            (⊎_elim (λ z. inl (omega (arith, z))) (λ z. inr (omega (arith, z))) out) ∙ h.bytes i il;
        tags = λ w wl. (let word = word_of g.sizes g.functions old o w (st.sound.at j) p wl in
            c.entries (o.address + 8 * w) word
            (⊎_elim (λ z. inl (omega (arith, z))) (λ z. inr (omega (arith, z))) out)) ∙ h.tags w wl;
      }

  here : (j : ℕ) → (object_at new j).is_live ≡ true → IsHere g k m' (object_at new j)
  here j l = ⊎_elim
      (λ (e : j ≡ n). subst (λ z. IsHere g k m' (object_at new z)) (sym e) c.here)
      (λ (ne : j ≢ n). subst (IsHere g k m') (sym (same j ne)) (other j ne (was_live j l)))
      (cases_eq j n)

  locks : AreLocked g.sizes k new m'
  locks = record {
    live = λ j l. (let h = st.keyed.each j (live_is_made old j (was_live j l)) in c.tables.locks (k.held j).lock h.lock)
        ∙ st.locks.live j (was_live j l);
    dead = λ j l d e. (let l' : j < length old = omega (arith, l, keeps.count) in
        st.locks.dead j l' (sym (keeps.at j).live ∙ d)
        (sym (c.tables.locks (k.held j).lock (st.keyed.each j l').lock) ∙ e));
    global = c.tables.locks (global_lock g.sizes) (global_is_lock g.sizes mapped) ∙ st.locks.global;
    unused = λ a l ne none. c.tables.locks a l ∙ st.locks.unused a l ne (λ j jl. none j ((keeps.at j).live ∙ jl));
  }

  row_kept : (row : BlockRow) (j : ℕ) → IsRowOf k old row j → IsRowOf k new row j
  row_kept row j r =
      let e = keeps.at j in
      record {
        live = e.live ∙ r.live;
        block = e.storage ∙ r.block;
        start = r.start ∙ sym e.address;
        size = r.size ∙ sym e.size;
        key = r.key;
      }

  table : IsTable k new (g.blocks m)
  table = record {
    by_address = st.table.by_address;
    block_of = λ i l. (let r = st.table.block_of i l in (r.0, row_kept (get_or (g.blocks m) i no_row) r.0 r.1));
    row_of = λ j l b. (let r = st.table.row_of j (was_live j l) (sym (keeps.at j).storage ∙ b) in
        (r.0, r.1, row_kept (get_or (g.blocks m) r.0 no_row) j r.2));
  }

  pub changed : StandsFor g k new m'
  changed = record {
    sound = sound;
    disjoint = disjoint_kept old new keeps st.disjoint;
    placed = placed;
    keyed = record {
      each = keyed;
      alone = λ i j il jl ne e. st.keyed.alone i j (omega (arith, il, keeps.count)) (omega (arith, jl, keeps.count)) ne
          (sym (keeps.at i).storage ∙ e);
      shared = λ i j il jl a b e. st.keyed.shared i j (omega (arith, il, keeps.count)) (omega (arith, jl, keeps.count))
          (λ q. a ((keeps.at i).storage ∙ q)) (λ q. b ((keeps.at j).storage ∙ q)) e;
      rising = λ i j le jl a b. st.keyed.rising i j le (omega (arith, jl, keeps.count))
          (λ q. a ((keeps.at i).storage ∙ q)) (λ q. b ((keeps.at j).storage ∙ q));
    };
    here = here;
    locks = locks;
    counted = c.tables.counter ∙ st.counted;
    table = subst (IsTable k new) (sym c.tables.blocks) table;
  }
