-- A block of the heap is born.
use Rattle.std.proofs.Common.{◌≡◌, ◌≢◌, ℕ, ◌+◌, ◌*◌, ◌/◌, ◌%◌, ◌<◌, ◌≤◌, ◌⊎◌, inl, inr, ⊎_elim, true}
use Rattle.std.proofs.Common.{Some, length, refl, sym, ap, ◌∙◌, subst, arith}
use Rattle.std.specs.Prelude.{nat_lt}
use Rattle.std.proofs.lemmas.Bool.{cond-true, cond-false, lt-ltb, le-ltb}
use Rattle.addr_map.specs.declared.region.Region.TheVariants.{Globals, Stack, Heap}
use Rattle.addr_map.specs.Places.{MapSizes, AreMapped, objects_begin, region_start, region_last, region_end}
use Rattle.addr_map.proofs.Order.{in_order}
use Rattle.obj_memory.specs.declared.object.Storage.{Storage}
use Rattle.obj_memory.specs.declared.object.Storage.TheVariants.{Static, Automatic, Allocated}
use Rattle.obj_memory.specs.declared.value.Tag.TheVariants.{Untagged}
use Rattle.obj_memory.specs.Objects.{Objects, object_at, new_object, with_new}
use Rattle.obj_memory.specs.Heap.{block_room, object_room, least_place}
use Rattle.obj_memory.specs.Sound.{IsBlockPlace, AreBeside, DoNotMeet}
use Rattle.obj_memory.proofs.Listed.{every_replicate}
use Rattle.obj_memory.proofs.Making.{new_last, new_other, disjoint_new}
use Rattle.obj_memory.proofs.Placing.{least_place_found, room_holds}
use Rattle.obj_memory.proofs.Soundness.{sound_new}
use Rattle.source_meaning.specs.Keeping.{region_of, ArePlaced}
use Rattle.source_meaning.proofs.Holding.{length-new}
use Rattle.flat_code.specs.Memory.{Bytes, load}
use Rattle.flat_code.specs.Routines.Metadata.{View}
use Rattle.flat_code.proofs.Routines.Regions.{laid_out}
use Rattle.flat_code.specs.Routines.Objects.StandsFor.{Views, Keys, BlockRow, IsKeyed, IsRowOf, IsTable, StandsFor}
use Rattle.flat_code.specs.Routines.Objects.Changes.{IsFresh, AreBorn}
use Rattle.flat_code.proofs.Routines.Objects.Changing.{live_is_made, word_of, beside_bytes}
use Rattle.flat_code.proofs.Routines.Objects.Lives.{born}
use Rattle.heap_space.specs.Rows.{AreInOrder, with_row}
use Rattle.heap_space.specs.Table.{block_rows}
use Rattle.heap_space.proofs.Counting.{live_block}
use Rattle.heap_space.proofs.Regions.{table_laid_out, last_of_heap}
use Rattle.flat_actions.specs.Actions.{views_of, KeepsHeld, StaysElsewhere}
use Rattle.lib_wrappers.specs.AllocatingRoutines.Births.{with_key, IsBlockMade}
use Rattle.lib_wrappers.proofs.AllocatingRoutines.TableRows.{table_with}

-- ---- keys with one more

pub own_before : (n lock : ℕ) (k : Keys) (j : ℕ) → j < n → (with_key n lock k).own j ≡ k.own j
own_before n lock k j l = cond-true (nat_lt j n) (k.own j) k.made (lt-ltb j n l)

pub held_before : (n lock : ℕ) (k : Keys) (j : ℕ) → j < n → (with_key n lock k).held j ≡ k.held j
held_before n lock k j l = cond-true (nat_lt j n) (k.held j) (record { key = 2 + k.made; lock = lock }) (lt-ltb j n l)

pub own_after : (n lock : ℕ) (k : Keys) (j : ℕ) → n ≤ j → (with_key n lock k).own j ≡ k.made
own_after n lock k j l = cond-false (nat_lt j n) (k.own j) k.made (le-ltb j n l)

pub held_after : (n lock : ℕ) (k : Keys) (j : ℕ) → n ≤ j
    → (with_key n lock k).held j ≡ record { key = 2 + k.made; lock = lock }
held_after n lock k j l =
    cond-false (nat_lt j n) (k.held j) (record { key = 2 + k.made; lock = lock }) (le-ltb j n l)

pub keys_keep : (n lock : ℕ) (objects : Objects) (k : Keys) → length objects ≤ n → KeepsHeld objects k
    (with_key n lock k)
keys_keep n lock objects k le = record {
  own = λ j l. own_before n lock k j (omega arith);
  held = λ j l. held_before n lock k j (omega arith);
}

-- ---- a lock word that was free is no live object's

pub free_is_unused : (g : Views) (k : Keys) (objects : Objects) (m : Bytes) (lock : ℕ) → StandsFor g k objects m
    → load 8 m lock ≡ 0 → (n : ℕ) → (object_at objects n).is_live ≡ true → (k.held n).lock ≢ lock
free_is_unused g k objects m lock st empty n live e =
    let held = st.keyed.each n (live_is_made objects n live) in
    let at : (k.held n).key ≡ 0 = sym (st.locks.live n live) ∙ ap (load 8 m) e ∙ empty in
    by (object_at objects n).storage refl held at
  where
    by : (s : Storage) → (object_at objects n).storage ≡ s → IsKeyed g.sizes k n (object_at objects n)
        → (k.held n).key ≡ 0 → ⊥
    by Static q held at = let z = (held.static q).0 in omega arith
    by Automatic q held at = let z = (held.other (λ y. (let no : Automatic ≡ Static = sym q ∙ y in cc))).0 in omega
        arith
    by Allocated q held at = let z = (held.other (λ y. (let no : Allocated ≡ Static = sym q ∙ y in cc))).0 in omega
        arith

-- ---- the place of a block lies in the heap

pub record LiesInHeap (map : MapSizes) (p z : ℕ) : Type 0 where
  pub first : region_start map Heap ≤ p
  pub aligned : p % 16 ≡ 0
  pub last : p + block_room z ≤ region_end map Heap
  pub begins : objects_begin ≤ p
  pub holds : z ≤ block_room z

pub place_lies : (map : MapSizes) → AreMapped map → (objects : Objects) (p z : ℕ)
    → least_place (region_start map Heap) (region_last map Heap) z objects ≡ Some p → LiesInHeap map p z
place_lies map mapped objects p z found =
    let place = least_place_found (region_start map Heap) (region_last map Heap) z objects p found in
    let lie = table_laid_out map mapped in let a = lie.heap_aligned in let f = lie.heap_first in
    let step = place.is_step in let in_heap = place.in_heap in let e = last_of_heap map lie in
    record {
      first = omega arith;
      aligned = omega arith;
      last = omega arith;
      begins = omega arith;
      holds = room_holds z;
    }

-- ---- the birth

module _ (map : MapSizes) (mapped : AreMapped map) (functions : ℕ) (types : ℕ → ℕ) (entry : View)
    (IsGood : Bytes → Type 0) (k : Keys) (old : Objects) (p z lock : ℕ) (m m' : Bytes)
    (st : StandsFor (views_of map functions types entry) k old m) (placed : ArePlaced map old)
    (found : least_place (region_start map Heap) (region_last map Heap) z old ≡ Some p)
    (b : IsBlockMade map entry IsGood p z lock m m') where
  abbrev g : Views
  g = views_of map functions types entry

  abbrev new : Objects
  new = with_new Allocated p z old

  abbrev k' : Keys
  k' = with_key (length old) lock k

  place : IsBlockPlace (region_start map Heap) (region_last map Heap) z old p
  place = least_place_found (region_start map Heap) (region_last map Heap) z old p found

  lies : LiesInHeap map p z
  lies = place_lies map mapped old p z found

  -- it meets no live object
  clear_of : (n : ℕ) → (object_at old n).is_live ≡ true → (s : Storage) → (object_at old n).storage ≡ s
      → DoNotMeet p (block_room z) (object_at old n).address (object_room s (object_at old n).size)
  clear_of n live Static e =
      let r = subst (λ s. (object_at old n).address + object_room s (object_at old n).size
      ≤ region_end map (region_of s)) e (placed n (live_is_made old n live)).end in
      let o = in_order map mapped Globals Heap (omega arith) in let f = lies.first in inr (omega arith)
  clear_of n live Automatic e =
      let r = subst (λ s. (object_at old n).address + object_room s (object_at old n).size
      ≤ region_end map (region_of s)) e (placed n (live_is_made old n live)).end in
      let o = in_order map mapped Stack Heap (omega arith) in let f = lies.first in inr (omega arith)
  clear_of n live Allocated e = place.clear n (live_block (object_at old n) e live)

  beside : (n : ℕ) → (object_at old n).is_live ≡ true → AreBeside (new_object Allocated p z) (object_at old n)
  unfolding new_object
  beside n live = clear_of n live (object_at old n).storage refl

  beside_range : (n : ℕ) → (object_at old n).is_live ≡ true
      → (p + z ≤ (object_at old n).address) ⊎ ((object_at old n).address + (object_at old n).size ≤ p)
  unfolding new_object
  beside_range n live = beside_bytes (new_object Allocated p z) (object_at old n) (beside n live)

  is_fresh : IsFresh g m' (new_object Allocated p z)
  unfolding new_object
  is_fresh =
      let l = lies in let first = l.begins in let last = l.last in let holds = l.holds in
      record {
        storage = λ e. cc;
        placed = record { first = omega arith; last = omega arith };
        live = refl;
        zeros = every_replicate (λ x. x ≡ 0) 0 z 0 refl refl;
        no_tags = every_replicate (λ x. x ≡ Untagged) Untagged (z / 8) Untagged refl refl;
        bytes = b.range.zeros;
        entries = b.range.cleared;
      }

  only : (n : ℕ) → length old ≤ n → n < length new → length old ≡ n
  only n l h = let e = length-new Allocated p z old in omega arith

  row_stays : (row : BlockRow) (n : ℕ) → IsRowOf k old row n → IsRowOf k' new row n
  row_stays row n r =
      let made = live_is_made old n r.live in
      let same = new_other Allocated p z n old made in
      record {
        live = ap (λ o. o.is_live) same ∙ r.live;
        block = ap (λ o. o.storage) same ∙ r.block;
        start = r.start ∙ sym (ap (λ o. o.address) same);
        size = r.size ∙ sym (ap (λ o. o.size) same);
        key = r.key ∙ sym (ap (λ h. h.key) (held_before (length old) lock k n made));
      }

  abbrev row : BlockRow
  row = record { start = p; size = z; key = 2 + k.made }

  row_born : IsRowOf k' new row (length old)
  unfolding new_object
  row_born =
      let same = new_last Allocated p z old in
      record {
        live = ap (λ o. o.is_live) same;
        block = ap (λ o. o.storage) same;
        start = sym (ap (λ o. o.address) same);
        size = sym (ap (λ o. o.size) same);
        key = sym (ap (λ h. h.key) (held_after (length old) lock k (length old) (omega arith)));
      }

  was_block : (n : ℕ) → n ≢ length old → (object_at new n).is_live ≡ true → (object_at new n).storage ≡ Allocated
      → ((object_at old n).is_live ≡ true) × ((object_at old n).storage ≡ Allocated)
  was_block n ne live block =
      let h = live_is_made new n live in let e = length-new Allocated p z old in
      let same = new_other Allocated p z n old (omega (arith, ne)) in
      (ap (λ o. o.is_live) (sym same) ∙ live, ap (λ o. o.storage) (sym same) ∙ block)

  rows_are : block_rows map m' ≡ with_row row (block_rows map m)
  rows_are = b.rows ∙ ap (λ c. with_row (record { start = p; size = z; key = c }) (block_rows map m)) st.counted

  table : IsTable k' new (block_rows map m')
  table = subst (IsTable k' new) (sym rows_are)
      (table_with k k' old new (block_rows map m) row (length old) (region_start map Heap) (region_end map Heap)
      st.table
      (subst (AreInOrder (region_start map Heap) (region_end map Heap)) rows_are b.good.table.in_order)
      row_stays row_born was_block)

  births : AreBorn g k k' old new lock m m'
  births =
      let e = length-new Allocated p z old in let counted = st.counted in let counter = b.key.counter in
      let ok = laid_out map mapped in let small = ok.small in
      record {
        some = omega arith;
        same = λ n l. new_other Allocated p z n old l;
        fresh = λ n l h. subst (IsFresh g m')
            (sym (ap (object_at new) (sym (only n l h)) ∙ new_last Allocated p z old)) is_fresh;
        sound = sound_new Allocated p z old st.sound lies.aligned;
        disjoint = disjoint_new Allocated p z old st.disjoint beside;
        alone = λ n l h block. omega arith;
        made = refl;
        own = λ n l. own_before (length old) lock k n l;
        held = λ n l. held_before (length old) lock k n l;
        new_own = λ n l. own_after (length old) lock k n l;
        new_held = λ n l. held_after (length old) lock k n l;
        lock_word = b.key.was_free.lock;
        not_global = b.key.was_free.not_global;
        free = free_is_unused g k old m lock st b.key.was_free.empty;
        locked = b.key.locked ∙ counted;
        counter = omega arith;
        keeps = record {
          bytes = λ n live j l. (let out = beside_range n live in let at = st.placed n live in let last = at.last in
              b.range.low ((object_at old n).address + j) (omega arith)
              (⊎_elim (λ x. inr (omega arith)) (λ x. inl (omega arith)) out));
          entries = λ n live w l. (let out = beside_range n live in
              b.range.entries ((object_at old n).address + 8 * w)
              (word_of map functions old (object_at old n) w (st.sound.at n) (st.placed n live) l)
              (⊎_elim (λ x. inr (omega arith)) (λ x. inl (omega arith)) out));
          locks = λ a l ne. b.key.others a l ne;
        };
        table = table;
      }

  pub block_born : StandsFor g k' new m'
  block_born = born g k k' mapped old new lock m m' st births

  -- what stands at no live object's place stays
  pub block_elsewhere : StaysElsewhere map new m m'
  unfolding new_object
  block_elsewhere = record {
    low = λ a l out. (let same = new_last Allocated p z old in
        let live : (object_at new (length old)).is_live ≡ true = ap (λ o. o.is_live) same in
        let at : (object_at new (length old)).address ≡ p = ap (λ o. o.address) same in
        let size : (object_at new (length old)).size ≡ z = ap (λ o. o.size) same in
        b.range.low a l (⊎_elim (λ x. inl (omega arith)) (λ x. inr (omega arith)) (out (length old) live)));
    behind = b.behind;
  }
