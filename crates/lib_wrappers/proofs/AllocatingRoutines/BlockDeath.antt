-- A block of the heap dies.
use Rattle.std.proofs.Common.{◌≡◌, ◌≢◌, ℕ, ◌+◌, ◌*◌, ◌<◌, ◌≤◌, inl, inr, ⊎_elim, true, false, length, sym, ap}
use Rattle.std.proofs.Common.{◌∙◌, subst, arith}
use Rattle.std.proofs.lemmas.Bool.{cases_eq}
use Rattle.addr_map.specs.declared.region.Region.TheVariants.{Heap}
use Rattle.addr_map.specs.Places.{MapSizes, AreMapped, region_start, region_end}
use Rattle.obj_memory.specs.declared.object.Storage.TheVariants.{Static, Allocated}
use Rattle.obj_memory.specs.Objects.{Objects, object_at, with_dead}
use Rattle.obj_memory.specs.Heap.{object_room}
use Rattle.obj_memory.specs.Sound.{AreBeside}
use Rattle.obj_memory.proofs.Making.{dead_is_dead, dead_other, dead_object, disjoint_dead}
use Rattle.obj_memory.proofs.Soundness.{sound_dead}
use Rattle.source_meaning.proofs.Holding.{length-dead}
use Rattle.flat_code.specs.Memory.{Bytes, load}
use Rattle.flat_code.specs.Routines.Metadata.{View}
use Rattle.flat_code.proofs.Routines.Regions.{laid_out}
use Rattle.flat_code.specs.Routines.Objects.StandsFor.{Views, Keys, BlockRow, IsRowOf, IsTable, global_lock, StandsFor}
use Rattle.flat_code.specs.Routines.Objects.Changes.{AreDead}
use Rattle.flat_code.proofs.Routines.Objects.Changing.{live_is_made, word_of}
use Rattle.flat_code.proofs.Routines.Objects.Lives.{died}
use Rattle.heap_space.specs.Rows.{AreInOrder}
use Rattle.heap_space.specs.Table.{block_rows}
use Rattle.flat_actions.specs.Actions.{AreSpacesGood, StaysElsewhere, views_of}
use Rattle.lib_wrappers.specs.AllocatingRoutines.Freeing.{IsBlockEnded}
use Rattle.lib_wrappers.proofs.AllocatingRoutines.TableRows.{table_without}

module _ (map : MapSizes) (mapped : AreMapped map) (functions : ℕ) (types : ℕ → ℕ) (entry : View)
    (IsGood : Bytes → Type 0) (k : Keys) (old : Objects) (n : ℕ) (m m' : Bytes)
    (st : StandsFor (views_of map functions types entry) k old m) (spaces : AreSpacesGood map IsGood m)
    (live : (object_at old n).is_live ≡ true) (block : (object_at old n).storage ≡ Allocated)
    (b : IsBlockEnded map entry IsGood (object_at old n).address (k.held n).lock m m') where
  abbrev g : Views
  g = views_of map functions types entry

  abbrev new : Objects
  new = with_dead n old

  abbrev start : ℕ
  start = (object_at old n).address

  made : n < length old
  made = live_is_made old n live

  -- what lives still is another object
  still : (j : ℕ) → (object_at new j).is_live ≡ true
      → (j ≢ n) × (object_at new j ≡ object_at old j) × ((object_at old j).is_live ≡ true)
  still j l =
      let ne : j ≢ n = λ e. (let no : true ≡ false = sym l ∙ ap (λ i. (object_at new i).is_live) e
      ∙ dead_is_dead n old in cc) in
      let same = dead_other n j old ne in
      (ne, same, ap (λ o. o.is_live) (sym same) ∙ l)

  not_static : (object_at old n).storage ≢ Static
  not_static e = let no : Allocated ≡ Static = sym block ∙ e in cc

  pub lock_is_own : (k.held n).lock ≢ global_lock map
  lock_is_own = ((st.keyed.each n made).other not_static).2

  pub lock_is_used : load 8 m (k.held n).lock ≢ 0
  lock_is_used e =
      let key = ((st.keyed.each n made).other not_static).0 in let held = st.locks.live n live in omega arith

  -- no other live object has its lock word
  others_lock : (j : ℕ) → j ≢ n → (object_at old j).is_live ≡ true → (k.held j).lock ≢ (k.held n).lock
  others_lock j ne l e =
      st.keyed.alone n j made (live_is_made old j l) (λ q. ne (sym q)) block
      (sym (st.locks.live n live) ∙ ap (load 8 m) (sym e) ∙ st.locks.live j l)

  -- nor starts a live block where it does
  others_start : (j : ℕ) → j ≢ n → (object_at old j).is_live ≡ true → (object_at old j).storage ≡ Allocated
      → (object_at old j).address ≢ start
  others_start j ne l s e =
      let beside : AreBeside (object_at old j) (object_at old n) = st.disjoint.apart j n ne l live in
      let some : 16 ≤ object_room (object_at old j).storage (object_at old j).size =
      subst (λ z. 16 ≤ object_room z (object_at old j).size) (sym s) (omega arith) in
      let more : 16 ≤ object_room (object_at old n).storage (object_at old n).size =
      subst (λ z. 16 ≤ object_room z (object_at old n).size) (sym block) (omega arith) in
      ⊎_elim (λ x. omega arith) (λ x. omega arith) beside

  row_stays : (row : BlockRow) (j : ℕ) → row.start ≢ start → IsRowOf k old row j → IsRowOf k new row j
  row_stays row j ne r =
      let other : j ≢ n = λ e. ne (r.start ∙ ap (λ i. (object_at old i).address) e) in
      let same = dead_other n j old other in
      record {
        live = ap (λ o. o.is_live) same ∙ r.live;
        block = ap (λ o. o.storage) same ∙ r.block;
        start = r.start ∙ sym (ap (λ o. o.address) same);
        size = r.size ∙ sym (ap (λ o. o.size) same);
        key = r.key;
      }

  table : IsTable k new (block_rows map m')
  table = subst (IsTable k new) (sym b.rows)
      (table_without k old new (block_rows map m) start (region_start map Heap) (region_end map Heap)
      (region_start map Heap) (region_end map Heap) st.table spaces.table.in_order
      (subst (AreInOrder (region_start map Heap) (region_end map Heap)) b.rows b.good.table.in_order) row_stays
      (λ j l s. let x = still j l in let t = ap (λ o. o.storage) (sym x.1) ∙ s in
      (x.2, t, others_start j x.0 x.2 t)))

  deaths : AreDead g k old new (k.held n).lock m m'
  deaths =
      let ok = laid_out map mapped in let small = ok.small in
      record {
        count = length-dead n old;
        at = λ j. ⊎_elim
            (λ e. inr (subst (λ i. object_at new i ≡ record (object_at old i) { is_live = false }) (sym e)
            (dead_object n old made)))
            (λ ne. inl (dead_other n j old ne))
            (cases_eq j n);
        gone = λ j l. (let x = still j l in others_lock j x.0 x.2);
        stays = λ j l ne. dead_other n j old (λ e. ne (ap (λ i. (k.held i).lock) e));
        sound = sound_dead n old st.sound;
        disjoint = disjoint_dead n old st.disjoint;
        not_global = lock_is_own;
        free = b.released;
        counter = b.counter;
        keeps = record {
          bytes = λ j l i il. (let at = st.placed j l in let last = at.last in
              b.low ((object_at old j).address + i) (omega arith));
          entries = λ j l w wl. b.entries ((object_at old j).address + 8 * w)
              (word_of map functions old (object_at old j) w (st.sound.at j) (st.placed j l) wl);
          locks = λ a l ne. b.others a l ne;
        };
        table = table;
      }

  pub block_died : StandsFor g k new m'
  block_died = died g k mapped old new (k.held n).lock m m' st deaths

  pub death_elsewhere : StaysElsewhere map new m m'
  death_elsewhere = record { low = λ a l out. b.low a l; behind = b.behind }
