-- The objects of an entered block are born.
use Rattle.std.proofs.Common.{◌≡◌, ◌≢◌, ℕ, ◌+◌, ◌-◌, ◌*◌, ◌/◌, ◌%◌, ◌<◌, ◌≤◌, ◌⊎◌, inl, inr, ⊎_elim, true}
use Rattle.std.proofs.Common.{List, length, get_or, refl, sym, ap, ◌∙◌, subst, arith}
use Rattle.std.proofs.lemmas.Bool.{cases_lt, cases_Bool}
use Rattle.addr_map.specs.declared.region.Region.TheVariants.{Stack, Heap}
use Rattle.addr_map.specs.Places.{MapSizes, AreMapped, objects_begin, region_size, region_start, region_end}
use Rattle.obj_memory.specs.declared.object.Storage.TheVariants.{Automatic, Allocated}
use Rattle.obj_memory.specs.declared.value.Tag.TheVariants.{Untagged}
use Rattle.obj_memory.specs.Objects.{Objects, object_at, new_object}
use Rattle.obj_memory.specs.Heap.{rounded_up, is_allocated}
use Rattle.obj_memory.proofs.Listed.{every_replicate}
use Rattle.c_tree.specs.declared.program.Variable.{Variable}
use Rattle.source_meaning.specs.State.{State as Source}
use Rattle.source_meaning.specs.Blocks.{objects_end, has_objects}
use Rattle.source_meaning.specs.Keeping.{AreSeparate}
use Rattle.source_meaning.proofs.Separating.{behind_stack}
use Rattle.flat_code.specs.Memory.{Bytes}
use Rattle.flat_code.specs.Routines.Metadata.{View, no_metadata}
use Rattle.flat_code.proofs.Routines.Regions.{laid_out}
use Rattle.flat_code.specs.Routines.Objects.StandsFor.{Views, Keys, BlockRow, no_row, IsRowOf, IsTable, StandsFor}
use Rattle.flat_code.specs.Routines.Objects.Changes.{IsFresh, AreBorn}
use Rattle.flat_code.proofs.Routines.Objects.Changing.{live_is_made, word_of}
use Rattle.flat_code.proofs.Routines.Objects.Lives.{born}
use Rattle.heap_space.specs.Table.{block_rows}
use Rattle.flat_actions.specs.Actions.{views_of}
use Rattle.lib_wrappers.specs.AllocatingRoutines.Births.{with_key, IsRangeMade}
use Rattle.lib_wrappers.specs.AllocatingRoutines.Entering.{block_bytes, AreOfLock}
use Rattle.lib_wrappers.proofs.AllocatingRoutines.BlockBirth.{own_before, own_after, held_before, held_after}
use Rattle.lib_wrappers.proofs.AllocatingRoutines.BlockBirth.{free_is_unused}
use Rattle.lib_wrappers.proofs.AllocatingRoutines.SourceEntries.{placed_objects, end_by_bytes, ArePlacedFrom}
use Rattle.lib_wrappers.proofs.AllocatingRoutines.SourceEntries.{placed_from}
use Rattle.lib_wrappers.proofs.AllocatingRoutines.SourceEntries.{some_placed, placed_sound, placed_separate}
use Rattle.lib_wrappers.proofs.AllocatingRoutines.SourceEntries.{homes_from, object_count, placed_count}
use Rattle.lib_wrappers.proofs.AllocatingRoutines.SourceEntries.{home_between, between_home}

pub stack_in_space : (s : MapSizes) → AreMapped s
    → (objects_begin ≤ region_start s Stack) × (region_end s Stack ≤ region_end s Heap)
unfolding region_start region_size
stack_in_space s h = (omega arith, omega arith)

module _ (map : MapSizes) (mapped : AreMapped map) (functions : ℕ) (types : ℕ → ℕ) (entry : View)
    (IsGood : Bytes → Type 0) (k : Keys) (top : ℕ) (old : Objects) (vs : List Variable) (lock : ℕ) (m m' : Bytes)
    (st : StandsFor (views_of map functions types entry) k old m) (separate : AreSeparate map top old)
    (some : has_objects vs ≡ true) (fits : objects_end vs top ≤ region_end map Stack)
    (b : IsRangeMade map entry IsGood (rounded_up 16 top) (block_bytes vs) lock m m') where
  abbrev g : Views
  g = views_of map functions types entry

  abbrev new : Objects
  new = placed_objects vs top old

  abbrev k' : Keys
  k' = with_key (length old) lock k

  abbrev first : ℕ
  first = rounded_up 16 top

  end : objects_end vs top ≡ first + block_bytes vs
  end = end_by_bytes vs top some

  placed : ArePlacedFrom top (objects_end vs top) old new
  placed = placed_from vs top old

  is_fresh : (a z : ℕ) → top ≤ a → a % 16 ≡ 0 → a + z ≤ objects_end vs top → IsFresh g m' (new_object Automatic a z)
  unfolding new_object
  is_fresh a z lo whole hi =
      let e = end in let bottom = separate.bottom in let space = stack_in_space map mapped in
      let s0 = space.0 in let s1 = space.1 in
      record {
        storage = λ e. cc;
        placed = record { first = omega arith; last = omega arith };
        live = refl;
        zeros = every_replicate (λ x. x ≡ 0) 0 z 0 refl refl;
        no_tags = every_replicate (λ x. x ≡ Untagged) Untagged (z / 8) Untagged refl refl;
        bytes = λ j l. (let at : first + (a - first + j) ≡ a + j = omega arith in
            subst (λ i. m' i ≡ 0) at (b.range.zeros (a - first + j) (omega arith)));
        entries = λ w l. (let at : first + 8 * ((a - first) / 8 + w) ≡ a + 8 * w = omega arith in
            subst (λ i. entry m' i ≡ no_metadata) at (b.range.cleared ((a - first) / 8 + w) (omega arith)));
      }

  fresh_at : (n : ℕ) → length old ≤ n → n < length new → IsFresh g m' (object_at new n)
  fresh_at n l h =
      let q = placed.fresh n l h in
      subst (IsFresh g m') (sym q.2) (is_fresh q.0 q.1 q.3 q.4 q.5)

  automatic_at : (n : ℕ) → length old ≤ n → n < length new → (object_at new n).storage ≡ Automatic
  unfolding new_object
  automatic_at n l h = let q = placed.fresh n l h in ap (λ o. o.storage) q.2

  no_block : (n : ℕ) → length old ≤ n → n < length new → (object_at new n).storage ≢ Allocated
  no_block n l h e = let no : Automatic ≡ Allocated = sym (automatic_at n l h) ∙ e in cc

  -- old objects stand beside the new ones
  beside : (n : ℕ) → (object_at old n).is_live ≡ true
      → (objects_end vs top ≤ (object_at old n).address) ⊎ ((object_at old n).address + (object_at old n).size ≤ first)
  beside n live = ⊎_elim
      (λ block. inl (let l = behind_stack map top old mapped separate n live block in omega arith))
      (λ other. inr (let l = separate.below n live other in omega arith))
      (cases_Bool (is_allocated (object_at old n).storage))

  row_stays : (row : BlockRow) (n : ℕ) → IsRowOf k old row n → IsRowOf k' new row n
  row_stays row n r =
      let made = live_is_made old n r.live in
      let same = placed.same n made in
      record {
        live = ap (λ o. o.is_live) same ∙ r.live;
        block = ap (λ o. o.storage) same ∙ r.block;
        start = r.start ∙ sym (ap (λ o. o.address) same);
        size = r.size ∙ sym (ap (λ o. o.size) same);
        key = r.key ∙ sym (ap (λ h. h.key) (held_before (length old) lock k n made));
      }

  table : IsTable k' new (block_rows map m')
  table = subst (IsTable k' new) (sym b.rows) (record {
    by_address = st.table.by_address;
    block_of = λ i l. (let r = st.table.block_of i l in
        (r.0, row_stays (get_or (block_rows map m) i no_row) r.0 r.1));
    row_of = λ n live block. ⊎_elim
        (λ (was : n < length old). (let same = placed.same n was in
        let r = st.table.row_of n (ap (λ o. o.is_live) (sym same) ∙ live) (ap (λ o. o.storage) (sym same) ∙ block) in
        (r.0, r.1, row_stays (get_or (block_rows map m) r.0 no_row) n r.2)))
        (λ (from : length old ≤ n). absurd (no_block n from (live_is_made new n live) block))
        (cases_lt n (length old));
  })

  births : AreBorn g k k' old new lock m m'
  births =
      let counted = st.counted in let counter = b.key.counter in let ok = laid_out map mapped in let small = ok.small in
      let e = end in
      record {
        some = some_placed vs top old some;
        same = placed.same;
        fresh = fresh_at;
        sound = placed_sound functions vs top old st.sound;
        disjoint = (placed_separate map mapped vs top old separate fits).apart;
        alone = λ n l h block. absurd (no_block n l h block);
        made = refl;
        own = λ n l. own_before (length old) lock k n l;
        held = λ n l. held_before (length old) lock k n l;
        new_own = λ n l. own_after (length old) lock k n l;
        new_held = λ n l. held_after (length old) lock k n l;
        lock_word = b.key.was_free.lock;
        not_global = b.key.was_free.not_global;
        free = free_is_unused g k old m lock st b.key.was_free.empty;
        locked = b.key.locked ∙ counted;
        counter = omega arith;
        keeps = record {
          bytes = λ n live j l. (let out = beside n live in let at = st.placed n live in let last = at.last in
              b.range.low ((object_at old n).address + j) (omega arith)
              (⊎_elim (λ x. inr (omega arith)) (λ x. inl (omega arith)) out));
          entries = λ n live w l. (let out = beside n live in
              b.range.entries ((object_at old n).address + 8 * w)
              (word_of map functions old (object_at old n) w (st.sound.at n) (st.placed n live) l)
              (⊎_elim (λ x. inr (omega arith)) (λ x. inl (omega arith)) out));
          locks = λ a l ne. b.key.others a l ne;
        };
        table = table;
      }

  pub entry_born : StandsFor g k' new m'
  entry_born = born g k k' mapped old new lock m m' st births

  -- just these live under the lock word
  live_at : (n : ℕ) → length old ≤ n → n < length new → (object_at new n).is_live ≡ true
  unfolding new_object
  live_at n l h = let q = placed.fresh n l h in ap (λ o. o.is_live) q.2

  pub entry_of_lock : (x : Source) → x.objects ≡ new → (register : ℕ) → register ≡ lock
      → AreOfLock k' x (homes_from vs (length old)) register
  entry_of_lock x objects register at =
      let more = some_placed vs top old some in let count = placed_count vs top old in
      let here : length x.objects ≡ length new = ap length objects in
      let last : (n : ℕ) → n < length old + object_count vs → n < length new = λ n l. omega arith in
      record {
        some = length old;
        some_live = ap (λ os. (object_at os (length old)).is_live) objects
            ∙ live_at (length old) (omega arith) more;
        some_home = between_home vs (length old) (length old) (omega arith) (omega arith);
        under = λ n h. (let q = home_between vs (length old) n h in let lo = q.0 in let hi = last n q.1 in (
          omega arith,
          ap (λ os. (object_at os n).storage) objects ∙ automatic_at n lo hi,
          ap (λ y. y.lock) (held_after (length old) lock k n lo) ∙ sym at,
        ));
        home = λ n live same. (let live' : (object_at new n).is_live ≡ true =
            ap (λ os. (object_at os n).is_live) (sym objects) ∙ live in
            let made = live_is_made new n live' in
            ⊎_elim
            (λ (was : n < length old). absurd (free_is_unused g k old m lock st b.key.was_free.empty n
            (ap (λ o. o.is_live) (sym (placed.same n was)) ∙ live')
            (ap (λ y. y.lock) (sym (held_before (length old) lock k n was)) ∙ same ∙ at)))
            (λ (from : length old ≤ n). between_home vs (length old) n from (omega arith))
            (cases_lt n (length old)));
      }
