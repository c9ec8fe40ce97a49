-- A block is allocated: placed, keyed and made zero, or null where there is no place for it.
use Rattle.std.proofs.Common.{◌≡◌, ◌≢◌, ℕ, suc, ◌+◌, ◌-◌, ◌*◌, ◌%◌, ◌^◌, ◌<◌, ◌≤◌, List, [], ◌∷◌, ◌++◌, Bool, true}
use Rattle.std.proofs.Common.{false}
use Rattle.std.proofs.Common.{if◌then◌else◌, Option, Some, None, length, refl, sym, ap, ◌∙◌, subst, arith}
use Rattle.std.proofs.Common.{length-append}
use Rattle.std.proofs.Common.{⊎_elim, inl, inr}
use Rattle.std.specs.Prelude.{nat_lt}
use Rattle.std.proofs.lemmas.Bool.{cases_lt, lt-ltb, le-ltb}
use Rattle.sb_base.specs.declared.ending.Ending.TheVariants.{Keys as KeysSpent}
use Rattle.sb_base.specs.Endings.{code_of, report_of}
use Rattle.addr_map.specs.declared.region.Region.TheVariants.{Heap}
use Rattle.addr_map.specs.Places.{MapSizes, AreMapped, region_start, region_last, region_end}
use Rattle.rv_isa.specs.declared.instruction.BranchOp.TheVariants.{Beq, Bne}
use Rattle.rv_isa.specs.Results.{reg_result}
use Rattle.obj_memory.specs.declared.object.Storage.TheVariants.{Allocated}
use Rattle.obj_memory.specs.declared.value.Tag.TheVariants.{OfObject}
use Rattle.obj_memory.specs.declared.value.Value.{Value}
use Rattle.obj_memory.specs.Objects.{Objects, new_object, with_new, pointer_to}
use Rattle.obj_memory.specs.Heap.{block_count, least_place}
use Rattle.obj_memory.specs.Sound.{AreDisjoint}
use Rattle.obj_memory.proofs.Making.{new_last}
use Rattle.source_meaning.specs.State.{State as Source, Outcome as Completed, Gives, Ended, Setting}
use Rattle.source_meaning.specs.Acting.{state_of}
use Rattle.source_meaning.specs.Actions.{integer}
use Rattle.source_meaning.specs.Heap.{block_place, allocate}
use Rattle.flat_code.specs.declared.instruction.RightOperand.TheVariants.{Number}
use Rattle.flat_code.specs.declared.instruction.FlatInstruction.{FlatInstruction}
use Rattle.flat_code.specs.declared.instruction.FlatInstruction.TheVariants.{End}
use Rattle.flat_code.specs.Memory.{Bytes, put}
use Rattle.flat_code.specs.State.{State}
use Rattle.flat_code.specs.Words.{IsOfWords}
use Rattle.flat_code.specs.Meaning.{Context, Goes}
use Rattle.flat_code.specs.declared.registers.Held.{Held}
use Rattle.flat_code.specs.Routines.Registers.{AreDistinct, AreBelow, IsNoneOf, OthersStay}
use Rattle.flat_code.specs.Routines.Local.{counted}
use Rattle.flat_code.specs.Routines.Routine.{HasAt, Outcome, Reaches, Does, Never, unless_code}
use Rattle.flat_code.specs.Routines.Effects.{worked}
use Rattle.flat_code.specs.Routines.Metadata.{View, held_registers, ShowsNothing}
use Rattle.flat_code.proofs.Routines.Steps.{has_front, has_back}
use Rattle.flat_code.proofs.Routines.Rules.{next, ended, arrived, weaken}
use Rattle.flat_code.proofs.Routines.Distinct.{AreRegisters}
use Rattle.flat_code.proofs.Routines.Words.{same_metadata, IsLocal}
use Rattle.flat_code.proofs.Routines.Branches.{are_equal, are_not_equal, differ, do_not_differ}
use Rattle.flat_code.proofs.Routines.Showing.{shows_both}
use Rattle.flat_code.specs.Routines.Objects.StandsFor.{Views, Keys, Spells, IsTable, StandsFor}
use Rattle.shadow_space.proofs.Entries.{context_of, agrees_shows, agrees_memory}
use Rattle.lock_space.specs.Locks.{key_counter}
use Rattle.lock_space.specs.Routines.{HasFresh, CanFresh, IsFreshRoutine}
use Rattle.lock_space.proofs.Spaces.{locks_laid_out}
use Rattle.lock_space.proofs.Local.{lock_kept, counter_kept}
use Rattle.heap_space.specs.Rows.{row_place, AreInOrder}
use Rattle.heap_space.specs.Table.{block_total, block_rows, row_cell, IsTableGood}
use Rattle.heap_space.specs.Routines.{IsPlacedIn, place_of, IsPlaceRoutine}
use Rattle.heap_space.proofs.Lists.{rows_length, too_many}
use Rattle.heap_space.proofs.Counting.{rows_counted}
use Rattle.heap_space.proofs.Objects.{place_by_rows}
use Rattle.flat_code.proofs.Routines.Regions.{spaces_follow}
use Rattle.heap_space.proofs.Regions.{table_laid_out, last_of_heap}
use Rattle.flat_actions.specs.Actions.{AreSpacesGood, IsFor, Pointer, Leaves, HasGiven, HasEnded, views_of, work_of}
use Rattle.flat_actions.proofs.Standing.{shown_still, given_still, ended_still}
use Rattle.lib_wrappers.specs.AllocatingRoutines.Zeroing.{HasZeroed, IsZeroRoutine}
use Rattle.lib_wrappers.specs.AllocatingRoutines.Premises.{AreStanding}
use Rattle.lib_wrappers.specs.AllocatingRoutines.Births.{with_key, IsBlockMade}
use Rattle.lib_wrappers.specs.AllocatingRoutines.Allocating.{IsAllocateRoutine, keys_code, untagged, key_test}
use Rattle.lib_wrappers.specs.AllocatingRoutines.Allocating.{whole_bounds}
use Rattle.lib_wrappers.specs.AllocatingRoutines.Allocating.{make_code}
use Rattle.lib_wrappers.specs.AllocatingRoutines.Allocating.{malloc_code}
use Rattle.flat_code.proofs.Routines.Spaces.Quiet.{shows_worked}
use Rattle.lib_wrappers.proofs.AllocatingRoutines.Stretches.{IsDone, stretch_on, goes_past, goes_into}
use Rattle.flat_code.proofs.Routines.Spaces.Quiet.{worked_words}
use Rattle.lib_wrappers.proofs.AllocatingRoutines.FreeLocks.{free_for_a_block}
use Rattle.lib_wrappers.proofs.AllocatingRoutines.BlockBirth.{LiesInHeap, place_lies, held_after, keys_keep}
use Rattle.lib_wrappers.proofs.AllocatingRoutines.BlockBirth.{block_born}
use Rattle.lib_wrappers.proofs.AllocatingRoutines.BlockBirth.{block_elsewhere}
use Rattle.lib_wrappers.proofs.AllocatingRoutines.BlockMemory.{good_by_table, good_by_locks, locks_by_table}
use Rattle.lib_wrappers.proofs.AllocatingRoutines.BlockMemory.{block_made}
use Rattle.lib_wrappers.proofs.AllocatingRoutines.SourceBlocks.{sought_in, made_in, no_place, no_key, makes_block}
use Rattle.lib_wrappers.proofs.AllocatingRoutines.Seeks.{IsSought, seeks, some_left, none_left}

-- ---- the place in the table is that in the source

pub place_same : (map : MapSizes) → AreMapped map → (set : Setting) → set.sizes ≡ map → (k : Keys) (objects : Objects)
    (m : Bytes) → IsTable k objects (block_rows map m) → AreDisjoint objects
    → IsTableGood map m → (z : ℕ) → place_of map z (block_rows map m) ≡ block_place set z objects
place_same map mapped set e k objects m table apart good z =
    let lie = table_laid_out map mapped in
    let last = last_of_heap map lie in
    ap (λ h. row_place (region_start map Heap) h map.budgets.blocks z (block_rows map m)) (sym last)
    ∙ place_by_rows k objects (block_rows map m) (region_start map Heap) (region_last map Heap) map.budgets.blocks z
    table apart (subst (λ h. AreInOrder (region_start map Heap) h (block_rows map m)) (sym last) good.in_order)
    lie.heap_aligned
    ∙ ap (λ (s : MapSizes). if nat_lt (block_count objects) s.budgets.blocks
    then least_place (region_start s Heap) (region_last s Heap) z objects else None) (sym e)

pub rows_are_blocks : (map : MapSizes) (k : Keys) (objects : Objects) (m : Bytes) → IsTable k objects (block_rows map m)
    → AreDisjoint objects → block_total map m ≡ block_count objects
rows_are_blocks map k objects m table apart =
    sym (rows_length m (row_cell map 0) (block_total map m)) ∙ rows_counted k objects (block_rows map m) table apart

-- where a place is found, fewer blocks live than may, and it is the least
pub room_for_one : (map : MapSizes) (m : Bytes) (z p : ℕ) → place_of map z (block_rows map m) ≡ Some p
    → length (block_rows map m) < map.budgets.blocks
room_for_one map m z p e = ⊎_elim
    (λ l. l)
    (λ many. absurd (let no : None ≡ Some p = sym (too_many (region_start map Heap) (region_end map Heap)
    map.budgets.blocks z (block_rows map m) many) ∙ e in cc))
    (cases_lt (length (block_rows map m)) map.budgets.blocks)

pub least_is : (map : MapSizes) (set : Setting) → set.sizes ≡ map → (objects : Objects) (z p : ℕ)
    → block_place set z objects ≡ Some p
    → least_place (region_start map Heap) (region_last map Heap) z objects ≡ Some p
least_is map set same objects z p e =
    by (nat_lt (block_count objects) map.budgets.blocks)
    (ap (λ (s : MapSizes). if nat_lt (block_count objects) s.budgets.blocks
    then least_place (region_start s Heap) (region_last s Heap) z objects else None) (sym same) ∙ e)
  where
    by : (b : Bool) → (if b then least_place (region_start map Heap) (region_last map Heap) z objects else None) ≡
        Some p
        → least_place (region_start map Heap) (region_last map Heap) z objects ≡ Some p
    by true h = h
    by false h = absurd cc

-- the pointer to a new block
pub pointer_is : (objects : Objects) (p z : ℕ)
    → pointer_to (length objects) (with_new Allocated p z objects)
    ≡ record { word = p; tag = OfObject (length objects) (record { base = p; bound = p + z }) }
unfolding pointer_to new_object
pointer_is objects p z =
    ap (λ o. record {
      word = o.address;
      tag = OfObject (length objects)
          (record { base = o.address; bound = o.address + o.size });
    }) (new_last Allocated p z objects)

module _ (map : MapSizes) (mapped : AreMapped map) (entry : View) (IsGood : Bytes → Type 0)
    (local : IsLocal map entry IsGood) (size : ℕ) (into : Held) (t : ℕ)
    (below : AreBelow t (size ∷ held_registers into)) (apart : IsNoneOf size (held_registers into))
    (distinct : AreDistinct (held_registers into)) (place fresh zero : List FlatInstruction)
    (places : IsPlaceRoutine map size (t + 1) (t + 2) (t + 4) place)
    (freshens : IsFreshRoutine map into.tag.key into.tag.lock (t + 4) fresh)
    (zeroes : IsZeroRoutine map entry IsGood (t + 2) size (t + 4) zero) (line : ℕ)
    (set : Setting) (same_sizes : set.sizes ≡ map) (functions : ℕ) (types : ℕ → ℕ) (k : Keys) (x : Source)
    (z charge weight : ℕ) where
  abbrev c : Context
  c = context_of map true charge weight

  abbrev g : Views
  g = views_of map functions types entry

  abbrev whole : List FlatInstruction
  whole = malloc_code map place fresh zero size into line t (t + 1) (t + 2)

  abbrev body : List FlatInstruction
  body = make_code fresh zero size into line t (t + 2)

  abbrev Result : State → Completed Value → Outcome → Type 0
  Result s o = Leaves g k IsGood (Pointer into) t x s o

  -- where the branch behind the place stands
  abbrev behind : ℕ → ℕ
  behind pc = pc + 9 + length place + 5

  body_length : length body ≡ 4 + length fresh + length zero
  body_length = omega (
    arith,
    length-append fresh (zero ++ whole_bounds (t + 2) size into),
    length-append zero (whole_bounds (t + 2) size into),
  )

  whole_length : length whole ≡ 19 + length place + length fresh + length zero
  whole_length = omega (
    arith,
    body_length,
    length-append place
        (untagged (t + 2) into ++ unless_code Beq (t + 2) (Number 0) body),
  )

  module _ (s : State) (w : IsOfWords s) (f : IsFor g k IsGood x s) (standing : AreStanding map x) where
    abbrev rows_place : Option ℕ
    rows_place = place_of map z (block_rows map s.memory)

    keys_counted : key_counter map s.memory ≡ 2 + x.keys
    keys_counted = let a = f.objects.counted in let b = f.keys in omega arith

    count_is : block_total map s.memory ≡ block_count x.objects
    count_is = rows_are_blocks map k x.objects s.memory f.objects.table f.objects.disjoint

    in_source : rows_place ≡ block_place set z x.objects
    in_source = place_same map mapped set same_sizes k x.objects s.memory f.objects.table f.objects.disjoint
        f.spaces.table z

    -- ---- no place

    null_given : (s3 : State) → IsSought map size into t x.keys z s s3 → rows_place ≡ None
        → HasGiven g k IsGood (Pointer into) t x s (integer 0) (sought_in x) (worked c s3)
    null_given s3 d none =
        let placed = subst (λ o. IsPlacedIn map o z ((x.keys + 2) % 2 ^ 64)
        (s3.values (t + 2)) s.memory s3.memory) none d.placed in
        given_still g k IsGood (Pointer into) t x (x.work + (1 + block_count x.objects)) s (worked c s3) (integer 0) f
        placed.1 (shows_worked c s s3 d.shows)
        (record {
          word = d.value ∙ placed.0;
          tag = same_metadata _ (record { base = 0; bound = 0; key = 0; lock = 0 }) d.base d.bound d.key d.lock;
        })
        d.others

    -- ---- no key

    spent_ended : (s3 : State) → IsSought map size into t x.keys z s s3
        → HasEnded map (KeysSpent line) (sought_in x) (code_of (KeysSpent line)) (report_of (KeysSpent line)) s
        (counted c (End (KeysSpent line)) (worked c (worked c s3)))
    spent_ended s3 d =
        ended_still (KeysSpent line) x (x.work + (1 + block_count x.objects)) (code_of (KeysSpent line))
        (report_of (KeysSpent line)) s (counted c (End (KeysSpent line)) (worked c (worked c s3))) f.shown
        (let h = d.shows in record {
          input = h.input;
          output = h.output;
          taken = h.taken;
          accesses = h.accesses;
          turns = h.turns;
        })
        (let follow = spaces_follow map in
        let shadow = follow.shadow in let locks = follow.locks in let table = follow.table in
        record { low = λ a l. d.memory a (inl (omega arith)); behind = λ a l. d.memory a (inr (omega arith)) })
        refl refl

    -- ---- a block

    module _ (p : ℕ) (found : rows_place ≡ Some p) (left : x.keys < map.budgets.keys) (s3 : State)
        (d3 : IsSought map size into t x.keys z s s3) where
      is_least : least_place (region_start map Heap) (region_last map Heap) z x.objects ≡ Some p
      is_least = least_is map set same_sizes x.objects z p (sym in_source ∙ found)

      lies : LiesInHeap map p z
      lies = place_lies map mapped x.objects p z is_least

      placed : IsPlacedIn map (Some p) z ((x.keys + 2) % 2 ^ 64) (s3.values (t + 2)) s.memory s3.memory
      placed = subst (λ o. IsPlacedIn map o z ((x.keys + 2) % 2 ^ 64) (s3.values (t + 2)) s.memory s3.memory) found
          d3.placed

      few_keys : x.keys < 2 ^ 62
      few_keys = let most = mapped.budgets.keys in omega arith

      good3 : AreSpacesGood map IsGood s3.memory
      good3 = good_by_table map mapped entry IsGood local s.memory s3.memory d3.memory f.spaces d3.table

      can_fresh : CanFresh map s3.memory
      can_fresh =
          let lie = locks_laid_out map mapped in
          let keep = locks_by_table map mapped entry IsGood local s.memory s3.memory d3.memory in
          let free = free_for_a_block g k x.objects s.memory mapped f.objects f.spaces.locks standing.bytes
          standing.placed (room_for_one map s.memory z p found) in
          let same = counter_kept map s.memory s3.memory lie keep in
          let now = keys_counted in let few = few_keys in
          record {
            good = good3.locks;
            some = free.0;
            some_free = (let i = free.1 in record {
              lock = i.lock;
              not_global = i.not_global;
              empty = lock_kept map s.memory s3.memory lie keep free.0 i.lock ∙ i.empty;
            });
            few = omega arith;
          }

      abbrev y3 : State
      y3 = worked c (worked c s3)

      module _ (s4 : State) (d4 : HasFresh map into.tag.key into.tag.lock (t + 4) y3 s4) where
        abbrev lock : ℕ
        lock = s4.values into.tag.lock

        good4 : AreSpacesGood map IsGood s4.memory
        good4 = good_by_locks map mapped entry IsGood local s3.memory s4.memory d4.memory good3 d4.good

        at4 : s4.values (t + 2) ≡ p
        at4 =
            let a = below.1.1.1.1.0 in let b = below.1.1.1.1.1.0 in
            d4.others (t + 2) (omega arith) ((λ e. omega arith), ((λ e. omega arith), tt)) ∙ placed.0

        size4 : s4.values size ≡ z
        size4 = d4.others size (let a = below.0 in omega arith) (apart.1.1.1.0, (apart.1.1.1.1.0, tt)) ∙ d3.size_is

        module _ (s5 : State) (d5 : HasZeroed map entry IsGood (t + 2) z (t + 4) s4 s5) where
          made : IsBlockMade map entry IsGood p z lock s.memory s5.memory
          made =
              let few = few_keys in let now = keys_counted in
              let key : (x.keys + 2) % 2 ^ 64 ≡ key_counter map s.memory = omega arith in
              block_made map mapped entry IsGood local p z lock s.memory s3.memory s4.memory s5.memory f.spaces
              (rw (sym key) placed.1) d3.memory good3
              (record { was_free = d4.was_free; locked = d4.locked; others = d4.other_locks; counter = d4.counter })
              d4.memory good4 (rw (sym at4) d5.memory) d5.good

          bounds_registers : AreRegisters ((t + 2) ∷ size ∷ []) (into.tag.base ∷ into.tag.bound ∷ []) [] (t + 4)
          bounds_registers =
              let a = below.0 in let b = below.1.1.0 in let e = below.1.1.1.0 in
              record {
                none = (
                  ((λ q. omega arith), ((λ q. omega arith), tt)),
                  ((apart.1.0, (apart.1.1.0, tt)), tt),
                );
                distinct = ((distinct.1.0.0, tt), (tt, tt));
                ins_below = (omega arith, (omega arith, tt));
                res_below = (omega arith, (omega arith, tt));
                from = tt;
                own_distinct = tt;
              }

          -- numbers for the bounds of the pointer
          abbrev own : Held
          own = record { value = 4; tag = record { base = 2; bound = 3; key = 4; lock = 4 } }

          module _ (s6 : State)
              (d6 : IsDone c ((t + 2) ∷ size ∷ []) (into.tag.base ∷ into.tag.bound ∷ []) [] (t + 4) bounds_registers
              (whole_bounds 0 1 own) refl s5 s6) where
            memory6 : s6.memory ≡ s5.memory
            memory6 = agrees_memory 4 _ _ s6 d6.agrees

            abbrev keys' : Keys
            keys' = with_key (length x.objects) lock k

            abbrev new : Objects
            new = with_new Allocated p z x.objects

            shown : ShowsNothing s s6
            shown =
                let a = shows_both s s3 s4 d3.shows (let h = d4.shows in record {
                  input = h.input;
                  output = h.output;
                  taken = h.taken;
                  accesses = h.accesses;
                  turns = h.turns;
                }) in
                shows_both s s5 s6 (shows_both s s4 s5 a d5.shows)
                (agrees_shows 4 _ _ s5 s6 d6.agrees
                (record { input = refl; output = refl; taken = refl; accesses = refl; turns = refl }))

            stands : IsFor g keys' IsGood (made_in p z x) s6
            stands = record {
              objects = subst (StandsFor g keys' new) (sym memory6)
                  (block_born map mapped functions types entry IsGood k x.objects p z lock s.memory s5.memory f.objects
                  standing.placed is_least made);
              spaces = subst (AreSpacesGood map IsGood) (sym memory6) d5.good;
              keys = (let e = f.keys in omega arith);
              shown = (let h = shown_still x s s6 shown f.shown in record {
                input = h.input;
                output = h.output;
                taken = h.taken;
                accesses = h.accesses;
              });
            }

            -- the registers of the pointer
            value6 : s6.values into.value ≡ p
            value6 =
                let a = below.1.0 in
                d6.others into.value (omega arith) (distinct.0.0, (distinct.0.1.0, tt))
                ∙ d5.others into.value (omega arith) tt
                ∙ d4.others into.value (omega arith) (distinct.0.1.1.0, (distinct.0.1.1.1.0, tt))
                ∙ d3.value ∙ placed.0

            at5 : s5.values (t + 2) ≡ p
            at5 = d5.others (t + 2) (omega arith) tt ∙ at4

            size5 : s5.values size ≡ z
            size5 = d5.others size (let a = below.0 in omega arith) tt ∙ size4

            base6 : s6.values into.tag.base ≡ p
            unfolding put
            base6 = sym (d6.agrees.values 2 (omega arith)) ∙ at5

            bound6 : s6.values into.tag.bound ≡ p + z
            unfolding put reg_result
            bound6 =
                let a = at5 in let b = size5 in let last = lies.last in let holds = lies.holds in
                let lie = table_laid_out map mapped in let small = lie.heap_small in
                sym (d6.agrees.values 3 (omega arith)) ∙ omega arith

            key6 : s6.values into.tag.key ≡ 2 + k.made
            key6 =
                let a = below.1.1.1.1.0 in let d = distinct.1.1.1 in
                let now = counter_kept map s.memory s3.memory (locks_laid_out map mapped)
                (locks_by_table map mapped entry IsGood local s.memory s3.memory d3.memory) in
                d6.others into.tag.key (omega arith)
                ((λ e. distinct.1.0.1.0 (sym e)), ((λ e. distinct.1.1.0.0 (sym e)), tt))
                ∙ d5.others into.tag.key (omega arith) tt ∙ d4.new_key ∙ now ∙ f.objects.counted

            lock6 : s6.values into.tag.lock ≡ lock
            lock6 =
                let a = below.1.1.1.1.1.0 in
                d6.others into.tag.lock (omega arith)
                ((λ e. distinct.1.0.1.1.0 (sym e)), ((λ e. distinct.1.1.0.1.0 (sym e)), tt))
                ∙ d5.others into.tag.lock (omega arith) tt

            spelled : Spells g keys' (pointer_to (length x.objects) new) into s6.values
            spelled =
                let held = held_after (length x.objects) lock k (length x.objects) (omega arith) in
                subst (λ v. Spells g keys' v into s6.values) (sym (pointer_is x.objects p z))
                (record {
                  word = value6;
                  tag = same_metadata _ (record {
                    base = p;
                    bound = p + z;
                    key = (keys'.held (length x.objects)).key;
                    lock = (keys'.held (length x.objects)).lock;
                  }) base6 bound6 (key6 ∙ sym (ap (λ h. h.key) held)) (lock6 ∙ sym (ap (λ h. h.lock) held));
                })

            others6 : OthersStay (held_registers into) t s s6
            others6 r l none =
                d6.others r (omega arith) (none.1.0, (none.1.1.0, tt))
                ∙ d5.others r (omega arith) tt
                ∙ d4.others r (omega arith) (none.1.1.1.0, (none.1.1.1.1.0, tt))
                ∙ d3.others r l none

            block_given : HasGiven g k IsGood (Pointer into) t x s (pointer_to (length x.objects) new) (made_in p z x)
                s6
            block_given = record {
              keys = keys';
              held = keys_keep (length x.objects) lock x.objects k (omega arith);
              stands = stands;
              given = spelled;
              turns = shown.turns;
              elsewhere = (let h = block_elsewhere map mapped functions types entry IsGood k x.objects p z lock s.memory
                  s5.memory f.objects standing.placed is_least made in
                  record {
                    low = λ a l out. ap (λ m. m a) memory6 ∙ h.low a l out;
                    behind = λ a l. ap (λ m. m a) memory6 ∙ h.behind a l;
                  });
              others = others6;
            }

  -- ---- all of it

  abbrev Goal : (code : List FlatInstruction) → (pc : ℕ) → State → Completed Value → Type 0
  Goal code pc s o =
      Reaches c code (60 + 20 * ((state_of o).work - x.work)) (Goes pc s) (pc + length whole) (Result s o)

  module _ (code : List FlatInstruction) (pc : ℕ) (s : State) (has : HasAt code pc whole) (w : IsOfWords s)
      (f : IsFor g k IsGood x s) (size_is : s.values size ≡ z) (standing : AreStanding map x) where
    abbrev count : ℕ
    count = block_total map s.memory

    at_place : HasAt code (pc + 9) (place ++ (untagged (t + 2) into ++ unless_code Beq (t + 2) (Number 0) body))
    at_place = has_back code pc (keys_code map t (t + 1))
        (place ++ (untagged (t + 2) into ++ unless_code Beq (t + 2) (Number 0) body)) has

    at_null : HasAt code (pc + 9 + length place) (untagged (t + 2) into ++ unless_code Beq (t + 2) (Number 0) body)
    at_null = has_back code (pc + 9) place (untagged (t + 2) into ++ unless_code Beq (t + 2) (Number 0) body) at_place

    at_branch : HasAt code (behind pc) (unless_code Beq (t + 2) (Number 0) body)
    at_branch = has_back code (pc + 9 + length place) (untagged (t + 2) into) (unless_code Beq (t + 2) (Number 0) body)
        at_null

    at_fresh : HasAt code (behind pc + 3) (fresh ++ (zero ++ whole_bounds (t + 2) size into))
    at_fresh =
        let e : behind pc + 1 + 2 ≡ behind pc + 3 = omega arith in
        subst (λ n. HasAt code n (fresh ++ (zero ++ whole_bounds (t + 2) size into))) e
        (has_back code (behind pc + 1) (key_test t line) (fresh ++ (zero ++ whole_bounds (t + 2) size into))
        at_branch.1)

    at_zero : HasAt code (behind pc + 3 + length fresh) (zero ++ whole_bounds (t + 2) size into)
    at_zero = has_back code (behind pc + 3) fresh (zero ++ whole_bounds (t + 2) size into) at_fresh

    at_bounds : HasAt code (behind pc + 3 + length fresh + length zero) (whole_bounds (t + 2) size into)
    at_bounds = has_back code (behind pc + 3 + length fresh) zero (whole_bounds (t + 2) size into) at_zero

    sought : (b : ℕ) (R : Outcome → Type 0)
        → ((s3 : State) → IsOfWords s3 → IsSought map size into t x.keys z s s3
        → Reaches c code b (Goes (behind pc) s3) (pc + length whole) R)
        → Reaches c code (9 + ((32 + 20 * count) + (5 + b))) (Goes pc s) (pc + length whole) R
    sought b R on = seeks map mapped size into t below apart distinct place places charge weight code
        (unless_code Beq (t + 2) (Number 0) body) b pc x.keys z s (pc + length whole) R w has
        (keys_counted s w f standing) size_is f.spaces.table on

    null_reached : place_of map z (block_rows map s.memory) ≡ None → Goal code pc s (allocate set z line x)
    null_reached none =
        let o = no_place set z line x (sym (in_source s w f standing) ∙ none) in
        let same = count_is s w f standing in
        let end : behind pc + 1 + length body ≡ pc + length whole = omega (arith, whole_length, body_length) in
        subst (Goal code pc s) (sym o)
        (weaken c code (9 + ((32 + 20 * count) + (5 + 1)))
        (60 + 20 * ((sought_in x).work - x.work)) (Goes pc s) (pc + length whole) _ _ (omega arith) (λ y q. q)
        (sought 1 (Result s (Gives (integer 0) (sought_in x)))
        (λ s3 w3 d3.
        let d = subst (λ o. IsPlacedIn map o z ((x.keys + 2) % 2 ^ 64) (s3.values (t + 2)) s.memory s3.memory) none
        d3.placed in
        goes_past c code 0 (behind pc) (behind pc + 1 + length body) s3 Beq (t + 2) (Number 0) (length body)
        (pc + length whole) (Result s (Gives (integer 0) (sought_in x))) at_branch.0 refl
        (are_equal (s3.values (t + 2)) 0 d.0)
        (arrived c code 0 (worked c s3) (behind pc + 1 + length body) (pc + length whole)
        (Result s (Gives (integer 0) (sought_in x))) end (null_given s w f standing s3 d3 none)))))

    -- a place is no null
    some_place : (p : ℕ) → place_of map z (block_rows map s.memory) ≡ Some p → (s3 : State)
        → IsSought map size into t x.keys z s s3 → s3.values (t + 2) ≢ 0
    some_place p found s3 d3 e =
        let d = subst (λ o. IsPlacedIn map o z ((x.keys + 2) % 2 ^ 64) (s3.values (t + 2)) s.memory s3.memory) found
        d3.placed in
        let lies = place_lies map mapped x.objects p z
        (least_is map set same_sizes x.objects z p (sym (in_source s w f standing) ∙ found)) in
        let at = d.0 in let begins = lies.begins in omega arith

    spent_reached : (p : ℕ) → place_of map z (block_rows map s.memory) ≡ Some p → map.budgets.keys ≤ x.keys
        → Goal code pc s (allocate set z line x)
    spent_reached p found spent =
        let o = no_key set z line p x (sym (in_source s w f standing) ∙ found)
        (ap (λ (y : MapSizes). nat_lt x.keys y.budgets.keys) same_sizes ∙ le-ltb x.keys map.budgets.keys spent) in
        let same = count_is s w f standing in
        subst (Goal code pc s) (sym o)
        (weaken c code (9 + ((32 + 20 * count) + (5 + 3)))
        (60 + 20 * ((sought_in x).work - x.work)) (Goes pc s) (pc + length whole) _ _ (omega arith) (λ y q. q)
        (sought 3 (Result s (Ended (KeysSpent line) (sought_in x)))
        (λ s3 w3 d3.
        goes_into c code 2 (behind pc) s3 Beq (t + 2) (Number 0) (length body) (pc + length whole)
        (Result s (Ended (KeysSpent line) (sought_in x))) at_branch.0
        (are_not_equal (s3.values (t + 2)) 0 (some_place p found s3 d3))
        (goes_into c code 1 (behind pc + 1) (worked c s3) Bne t (Number 0) 1 (pc + length whole)
        (Result s (Ended (KeysSpent line) (sought_in x))) at_branch.1.0
        (do_not_differ (s3.values t) 0 (d3.left ∙ none_left x.keys map.budgets.keys spent))
        (ended c code 0 (KeysSpent line) (worked c (worked c s3)) (behind pc + 1 + 1) (pc + length whole)
        (Result s (Ended (KeysSpent line) (sought_in x))) at_branch.1.1.0 (spent_ended s w f standing s3 d3))))))

    block_reached : (p : ℕ) → place_of map z (block_rows map s.memory) ≡ Some p → x.keys < map.budgets.keys
        → Goal code pc s (allocate set z line x)
    block_reached p found left =
        let o = makes_block set z line p x (sym (in_source s w f standing) ∙ found)
        (ap (λ (y : MapSizes). nat_lt x.keys y.budgets.keys) same_sizes ∙ lt-ltb x.keys map.budgets.keys left) in
        let same = count_is s w f standing in
        let end : behind pc + 3 + length fresh + length zero + 2 ≡ pc + length whole =
        omega (arith, whole_length, body_length) in
        let R = Result s (Gives (pointer_to (length x.objects) (with_new Allocated p z x.objects)) (made_in p z x)) in
        subst (Goal code pc s) (sym o)
        (weaken c code (9 + ((32 + 20 * count) + (5 + suc (suc (14 + ((16 + 4 * z) + (2 + 0)))))))
        (60 + 20 * ((made_in p z x).work - x.work)) (Goes pc s) (pc + length whole) R R (omega arith) (λ y q. q)
        (sought (suc (suc (14 + ((16 + 4 * z) + (2 + 0))))) R
        (λ s3 w3 d3.
        goes_into c code (suc (14 + ((16 + 4 * z) + (2 + 0)))) (behind pc) s3 Beq (t + 2) (Number 0) (length body)
        (pc + length whole) R at_branch.0 (are_not_equal (s3.values (t + 2)) 0 (some_place p found s3 d3))
        (goes_past c code (14 + ((16 + 4 * z) + (2 + 0))) (behind pc + 1) (behind pc + 3) (worked c s3) Bne t
        (Number 0) 1 (pc + length whole) R at_branch.1.0 (omega arith)
        (differ (s3.values t) 0 (λ e. some_left x.keys map.budgets.keys left (sym d3.left ∙ e)))
        (next c code 14 ((16 + 4 * z) + (2 + 0)) (Goes (behind pc + 3) (worked c (worked c s3)))
        (behind pc + 3 + length fresh) (pc + length whole)
        (HasFresh map into.tag.key into.tag.lock (t + 4) (worked c (worked c s3))) Never R
        (worked_words c (worked c s3) (worked_words c s3 w3))
        ((freshens true charge weight).from code (behind pc + 3) (worked c (worked c s3))
        (has_front code (behind pc + 3) fresh (zero ++ whole_bounds (t + 2) size into) at_fresh)
        (worked_words c (worked c s3) (worked_words c s3 w3))
        (can_fresh s w f standing p found left s3 d3))
        (λ s4 w4 d4.
        let at4 = at4 s w f standing p found left s3 d3 s4 d4 in
        let lies = lies s w f standing p found left s3 d3 in
        let first = lies.begins in let last = lies.last in let holds = lies.holds in let aligned = lies.aligned in
        next c code (16 + 4 * z) (2 + 0) (Goes (behind pc + 3 + length fresh) s4)
        (behind pc + 3 + length fresh + length zero) (pc + length whole)
        (HasZeroed map entry IsGood (t + 2) z (t + 4) s4) Never R w4
        ((zeroes z charge weight).from code (behind pc + 3 + length fresh) s4
        (has_front code (behind pc + 3 + length fresh) zero (whole_bounds (t + 2) size into) at_zero) w4 (
          record {
            size = size4 s w f standing p found left s3 d3 s4 d4;
            aligned = omega arith;
            range = record { first = omega arith; last = omega arith };
          },
          good4 s w f standing p found left s3 d3 s4 d4,
        ))
        (λ s5 w5 d5.
        stretch_on c ((t + 2) ∷ size ∷ []) (into.tag.base ∷ into.tag.bound ∷ []) [] (t + 4)
        (bounds_registers s w f standing p found left s3 d3 s4 d4 s5 d5)
        (whole_bounds 0 1 (own s w f standing p found left s3 d3 s4 d4 s5 d5)) refl code 0
        (behind pc + 3 + length fresh + length zero) s5 (pc + length whole) R w5 at_bounds (tt, (tt, tt))
        (λ s6 w6 d6.
        arrived c code 0 s6 (behind pc + 3 + length fresh + length zero + 2) (pc + length whole) R end
        (block_given s w f standing p found left s3 d3 s4 d4 s5 d5 s6 d6)))
        (λ status report s' never. absurd never))
        (λ status report s' never. absurd never))))))

    reached : Goal code pc s (allocate set z line x)
    reached = by (place_of map z (block_rows map s.memory)) refl
      where
        by : (o : Option ℕ) → place_of map z (block_rows map s.memory) ≡ o → Goal code pc s (allocate set z line x)
        by None e = null_reached e
        by (Some p) e = ⊎_elim (λ less. block_reached p e less) (λ spent. spent_reached p e spent)
            (cases_lt x.keys map.budgets.keys)

  allocates : Does c whole (λ s. IsFor g k IsGood x s × (s.values size ≡ z) × AreStanding map x)
      (λ s. 60 + 20 * work_of (allocate set z line) x) (λ s. Result s (allocate set z line x))
  allocates = record { from = λ code pc s has w p. reached code pc s has w p.0 p.1 p.2 }

pub allocate_does : (map : MapSizes) → AreMapped map → (entry : View) (IsGood : Bytes → Type 0)
    → IsLocal map entry IsGood → (size : ℕ) (into : Held) (line t : ℕ) → AreBelow t (size ∷ held_registers into)
    → IsNoneOf size (held_registers into) → AreDistinct (held_registers into) →
    (place fresh zero : List FlatInstruction)
    → IsPlaceRoutine map size (t + 1) (t + 2) (t + 4) place
    → IsFreshRoutine map into.tag.key into.tag.lock (t + 4) fresh
    → IsZeroRoutine map entry IsGood (t + 2) size (t + 4) zero
    → IsAllocateRoutine map entry IsGood size into line t
    (malloc_code map place fresh zero size into line t (t + 1) (t + 2))
allocate_does map mapped entry IsGood local size into line t below apart distinct place fresh zero places freshens
    zeroes
    set same functions types k x z charge weight =
    allocates map mapped entry IsGood local size into t below apart distinct place fresh zero places freshens zeroes
    line
    set same functions types k x z charge weight
