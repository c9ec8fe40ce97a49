-- The routine of a block that is entered.
use Rattle.std.proofs.Common.{◌≡◌, ℕ, suc, ◌+◌, ◌-◌, ◌*◌, ◌^◌, ◌<◌, ◌≤◌, List, [], ◌∷◌, ◌++◌}
use Rattle.std.proofs.Common.{true, inl, inr, length, refl, sym, ap, ◌∙◌, subst, arith, length-append, ⊎_elim}
use Rattle.std.specs.Prelude.{nat_lt, nat_le}
use Rattle.std.proofs.lemmas.Bool.{cases_lt, lt-ltb, le-ltb, le-leb, lt-leb}
use Rattle.sb_base.specs.declared.ending.Ending.{Ending}
use Rattle.sb_base.specs.declared.ending.Ending.TheVariants.{Stack as StackSpent, Keys as KeysSpent}
use Rattle.sb_base.specs.Endings.{code_of, report_of}
use Rattle.addr_map.specs.declared.region.Region.TheVariants.{Stack, Heap}
use Rattle.addr_map.specs.Places.{MapSizes, AreMapped, region_size, region_start, region_end}
use Rattle.rv_isa.specs.declared.instruction.BranchOp.TheVariants.{Bgeu, Bne}
use Rattle.rv_isa.specs.Results.{reg_result, bit_of}
use Rattle.obj_memory.specs.Heap.{rounded_up, is_allocated}
use Rattle.c_tree.specs.declared.program.Variable.{Variable}
use Rattle.source_meaning.specs.State.{State as Source, Outcome as Completed, Gives, Ended, Setting}
use Rattle.source_meaning.specs.Acting.{state_of}
use Rattle.source_meaning.specs.Blocks.{objects_end, Block, enter_block}
use Rattle.flat_code.specs.declared.instruction.RightOperand.TheVariants.{Register, Number}
use Rattle.flat_code.specs.declared.instruction.FlatInstruction.{FlatInstruction}
use Rattle.flat_code.specs.declared.instruction.FlatInstruction.TheVariants.{End}
use Rattle.flat_code.specs.Memory.{Bytes, put}
use Rattle.flat_code.specs.State.{State}
use Rattle.flat_code.specs.Words.{IsOfWords}
use Rattle.flat_code.specs.Meaning.{Context, Goes}
use Rattle.flat_code.specs.Routines.Registers.{AreDistinct, AreBelow, AreNoneOf, OthersStay}
use Rattle.flat_code.specs.Routines.Local.{counted}
use Rattle.flat_code.specs.Routines.Routine.{HasAt, Outcome, Reaches, Never}
use Rattle.flat_code.specs.Routines.Effects.{worked}
use Rattle.flat_code.specs.Routines.Renaming.{through}
use Rattle.flat_code.specs.Routines.Metadata.{View, ShowsNothing}
use Rattle.flat_code.proofs.Routines.Steps.{has_front, has_back}
use Rattle.flat_code.proofs.Routines.Rules.{next, ended, arrived, weaken}
use Rattle.flat_code.proofs.Routines.Distinct.{AreRegisters, register_of}
use Rattle.flat_code.proofs.Routines.Branches.{not_below, is_below, differ, do_not_differ}
use Rattle.flat_code.proofs.Routines.Showing.{shows_both}
use Rattle.flat_code.proofs.Routines.Words.{IsLocal}
use Rattle.flat_code.specs.Routines.Objects.StandsFor.{Views, Keys, StandsFor}
use Rattle.shadow_space.proofs.Entries.{context_of, agrees_shows, agrees_memory}
use Rattle.lock_space.specs.Locks.{key_counter}
use Rattle.lock_space.specs.Routines.{HasFresh, CanFresh, IsFreshRoutine}
use Rattle.lock_space.proofs.Spaces.{locks_laid_out}
use Rattle.heap_space.specs.Table.{block_total, block_rows, row_cell}
use Rattle.heap_space.proofs.Lists.{rows_length}
use Rattle.flat_actions.specs.Actions.{AreSpacesGood, IsFor, HasEnded, views_of}
use Rattle.flat_actions.proofs.Standing.{unwritten_same}
use Rattle.flat_actions.proofs.Standing.{shown_still, ended_still}
use Rattle.flat_code.proofs.Routines.Spaces.Quiet.{shows_worked, worked_words}
use Rattle.lib_wrappers.specs.declared.allocating.entering.EntryRegisters.{EntryRegisters}
use Rattle.lib_wrappers.specs.AllocatingRoutines.Zeroing.{IsZeroed, HasZeroed, IsZeroRoutine}
use Rattle.lib_wrappers.specs.AllocatingRoutines.Allocating.{keys_code, key_test}
use Rattle.lib_wrappers.specs.AllocatingRoutines.Births.{with_key, IsRangeMade}
use Rattle.lib_wrappers.specs.AllocatingRoutines.Entering.{block_bytes, CanEnter, registers_in, HasEntered}
use Rattle.lib_wrappers.specs.AllocatingRoutines.Entering.{IsEntered}
use Rattle.lib_wrappers.specs.AllocatingRoutines.Entering.{IsEnterRoutine, round_code, room_code, room_test}
use Rattle.lib_wrappers.specs.AllocatingRoutines.Entering.{end_of_block}
use Rattle.lib_wrappers.specs.AllocatingRoutines.Entering.{enter_code}
use Rattle.lib_wrappers.proofs.AllocatingRoutines.Stretches.{IsDone, stretch_on, goes_past, goes_into}
use Rattle.lib_wrappers.proofs.AllocatingRoutines.FreeLocks.{stack_laid_out, free_for_automatics}
use Rattle.lib_wrappers.proofs.AllocatingRoutines.BlockBirth.{held_after, keys_keep}
use Rattle.lib_wrappers.proofs.AllocatingRoutines.BlockMemory.{good_by_locks, range_made}
use Rattle.lib_wrappers.proofs.AllocatingRoutines.EntryBirths.{stack_in_space, entry_born, entry_of_lock}
use Rattle.lib_wrappers.proofs.AllocatingRoutines.Seeks.{keys_allowed, found_left, keys_shown, some_left, none_left}
use Rattle.lib_wrappers.proofs.AllocatingRoutines.SourceEntries.{homes_from, entered_in, block_of, no_space}
use Rattle.lib_wrappers.proofs.AllocatingRoutines.SourceEntries.{no_more_keys}
use Rattle.lib_wrappers.proofs.AllocatingRoutines.SourceEntries.{enters_block, end_by_bytes, some_bytes, few_bytes}

module _ (map : MapSizes) (mapped : AreMapped map) (entry : View) (IsGood : Bytes → Type 0)
    (local : IsLocal map entry IsGood) (top bytes : ℕ) (to : EntryRegisters) (line t : ℕ)
    (ins_below : AreBelow t (top ∷ bytes ∷ [])) (to_below : AreBelow t (registers_in to))
    (apart : AreNoneOf (top ∷ bytes ∷ []) (registers_in to)) (distinct : AreDistinct (registers_in to))
    (fresh zero : List FlatInstruction) (freshens : IsFreshRoutine map to.key to.lock (t + 4) fresh)
    (zeroes : IsZeroRoutine map entry IsGood to.first bytes (t + 4) zero) (set : Setting) (same_sizes : set.sizes ≡ map)
    (functions : ℕ) (types : ℕ → ℕ) (k : Keys) (x : Source) (vs : List Variable) (charge weight : ℕ) where
  abbrev c : Context
  c = context_of map true charge weight

  abbrev g : Views
  g = views_of map functions types entry

  abbrev whole : List FlatInstruction
  whole = enter_code map fresh zero top bytes to line t (t + 1)

  abbrev base : ℕ
  base = rounded_up 16 x.stacked

  abbrev extent : ℕ
  extent = block_bytes vs

  abbrev last : List FlatInstruction
  last = end_of_block to.first bytes to.end

  whole_length : length whole ≡ 19 + length fresh + length zero
  whole_length = omega (arith, length-append fresh (zero ++ last), length-append zero last)

  abbrev Goal : (code : List FlatInstruction) → (pc : ℕ) → State → Completed Block → Type 0
  Goal code pc s o = Reaches c code (100 + 40 * ((state_of o).work - x.work)) (Goes pc s) (pc + length whole)
      (IsEntered g k IsGood to t x s o)

  -- ---- where the objects stand: 0 the end of the object stack, 1 the first object, 2 the room

  first_registers : AreRegisters (top ∷ []) (to.first ∷ []) (t ∷ []) t
  first_registers = record {
    none = ((apart.0.0, tt), tt);
    distinct = (tt, tt);
    ins_below = (ins_below.0, tt);
    res_below = (to_below.0, tt);
    from = (omega arith, tt);
    own_distinct = (tt, tt);
  }

  record IsRounded (s s1 : State) : Type 0 where
    first : s1.values to.first ≡ base
    room : s1.values t ≡ region_end map Stack - base
    bytes_there : s1.values bytes ≡ extent
    memory : s1.memory ≡ s.memory
    shows : ShowsNothing s s1
    others : OthersStay (to.first ∷ []) t s s1

  stack_ends : region_start map Heap ≡ region_end map Stack
  unfolding region_start
  stack_ends = refl

  stack_small : region_end map Stack < 2 ^ 32
  unfolding region_start region_size
  stack_small = omega (arith, mapped.globals, mapped.budgets.stack.greatest)

  module _ (code : List FlatInstruction) (pc : ℕ) (s : State) (has : HasAt code pc whole) (w : IsOfWords s)
      (f : IsFor g k IsGood x s) (top_is : s.values top ≡ x.stacked) (bytes_is : s.values bytes ≡ extent)
      (can : CanEnter map vs x) where
    base_below : base ≤ region_end map Stack
    base_below =
        let lie = stack_laid_out map mapped in let a = lie.aligned in let b = lie.whole in let e = lie.ends in
        let l = can.separate.top in omega arith

    rounded : (s1 : State)
        → IsDone c (top ∷ []) (to.first ∷ []) (t ∷ []) t first_registers (round_code 0 1 ++ room_code map 1 2) refl s s1
        → IsRounded s s1
    unfolding put reg_result
    rounded s1 d =
        let small = stack_small in let e = top_is in let below = base_below in let l = can.separate.top in
        let ends = stack_ends in
        record {
          first = sym (d.agrees.values 1 (omega arith)) ∙ omega arith;
          room = sym (d.agrees.values 2 (omega arith)) ∙ omega arith;
          bytes_there = d.others bytes ins_below.1.0 (apart.1.0.0, tt) ∙ bytes_is;
          memory = agrees_memory 3 _ _ s1 d.agrees;
          shows = agrees_shows 3 _ _ s s1 d.agrees
              (record { input = refl; output = refl; taken = refl; accesses = refl; turns = refl });
          others = d.others;
        }

    abbrev rest : List FlatInstruction
    rest = keys_code map t (t + 1) ++ (key_test t line ++ (fresh ++ (zero ++ last)))

    abbrev lines : List FlatInstruction
    lines = round_code top to.first ++ room_code map to.first t

    at_test : HasAt code (pc + 5) (room_test bytes t line ++ rest)
    at_test = has_back code pc lines (room_test bytes t line ++ rest) has

    at_rest : HasAt code (pc + 7) rest
    at_rest =
        let e : pc + 5 + 2 ≡ pc + 7 = omega arith in
        subst (λ i. HasAt code i rest) e (has_back code (pc + 5) (room_test bytes t line) rest at_test)

    at_keys : HasAt code (pc + 16) (key_test t line ++ (fresh ++ (zero ++ last)))
    at_keys =
        let e : pc + 7 + 9 ≡ pc + 16 = omega arith in
        subst (λ i. HasAt code i (key_test t line ++ (fresh ++ (zero ++ last)))) e
        (has_back code (pc + 7) (keys_code map t (t + 1)) (key_test t line ++ (fresh ++ (zero ++ last))) at_rest)

    at_fresh : HasAt code (pc + 18) (fresh ++ (zero ++ last))
    at_fresh =
        let e : pc + 16 + 2 ≡ pc + 18 = omega arith in
        subst (λ i. HasAt code i (fresh ++ (zero ++ last))) e
        (has_back code (pc + 16) (key_test t line) (fresh ++ (zero ++ last)) at_keys)

    at_zero : HasAt code (pc + 18 + length fresh) (zero ++ last)
    at_zero = has_back code (pc + 18) fresh (zero ++ last) at_fresh

    at_last : HasAt code (pc + 18 + length fresh + length zero) last
    at_last = has_back code (pc + 18 + length fresh) zero last at_zero

    rounds : (bound : ℕ) (R : Outcome → Type 0)
        → ((s1 : State) → IsOfWords s1 → IsRounded s s1
        → Reaches c code bound (Goes (pc + 5) s1) (pc + length whole) R)
        → Reaches c code (5 + bound) (Goes pc s) (pc + length whole) R
    rounds bound R on =
        stretch_on c (top ∷ []) (to.first ∷ []) (t ∷ []) t first_registers (round_code 0 1 ++ room_code map 1 2) refl
        code bound pc s (pc + length whole) R w (has_front code pc lines (room_test bytes t line ++ rest) has)
        (tt, (tt, (tt, (tt, (tt, tt)))))
        (λ s1 w1 d1. on s1 w1 (rounded s1 d1))

    end_is : objects_end vs x.stacked ≡ base + extent
    end_is = end_by_bytes vs x.stacked can.some

    over : (e : Ending) (s' : State) → ShowsNothing s s' → s'.memory ≡ s.memory
        → HasEnded map e x (code_of e) (report_of e) s (counted c (End e) s')
    over e s' shows memory =
        ended_still e x x.work (code_of e) (report_of e) s (counted c (End e) s') f.shown
        (record {
          input = shows.input;
          output = shows.output;
          taken = shows.taken;
          accesses = shows.accesses;
          turns = shows.turns;
        }) (unwritten_same memory) refl refl

    -- ---- no room

    no_room : region_end map Stack < objects_end vs x.stacked → Goal code pc s (enter_block set vs line x)
    no_room beyond =
        let o = no_space set vs line x
        (ap (λ (y : MapSizes). nat_le (objects_end vs x.stacked) (region_end y Stack)) same_sizes
        ∙ lt-leb (objects_end vs x.stacked) (region_end map Stack) beyond) in
        let R = IsEntered g k IsGood to t x s (Ended (StackSpent line) x) in
        subst (Goal code pc s) (sym o)
        (weaken c code (5 + suc (suc 0)) (100 + 40 * (x.work - x.work)) (Goes pc s) (pc + length whole) R R
        (omega arith)
        (λ y q. q)
        (rounds (suc (suc 0)) R
        (λ s1 w1 d1.
        let room = d1.room in let there = d1.bytes_there in let e = end_is in let l = base_below in
        goes_into c code 1 (pc + 5) s1 Bgeu t (Register bytes) 1 (pc + length whole) R at_test.0
        (is_below (s1.values t) (s1.values bytes) (omega arith))
        (ended c code 0 (StackSpent line) (worked c s1) (pc + 5 + 1) (pc + length whole) R at_test.1.0
        (over (StackSpent line) (worked c s1) (shows_worked c s s1 d1.shows) d1.memory)))))

    -- ---- keys

    module _ (fits : objects_end vs x.stacked ≤ region_end map Stack) where
      keys_counted : key_counter map s.memory ≡ 2 + x.keys
      keys_counted = let a = f.objects.counted in let b = f.keys in omega arith

      key_registers : AreRegisters [] [] (t ∷ (t + 1) ∷ []) t
      key_registers = record {
        none = tt;
        distinct = tt;
        ins_below = tt;
        res_below = tt;
        from = (omega arith, (omega arith, tt));
        own_distinct = ((omega arith, tt), (tt, tt));
      }

      record HasCounted (s2 : State) : Type 0 where
        left : s2.values t ≡ bit_of (nat_lt x.keys map.budgets.keys)
        first : s2.values to.first ≡ base
        bytes_there : s2.values bytes ≡ extent
        memory : s2.memory ≡ s.memory
        shows : ShowsNothing s s2
        others : OthersStay (to.first ∷ []) t s s2

      counts : (bound : ℕ) (R : Outcome → Type 0)
          → ((s2 : State) → IsOfWords s2 → HasCounted s2
          → Reaches c code bound (Goes (pc + 16) s2) (pc + length whole) R)
          → Reaches c code (5 + suc (9 + bound)) (Goes pc s) (pc + length whole) R
      counts bound R on =
          rounds (suc (9 + bound)) R
          (λ s1 w1 d1.
          let lie = locks_laid_out map mapped in
          let fr = register_of [] [] (t ∷ (t + 1) ∷ []) in
          let room = d1.room in let there = d1.bytes_there in let e = end_is in
          let y = worked c s1 in
          let counted' : key_counter map s1.memory ≡ 2 + x.keys = ap (key_counter map) d1.memory ∙ keys_counted in
          goes_past c code (9 + bound) (pc + 5) (pc + 7) s1 Bgeu t (Register bytes) 1 (pc + length whole) R at_test.0
          (omega arith) (not_below (s1.values t) (s1.values bytes) (omega arith))
          (stretch_on c [] [] (t ∷ (t + 1) ∷ []) t key_registers (keys_code map 0 1) refl code bound (pc + 7) y
          (pc + length whole) R (worked_words c s1 w1)
          (has_front code (pc + 7) (keys_code map t (t + 1)) (key_test t line ++ (fresh ++ (zero ++ last))) at_rest)
          (keys_allowed map lie charge weight x.keys (through fr y) counted')
          (λ s2 w2 d2.
          let at : pc + 16 ≡ pc + 7 + 9 = omega arith in
          subst (λ i. Reaches c code bound (Goes i s2) (pc + length whole) R) at
          (on s2 w2 (record {
            left = sym (d2.agrees.values 0 (omega arith))
                ∙ found_left map lie charge weight x.keys (through fr y) counted' mapped.budgets.keys;
            first = d2.others to.first to_below.0 tt ∙ d1.first;
            bytes_there = d2.others bytes ins_below.1.0 tt ∙ d1.bytes_there;
            memory = agrees_memory 2 _ _ s2 d2.agrees ∙ d1.memory;
            shows = shows_both s y s2 (shows_worked c s s1 d1.shows)
                (agrees_shows 2 _ _ y s2 d2.agrees (let h = keys_shown map lie charge weight x.keys (through fr y)
                counted' in record {
                  input = h.input;
                  output = h.output;
                  taken = h.taken;
                  accesses = h.accesses;
                  turns = h.turns;
                }));
            others = λ r l none. d2.others r l tt ∙ d1.others r l none;
          })))))

      space_is : nat_le (objects_end vs x.stacked) (region_end set.sizes Stack) ≡ true
      space_is = ap (λ (y : MapSizes). nat_le (objects_end vs x.stacked) (region_end y Stack)) same_sizes
          ∙ le-leb (objects_end vs x.stacked) (region_end map Stack) fits

      no_key : map.budgets.keys ≤ x.keys → Goal code pc s (enter_block set vs line x)
      no_key spent =
          let o = no_more_keys set vs line x space_is can.some
          (ap (λ (y : MapSizes). nat_lt x.keys y.budgets.keys) same_sizes ∙ le-ltb x.keys map.budgets.keys spent) in
          let R = IsEntered g k IsGood to t x s (Ended (KeysSpent line) x) in
          subst (Goal code pc s) (sym o)
          (weaken c code (5 + suc (9 + suc (suc 0))) (100 + 40 * (x.work - x.work)) (Goes pc s) (pc + length whole) R R
          (omega arith) (λ y q. q)
          (counts (suc (suc 0)) R
          (λ s2 w2 d2.
          goes_into c code 1 (pc + 16) s2 Bne t (Number 0) 1 (pc + length whole) R at_keys.0
          (do_not_differ (s2.values t) 0 (d2.left ∙ none_left x.keys map.budgets.keys spent))
          (ended c code 0 (KeysSpent line) (worked c s2) (pc + 16 + 1) (pc + length whole) R at_keys.1.0
          (over (KeysSpent line) (worked c s2) (shows_worked c s s2 d2.shows) d2.memory)))))

      -- ---- the objects

      module _ (left : x.keys < map.budgets.keys) where
        few_keys : x.keys < 2 ^ 62
        few_keys = let most = mapped.budgets.keys in omega arith

        beneath : base < region_end map Stack
        beneath = let e = end_is in let some = some_bytes vs 0 can.some can.sized in omega arith

        rows_few : length (block_rows map s.memory) ≤ map.budgets.blocks
        rows_few =
            let e = rows_length s.memory (row_cell map 0) (block_total map s.memory) in
            let few = f.spaces.table.few in omega arith

        module _ (s2 : State) (d2 : HasCounted s2) where
          abbrev y2 : State
          y2 = worked c s2

          can_fresh : CanFresh map y2.memory
          can_fresh =
              let lie = stack_laid_out map mapped in let aligned = lie.aligned in
              let bottom = can.separate.bottom in
              let free = free_for_automatics g k x.objects s.memory mapped f.objects f.spaces.locks can.bytes
              can.separate.placed rows_few base
              (λ n live e. (let l = can.separate.below n live (ap is_allocated e) in omega arith))
              (omega arith) (omega arith) beneath in
              let now = keys_counted in let few = few_keys in
              subst (CanFresh map) (sym d2.memory) (record {
                good = f.spaces.locks;
                some = free.0;
                some_free = free.1;
                few = omega arith;
              })

          module _ (s3 : State) (d3 : HasFresh map to.key to.lock (t + 4) y2 s3) where
            abbrev lock : ℕ
            lock = s3.values to.lock

            good2 : AreSpacesGood map IsGood y2.memory
            good2 = subst (AreSpacesGood map IsGood) (sym d2.memory) f.spaces

            good3 : AreSpacesGood map IsGood s3.memory
            good3 = good_by_locks map mapped entry IsGood local y2.memory s3.memory d3.memory good2 d3.good

            first3 : s3.values to.first ≡ base
            first3 = d3.others to.first (let l = to_below.0 in omega arith) (distinct.0.1.0, (distinct.0.1.1.0, tt))
                ∙ d2.first

            bytes3 : s3.values bytes ≡ extent
            bytes3 = d3.others bytes (let l = ins_below.1.0 in omega arith) (apart.1.0.1.1.0, (apart.1.0.1.1.1.0, tt))
                ∙ d2.bytes_there

            module _ (s4 : State) (d4 : HasZeroed map entry IsGood to.first extent (t + 4) s3 s4) where
              made : IsRangeMade map entry IsGood base extent lock s.memory s4.memory
              made = subst (λ m. IsRangeMade map entry IsGood base extent lock m s4.memory) d2.memory
                  (range_made map mapped entry IsGood local base extent lock y2.memory s3.memory s4.memory good2
                  (record { was_free = d3.was_free; locked = d3.locked; others = d3.other_locks; counter = d3.counter })
                  d3.memory good3
                  (subst (λ a. IsZeroed map entry a extent s3.memory s4.memory)
                  first3 d4.memory) d4.good)

              last_registers : AreRegisters (to.first ∷ bytes ∷ []) (to.end ∷ []) [] (t + 4)
              last_registers =
                  let a = to_below.0 in let b = to_below.1.0 in let e = ins_below.1.0 in
                  record {
                    none = ((distinct.0.0, tt), ((apart.1.0.1.0, tt), tt));
                    distinct = (tt, tt);
                    ins_below = (omega arith, (omega arith, tt));
                    res_below = (omega arith, tt);
                    from = tt;
                    own_distinct = tt;
                  }

              module _ (s5 : State)
                  (d5 : IsDone c (to.first ∷ bytes ∷ []) (to.end ∷ []) [] (t + 4) last_registers (end_of_block 0 1 2)
                  refl s4 s5) where
                memory5 : s5.memory ≡ s4.memory
                memory5 = agrees_memory 3 _ _ s5 d5.agrees

                abbrev k' : Keys
                k' = with_key (length x.objects) lock k

                shown : ShowsNothing s s5
                shown =
                    let a = shows_both s y2 s3 (shows_worked c s s2 d2.shows) d3.shows in
                    shows_both s s4 s5 (shows_both s s3 s4 a d4.shows)
                    (agrees_shows 3 _ _ s4 s5 d5.agrees
                    (record { input = refl; output = refl; taken = refl; accesses = refl; turns = refl }))

                stands : IsFor g k' IsGood (entered_in vs x) s5
                stands = record {
                  objects = subst (StandsFor g k' (entered_in vs x).objects) (sym memory5)
                      (entry_born map mapped functions types entry IsGood k x.stacked x.objects vs lock s.memory
                      s4.memory
                      f.objects can.separate can.some fits made);
                  spaces = subst (AreSpacesGood map IsGood) (sym memory5) d4.good;
                  keys = (let e = f.keys in omega arith);
                  shown = (let h = shown_still x s s5 shown f.shown in record {
                    input = h.input;
                    output = h.output;
                    taken = h.taken;
                    accesses = h.accesses;
                  });
                }

                first5 : s5.values to.first ≡ base
                first5 = d5.others to.first (let l = to_below.0 in omega arith) (distinct.0.0, tt)
                    ∙ d4.others to.first (let l = to_below.0 in omega arith) tt ∙ first3

                end5 : s5.values to.end ≡ objects_end vs x.stacked
                unfolding put reg_result
                end5 =
                    let a = d4.others to.first (let l = to_below.0 in omega arith) tt ∙ first3 in
                    let b = d4.others bytes (let l = ins_below.1.0 in omega arith) tt ∙ bytes3 in
                    let e = end_is in let small = stack_small in
                    sym (d5.agrees.values 2 (omega arith)) ∙ omega arith

                key5 : s5.values to.key ≡ 2 + k.made
                key5 = d5.others to.key (let l = to_below.1.1.0 in omega arith) ((λ e. distinct.1.0.0 (sym e)), tt)
                    ∙ d4.others to.key (let l = to_below.1.1.0 in omega arith) tt
                    ∙ d3.new_key ∙ ap (key_counter map) d2.memory ∙ f.objects.counted

                lock5 : s5.values to.lock ≡ lock
                lock5 = d5.others to.lock (let l = to_below.1.1.1.0 in omega arith)
                    ((λ e. distinct.1.0.1.0 (sym e)), tt)
                    ∙ d4.others to.lock (let l = to_below.1.1.1.0 in omega arith) tt

                has_entered : HasEntered g k IsGood to t x s (homes_from vs (length x.objects)) (entered_in vs x) s5
                has_entered = record {
                  keys = k';
                  held = keys_keep (length x.objects) lock x.objects k (omega arith);
                  stands = stands;
                  first_is = first5;
                  end_is = end5;
                  key_is = key5;
                  share = λ n l. (let a = key5 in let b = lock5 in
                      held_after (length x.objects) lock k n l
                      ∙ ap (λ y. record { key = y; lock = lock }) (sym key5)
                      ∙ ap (λ y. record { key = s5.values to.key; lock = y }) (sym lock5));
                  of_lock = entry_of_lock map mapped functions types entry IsGood k x.stacked x.objects vs lock s.memory
                      s4.memory f.objects can.separate can.some fits made (entered_in vs x) refl (s5.values to.lock)
                      lock5;
                  turns = shown.turns;
                  low = λ a l out. (let e = end_is in
                      ap (λ m. m a) memory5
                      ∙ made.range.low a l (⊎_elim (λ y. inl y) (λ y. inr (omega arith)) out));
                  behind = λ a l. ap (λ m. m a) memory5 ∙ made.behind a l;
                  others = λ r l none. d5.others r (omega arith) (none.1.0, tt) ∙ d4.others r (omega arith) tt
                      ∙ d3.others r (omega arith) (none.1.1.0, (none.1.1.1.0, tt)) ∙ d2.others r l (none.0, tt);
                }

        entered : Goal code pc s (enter_block set vs line x)
        entered =
            let o = enters_block set vs line x space_is can.some
            (ap (λ (y : MapSizes). nat_lt x.keys y.budgets.keys) same_sizes ∙ lt-ltb x.keys map.budgets.keys left) in
            let R = IsEntered g k IsGood to t x s (Gives (block_of vs x) (entered_in vs x)) in
            let few = few_bytes vs 0 can.sized in
            let end : pc + 18 + length fresh + length zero + 1 ≡ pc + length whole = omega (arith, whole_length) in
            subst (Goal code pc s) (sym o)
            (weaken c code (5 + suc (9 + suc (14 + ((16 + 4 * extent) + (1 + 0)))))
            (100 + 40 * ((entered_in vs x).work - x.work)) (Goes pc s) (pc + length whole) R R (omega arith) (λ y q. q)
            (counts (suc (14 + ((16 + 4 * extent) + (1 + 0)))) R
            (λ s2 w2 d2.
            goes_past c code (14 + ((16 + 4 * extent) + (1 + 0))) (pc + 16) (pc + 18) s2 Bne t
            (Number 0) 1
            (pc + length whole) R at_keys.0 (omega arith)
            (differ (s2.values t) 0 (λ e. some_left x.keys map.budgets.keys left (sym d2.left ∙ e)))
            (next c code 14 ((16 + 4 * extent) + (1 + 0)) (Goes (pc + 18) (worked c s2)) (pc + 18 + length fresh)
            (pc + length whole) (HasFresh map to.key to.lock (t + 4) (worked c s2)) Never R (worked_words c s2 w2)
            ((freshens true charge weight).from code (pc + 18) (worked c s2)
            (has_front code (pc + 18) fresh (zero ++ last) at_fresh) (worked_words c s2 w2) (can_fresh s2 d2))
            (λ s3 w3 d3.
            let first = first3 s2 d2 s3 d3 in let e = end_is in let space = stack_in_space map mapped in
            let s0 = space.0 in let s1 = space.1 in let bottom = can.separate.bottom in
            next c code (16 + 4 * extent) (1 + 0) (Goes (pc + 18 + length fresh) s3)
            (pc + 18 + length fresh + length zero)
            (pc + length whole) (HasZeroed map entry IsGood to.first extent (t + 4) s3) Never R w3
            ((zeroes extent charge weight).from code (pc + 18 + length fresh) s3
            (has_front code (pc + 18 + length fresh) zero last at_zero) w3 (
              record {
                size = bytes3 s2 d2 s3 d3;
                aligned = omega arith;
                range = record { first = omega arith; last = omega arith };
              },
              good3 s2 d2 s3 d3,
            ))
            (λ s4 w4 d4.
            stretch_on c (to.first ∷ bytes ∷ []) (to.end ∷ []) [] (t + 4) (last_registers s2 d2 s3 d3 s4 d4)
            (end_of_block 0 1 2) refl code 0 (pc + 18 + length fresh + length zero) s4 (pc + length whole) R w4 at_last
            (tt, tt)
            (λ s5 w5 d5.
            arrived c code 0 s5 (pc + 18 + length fresh + length zero + 1) (pc + length whole) R end
            (has_entered s2 d2 s3 d3 s4 d4 s5 d5)))
            (λ status report s' never. absurd never))
            (λ status report s' never. absurd never)))))

    enters : Goal code pc s (enter_block set vs line x)
    enters = ⊎_elim
        (λ beyond. no_room beyond)
        (λ fits. ⊎_elim (λ left. entered fits left) (λ spent. no_key fits spent) (cases_lt x.keys map.budgets.keys))
        (cases_lt (region_end map Stack) (objects_end vs x.stacked))

pub enter_does : (map : MapSizes) → AreMapped map → (entry : View) (IsGood : Bytes → Type 0)
    → IsLocal map entry IsGood → (top bytes : ℕ) (to : EntryRegisters) (line t : ℕ) → AreBelow t (top ∷ bytes ∷ [])
    → AreBelow t (registers_in to) → AreNoneOf (top ∷ bytes ∷ []) (registers_in to) → AreDistinct (registers_in to)
    → (fresh zero : List FlatInstruction) → IsFreshRoutine map to.key to.lock (t + 4) fresh
    → IsZeroRoutine map entry IsGood to.first bytes (t + 4) zero
    → IsEnterRoutine map entry IsGood top bytes to line t (enter_code map fresh zero top bytes to line t (t + 1))
enter_does map mapped entry IsGood local top bytes to line t ins_below to_below apart distinct fresh zero freshens
    zeroes
    set same functions types k x vs charge weight = record {
      from = λ code pc s has w p.
          enters map mapped entry IsGood local top bytes to line t ins_below to_below apart distinct fresh zero freshens
          zeroes set same functions types k x vs charge weight code pc s has w p.0 p.1 p.2 p.3;
    }
