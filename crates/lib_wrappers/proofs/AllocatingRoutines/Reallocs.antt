-- `realloc` as an action.
use Rattle.std.proofs.Common.{◌≡◌, ◌≢◌, ℕ, suc, ◌+◌, ◌-◌, ◌*◌, ◌<◌, ◌≤◌, List, [], ◌∷◌, ◌++◌, true, length, refl, sym}
use Rattle.std.proofs.Common.{ap}
use Rattle.std.proofs.Common.{◌∙◌, subst, arith, length-append, ⊎_elim}
use Rattle.std.proofs.lemmas.Bool.{cases_eq}
use Rattle.sb_base.specs.declared.ending.Ending.{Ending}
use Rattle.sb_base.specs.declared.ending.Ending.TheVariants.{Temporal, BadFree, Keys as KeysSpent}
use Rattle.sb_base.specs.Endings.{code_of, report_of}
use Rattle.addr_map.specs.Places.{MapSizes, AreMapped}
use Rattle.rv_isa.specs.declared.instruction.BranchOp.TheVariants.{Beq}
use Rattle.obj_memory.specs.declared.value.Bounds.{Bounds}
use Rattle.obj_memory.specs.declared.value.Value.{Value}
use Rattle.obj_memory.specs.Objects.{object_at}
use Rattle.obj_memory.specs.Heap.{block_count}
use Rattle.obj_memory.specs.Judgement.{place_in}
use Rattle.source_meaning.specs.State.{State as Source, Outcome as Completed, Gives, Ended, Paused, on, Setting}
use Rattle.source_meaning.specs.Acting.{at_work, state_of}
use Rattle.source_meaning.specs.Actions.{integer}
use Rattle.source_meaning.specs.Heap.{allocate, freed, replace_block, realloc}
use Rattle.source_meaning.specs.Library.{argument}
use Rattle.flat_code.specs.declared.instruction.RightOperand.TheVariants.{Number}
use Rattle.flat_code.specs.declared.instruction.FlatInstruction.{FlatInstruction}
use Rattle.flat_code.specs.Memory.{Bytes}
use Rattle.flat_code.specs.State.{State}
use Rattle.flat_code.specs.Words.{IsOfWords}
use Rattle.flat_code.specs.Meaning.{Context, Goes}
use Rattle.flat_code.specs.declared.registers.Held.{Held}
use Rattle.flat_code.specs.Routines.Registers.{AreBelow, AreNoneOf, IsNoneOf, OthersStay}
use Rattle.flat_code.specs.Routines.Routine.{HasAt, Outcome, Continues, Halts, Reaches, unless_code}
use Rattle.flat_code.specs.Routines.Effects.{worked}
use Rattle.flat_code.specs.Routines.Metadata.{View, held_registers, ShowsNothing}
use Rattle.flat_code.proofs.Routines.Steps.{has_front, has_back}
use Rattle.flat_code.proofs.Routines.Rules.{next, arrived, weaken}
use Rattle.flat_code.proofs.Routines.Branches.{are_equal, are_not_equal}
use Rattle.flat_code.proofs.Routines.Showing.{shows_both}
use Rattle.flat_code.proofs.Routines.Words.{IsLocal}
use Rattle.flat_code.specs.Routines.Objects.StandsFor.{Views, Keys, spell}
use Rattle.shadow_space.proofs.Entries.{context_of}
use Rattle.lock_space.specs.Routines.{IsReleaseRoutine}
use Rattle.heap_space.specs.Table.{block_total}
use Rattle.heap_space.specs.Routines.{IsFindRoutine}
use Rattle.heap_space.specs.Routines.{IsReleaseRoutine as IsUnlistRoutine}
use Rattle.flat_actions.specs.Actions.{ChangesNothing}
use Rattle.flat_actions.specs.Actions.{IsFor, Word, Pointer, AreHeldBy, IsHeldBy, Leaves, views_of, context_in}
use Rattle.flat_actions.specs.Actions.{work_of}
use Rattle.flat_actions.specs.Ranges.{IsTaggedMoveRoutine}
use Rattle.flat_actions.proofs.Standing.{unwritten_same}
use Rattle.flat_actions.proofs.Standing.{for_still, ended_still}
use Rattle.flat_code.proofs.Routines.Spaces.Quiet.{shows_worked, worked_words}
use Rattle.flat_actions.specs.Actions.{runtime_basis}
use Rattle.lib_wrappers.specs.AllocatingRoutines.Premises.{AreStanding}
use Rattle.lib_wrappers.specs.AllocatingRoutines.Allocating.{IsAllocateRoutine}
use Rattle.lib_wrappers.specs.AllocatingRoutines.Freeing.{found_test}
use Rattle.lib_wrappers.specs.AllocatingRoutines.Reallocating.{IsReallocRoutine, tests_code, replace_code}
use Rattle.lib_wrappers.specs.AllocatingRoutines.Reallocating.{realloc_code}
use Rattle.lib_wrappers.proofs.AllocatingRoutines.Stretches.{goes_past, goes_into}
use Rattle.lib_wrappers.proofs.AllocatingRoutines.Stretches.{above_none}
use Rattle.lib_wrappers.proofs.AllocatingRoutines.Leaving.{leaves_from, either_of}
use Rattle.lib_wrappers.proofs.AllocatingRoutines.Allocates.{rows_are_blocks}
use Rattle.lib_wrappers.proofs.AllocatingRoutines.BlockBirth.{LiesInHeap}
use Rattle.lib_wrappers.proofs.AllocatingRoutines.SourceBlocks.{sought_in, made_in}
use Rattle.lib_wrappers.proofs.AllocatingRoutines.SourceFrees.{ended_in}
use Rattle.lib_wrappers.proofs.AllocatingRoutines.SourceReallocs.{new_pointer, lesser_of, moved_in, IsAllocated}
use Rattle.lib_wrappers.proofs.AllocatingRoutines.SourceReallocs.{NoPlace, NoKey}
use Rattle.lib_wrappers.proofs.AllocatingRoutines.SourceReallocs.{Made}
use Rattle.lib_wrappers.proofs.AllocatingRoutines.SourceReallocs.{allocated, reallocs_null, reallocs_by, replaced}
use Rattle.lib_wrappers.proofs.AllocatingRoutines.SourceReallocs.{replaced_by}
use Rattle.lib_wrappers.proofs.AllocatingRoutines.FreedTests.{IsFreed, IsTested, AreOutcomes, tested}
use Rattle.lib_wrappers.proofs.AllocatingRoutines.Replaces.{replaces_reached}

module _ (map : MapSizes) (mapped : AreMapped map) (entry : View) (IsGood : Bytes → Type 0)
    (local : IsLocal map entry IsGood) (h : Held) (size : ℕ) (into : Held) (line t : ℕ)
    (old_below : AreBelow t (held_registers h)) (size_below : size < t) (into_below : AreBelow t (held_registers into))
    (old_apart : AreNoneOf (held_registers h) (held_registers into)) (size_apart : IsNoneOf size (held_registers into))
    (find block' move unlist unlock : List FlatInstruction)
    (finds : IsFindRoutine map h.value h.tag.key (t + 1) (t + 2) (t + 4) find)
    (allocates : IsAllocateRoutine map entry IsGood size into line (t + 4) block')
    (moves : IsTaggedMoveRoutine map entry IsGood into.value h.value (t + 1) (t + 4) move)
    (unlists : IsUnlistRoutine map h.value (t + 4) unlist) (unlocks : IsReleaseRoutine map h.tag.lock (t + 4) unlock)
    (set : Setting) (same_sizes : set.sizes ≡ map) (functions : ℕ) (types : ℕ → ℕ) (k : Keys) (x : Source)
    (v u : Value) (charge weight : ℕ) where
  abbrev c : Context
  c = context_of map true charge weight

  abbrev g : Views
  g = views_of map functions types entry

  abbrev tests : List FlatInstruction
  tests = tests_code find h line t (t + 2)

  abbrev replace : List FlatInstruction
  replace = replace_code move unlist unlock size (t + 1)

  abbrev guarded : List FlatInstruction
  guarded = unless_code Beq h.value (Number 0) (unless_code Beq into.value (Number 0) replace)

  abbrev whole : List FlatInstruction
  whole = realloc_code find block' move unlist unlock h size into line t (t + 1) (t + 2)

  abbrev z : ℕ
  z = u.word

  abbrev run : Completed Value
  run = realloc set v u line x

  tests_length : length tests ≡ 7 + length find
  tests_length = omega (arith, length-append find (found_test (t + 2) line))

  replace_length : length replace ≡ 2 + length move + length unlist + length unlock
  replace_length = omega (arith, length-append move (unlist ++ unlock), length-append unlist unlock)

  whole_length : length whole ≡ 10 + length find + length block' + length replace
  whole_length = omega (arith, tests_length, length-append tests (block' ++ guarded), length-append block' guarded)

  module _ (code : List FlatInstruction) (pc : ℕ) (s : State) (has : HasAt code pc whole) (w : IsOfWords s)
      (f : IsFor g k IsGood x s) (held : IsHeldBy g k x.objects (Pointer h) v s.values) (size_is : s.values size ≡ z)
      (standing : AreStanding map x) where
    abbrev end : ℕ
    end = pc + length whole

    -- where the parts stand
    abbrev after_tests : ℕ
    after_tests = pc + 1 + 5 + length find + 2

    abbrev after_block : ℕ
    after_block = after_tests + length block'

    at_rest : HasAt code after_tests (block' ++ guarded)
    at_rest =
        let e : pc + length (unless_code Beq h.value (Number 0) tests) ≡ after_tests = omega (arith, tests_length) in
        subst (λ i. HasAt code i (block' ++ guarded)) e
        (has_back code pc (unless_code Beq h.value (Number 0) tests) (block' ++ guarded) has)

    at_tests : HasAt code (pc + 1) tests
    at_tests = (has_front code pc (unless_code Beq h.value (Number 0) tests) (block' ++ guarded) has).1

    at_guarded : HasAt code after_block guarded
    at_guarded = has_back code after_tests block' guarded at_rest

    end_is : after_block + 1 + length (unless_code Beq into.value (Number 0) replace) ≡ end
    end_is = omega (arith, whole_length)

    inner_end : after_block + 1 + 1 + length replace ≡ end
    inner_end = omega (arith, whole_length)

    itself : ShowsNothing s s
    itself = record { input = refl; output = refl; taken = refl; accesses = refl; turns = refl }

    count_is : block_total map s.memory ≡ block_count x.objects
    count_is = rows_are_blocks map k x.objects s.memory f.objects.table f.objects.disjoint

    -- ---- a block is allocated from a state with other registers

    module _ (s2 : State) (w2 : IsOfWords s2) (memory : s2.memory ≡ s.memory) (shows : ShowsNothing s s2)
        (others : OthersStay [] t s s2) where
      f2 : IsFor g k IsGood x s2
      f2 = for_still g k IsGood x s s2 memory shows f

      size2 : s2.values size ≡ z
      size2 = others size size_below tt ∙ size_is

      abbrev Q : Outcome → Type 0
      Q = Leaves g k IsGood (Pointer into) (t + 4) x s2 (allocate set z line x)

      block_reached : (bound : ℕ) (R : Outcome → Type 0)
          → ((s3 : State) → IsOfWords s3 → Q (Continues s3) → Reaches c code bound (Goes after_block s3) end R)
          → ((status : ℕ) (report : List ℕ) (s3 : State) → Q (Halts status report s3) → R (Halts status report s3))
          → Reaches c code ((60 + 20 * work_of (allocate set z line) x) + bound) (Goes after_tests s2) end R
      block_reached bound R on off =
          next c code (60 + 20 * work_of (allocate set z line) x) bound (Goes after_tests s2) after_block end
          (λ s3. Q (Continues s3))
          (λ status report s3. Q (Halts status report s3)) R w2
          (weaken c code (60 + 20 * work_of (allocate set z line) x) (60 + 20 * work_of (allocate set z line) x)
          (Goes after_tests s2) after_block Q _ (omega arith) (either_of Q)
          ((allocates set same_sizes functions types k x z charge weight).from code after_tests s2
          (has_front code after_tests block' guarded at_rest) w2 (f2, size2, standing)))
          on off

      -- as before the registers changed
      back : (o : Completed Value) (y : Outcome) → Leaves g k IsGood (Pointer into) (t + 4) x s2 o y
          → Leaves g k IsGood (Pointer into) t x s o y
      back o y q = leaves_from g k IsGood (Pointer into) t (t + 4) (omega arith) x s s2 memory shows
          (λ r l none. others r l tt) o y q

    -- work alone differs
    again : (s1 s3 : State) (o : Completed Value) → Leaves g k IsGood (Pointer into) (t + 4) x s1 o (Continues s3)
        → Leaves g k IsGood (Pointer into) (t + 4) x s1 o (Continues (worked c s3))
    again s1 s3 (Gives a x') q = record {
      keys = q.keys;
      held = q.held;
      stands = for_still g q.keys IsGood x' s3 (worked c s3) refl
          (shows_worked c s3 s3 (record { input = refl; output = refl; taken = refl; accesses = refl; turns = refl }))
          q.stands;
      given = (let y = q.given in record { word = y.word; tag = y.tag });
      turns = q.turns;
      elsewhere = (let y = q.elsewhere in record { low = y.low; behind = y.behind });
      others = q.others;
    }
    again s1 s3 (Ended e' x') q = absurd q
    again s1 s3 (Paused x') q = absurd q

    -- ---- null

    abbrev R : Outcome → Type 0
    R = Leaves g k IsGood (Pointer into) t x s run

    null_reached : v.word ≡ 0 → Reaches c code (100 + 30 * ((state_of run).work - x.work)) (Goes pc s) end R
    null_reached e =
        let o = reallocs_null set v u line x e in
        let null : s.values h.value ≡ 0 = held.0.word ∙ e in
        let w1 = worked_words c s w in
        let work : (state_of run).work - x.work ≡ work_of (allocate set z line) x = ap
        (λ o. (state_of o).work - x.work) o in
        weaken c code (suc ((60 + 20 * work_of (allocate set z line) x) + 1))
        (100 + 30 * ((state_of run).work - x.work)) (Goes pc s) end R R (omega arith) (λ y q. q)
        (goes_past c code ((60 + 20 * work_of (allocate set z line) x) + 1) pc after_tests s Beq h.value (Number 0)
        (length tests) end
        R has.0 (omega (arith, tests_length)) (are_equal (s.values h.value) 0 null)
        (block_reached (worked c s) w1 refl (shows_worked c s s itself) (λ r l none. refl) 1 R
        (λ s3 w3 q. by (allocate set z line x) o s3 q)
        (λ status report s3 q. subst (λ o. Leaves g k IsGood (Pointer into) t x s o (Halts status report s3)) (sym o)
        (back (worked c s) w1 refl (shows_worked c s s itself) (λ r l none. refl) (allocate set z line x)
        (Halts status report s3) q))))
      where
        stays : (o : Completed Value) (s3 : State)
            → Leaves g k IsGood (Pointer into) (t + 4) x (worked c s) o (Continues s3)
            → s3.values h.value ≡ s.values h.value
        stays (Gives a x') s3 q = q.others h.value (let l = old_below.0 in omega arith) old_apart.0
        stays (Ended e' x') s3 q = absurd q
        stays (Paused x') s3 q = absurd q

        by : (o : Completed Value) → run ≡ o → (s3 : State)
            → Leaves g k IsGood (Pointer into) (t + 4) x (worked c s) o (Continues s3)
            → Reaches c code 1 (Goes after_block s3) end R
        by o same s3 q =
            goes_past c code 0 after_block (after_block + 1 + length (unless_code Beq into.value (Number 0) replace))
            s3 Beq h.value
            (Number 0) (length (unless_code Beq into.value (Number 0) replace)) end R at_guarded.0 refl
            (are_equal (s3.values h.value) 0 (stays o s3 q ∙ held.0.word ∙ e))
            (arrived c code 0 (worked c s3) (after_block + 1 + length (unless_code Beq into.value (Number 0) replace))
            end R end_is
            (subst (λ o. Leaves g k IsGood (Pointer into) t x s o (Continues (worked c s3))) (sym same)
            (back (worked c s) (worked_words c s w) refl (shows_worked c s s itself) (λ r l none. refl) o
            (Continues (worked c s3)) (again (worked c s) s3 o q))))

    -- ---- a block in place of the old one

    module _ (some : v.word ≢ 0) where
      abbrev s1 : State
      s1 = worked c s

      f1 : IsFor g k IsGood x s1
      f1 = for_still g k IsGood x s s1 refl (shows_worked c s s itself) f

      abbrev B : ℕ
      B = 99 + 30 * ((state_of run).work - x.work)

      run_is : {o : Completed ℕ} → freed v line x ≡ o → run ≡ on o (λ n. replace_block set n z line)
      run_is e = reallocs_by set v u line x some ∙ ap (λ o. on o (λ n. replace_block set n z line)) e

      work_is : {o : Completed Value} → run ≡ o → B ≡ 99 + 30 * ((state_of o).work - x.work)
      work_is e = ap (λ o. 99 + 30 * ((state_of o).work - x.work)) e

      over : (n : ℕ) (e : Ending) → run ≡ Ended e (at_work n x) → (s' : State) → ChangesNothing s1 s'
          → R (Halts (code_of e) (report_of e) s')
      over n e o s' still =
          subst (λ o. Leaves g k IsGood (Pointer into) t x s o (Halts (code_of e) (report_of e) s')) (sym o)
          (ended_still e x n (code_of e) (report_of e) s s' f.shown
          (shows_both s s1 s' (shows_worked c s s itself) still.shows) (unwritten_same still.memory) refl refl)

      module _ (n : ℕ) (b : Bounds) (e : freed v line x ≡ Gives n x) (q : IsFreed k x v n b) where
        abbrev a : Completed Value
        a = allocate set z line x

        abbrev Then : Type 0
        Then = (bound : ℕ) × (12 + 10 * block_total map s1.memory + bound ≤ B)
            × ((s2 : State) → IsOfWords s2
            → IsTested map mapped entry IsGood h line t old_below find [] finds functions types k x v charge weight code
            (pc + 1) end s1 at_tests (worked_words c s w) f1 held (object_at x.objects n).size s2
            → Reaches c code bound (Goes after_tests s2) end R)

        run_replaced : {o : Completed Value} → a ≡ o → run ≡ replaced n z line o
        run_replaced o = run_is e ∙ ap (replaced n z line) o

        -- the old pointer is no null behind the allocation
        still_some : (s2 s3 : State) → OthersStay [] t s1 s2 → (o : Completed Value)
            → Leaves g k IsGood (Pointer into) (t + 4) x s2 o (Continues s3) → s3.values h.value ≡ v.word
        still_some s2 s3 others (Gives y x') r =
            r.others h.value (let l = old_below.0 in omega arith) old_apart.0 ∙ others h.value old_below.0 tt ∙
            held.0.word
        still_some s2 s3 others (Ended e' x') r = absurd r
        still_some s2 s3 others (Paused x') r = absurd r

        no_place : a ≡ Gives (integer 0) (sought_in x) → Then
        no_place o =
            let r = run_replaced o in (
              (60 + 20 * work_of (allocate set z line) x) + 2,
              (let y = work_is r in let m = count_is in
                  let n = ap (λ o. (state_of o).work - x.work) o in omega arith),
              λ s2 w2 d2.
                  block_reached s2 w2 d2.memory (shows_both s s1 s2 (shows_worked c s s itself) d2.shows) d2.others 2 R
                  (λ s3 w3 l.
                  let l' = subst (λ o. Leaves g k IsGood (Pointer into) (t + 4) x s2 o (Continues s3)) o l in
                  let w' = still_some s2 s3 d2.others (Gives (integer 0) (sought_in x)) l' in
                  goes_into c code 1 after_block s3 Beq h.value (Number 0)
                  (length (unless_code Beq into.value (Number 0) replace)) end R
                  at_guarded.0 (are_not_equal (s3.values h.value) 0 (λ y. some (sym w' ∙ y)))
                  (goes_past c code 0 (after_block + 1) (after_block + 1 + 1 + length replace) (worked c s3) Beq
                  into.value (Number 0)
                  (length replace) end R at_guarded.1.0 refl (are_equal (s3.values into.value) 0 l'.given.word)
                  (arrived c code 0 (worked c (worked c s3)) (after_block + 1 + 1 + length replace) end R inner_end
                  (subst (λ o. Leaves g k IsGood (Pointer into) t x s o (Continues (worked c (worked c s3)))) (sym r)
                  (back s2 w2 d2.memory (shows_both s s1 s2 (shows_worked c s s itself) d2.shows) d2.others
                  (Gives (integer 0) (sought_in x)) (Continues (worked c (worked c s3)))
                  (again s2 (worked c s3) (Gives (integer 0) (sought_in x))
                  (again s2 s3 (Gives (integer 0) (sought_in x)) l')))))))
                  (λ status report s3 l. absurd (subst (λ o. Leaves g k IsGood (Pointer into) (t + 4) x s2 o
                  (Halts status report s3)) o l)),
            )

        no_key : a ≡ Ended (KeysSpent line) (sought_in x) → Then
        no_key o =
            let r = run_replaced o in (
              (60 + 20 * work_of (allocate set z line) x) + 0,
              (let y = work_is r in let m = count_is in
                  let n = ap (λ o. (state_of o).work - x.work) o in omega arith),
              λ s2 w2 d2.
                  block_reached s2 w2 d2.memory (shows_both s s1 s2 (shows_worked c s s itself) d2.shows) d2.others 0 R
                  (λ s3 w3 l. absurd (subst (λ o. Leaves g k IsGood (Pointer into) (t + 4) x s2 o (Continues s3)) o l))
                  (λ status report s3 l.
                  subst (λ o. Leaves g k IsGood (Pointer into) t x s o (Halts status report s3)) (sym r)
                  (back s2 w2 d2.memory (shows_both s s1 s2 (shows_worked c s s itself) d2.shows) d2.others
                  (Ended (KeysSpent line) (sought_in x)) (Halts status report s3)
                  (subst (λ o. Leaves g k IsGood (Pointer into) (t + 4) x s2 o (Halts status report s3)) o l))),
            )

        made : (p : ℕ) → a ≡ Gives (new_pointer x.objects p z) (made_in p z x)
            → LiesInHeap map p z → Then
        made p o lies =
            let new = new_pointer x.objects p z in
            let x1 = made_in p z x in
            let begins = lies.begins in
            let not_null : p ≢ 0 = λ y. omega arith in
            let x2 = moved_in n z (place_in x1.objects (length x.objects) p) x1 in
            let r : run ≡ Gives new (ended_in n x2) = run_replaced o ∙ replaced_by x.objects p z n line x1 not_null in
            let l = lesser_of n z x1.objects in
            let inner = suc (suc (suc (1 + ((40 + 16 * l) + ((16 + 16 * block_count x2.objects) + (11 + 0)))))) in (
              (60 + 20 * work_of (allocate set z line) x) + inner,
              (let y = work_is r in let m = count_is in
                  let n = ap (λ o. (state_of o).work - x.work) o in omega arith),
              λ s2 w2 d2.
                  block_reached s2 w2 d2.memory (shows_both s s1 s2 (shows_worked c s s itself) d2.shows) d2.others
                  inner R
                  (λ s3 w3 l3.
                  let y = subst (λ o. Leaves g k IsGood (Pointer into) (t + 4) x s2 o (Continues s3)) o l3 in
                  let y' = again s2 (worked c s3) (Gives new x1) (again s2 s3 (Gives new x1) y) in
                  let value = still_some s2 s3 d2.others (Gives new x1) y in
                  let locked : s3.values h.tag.lock ≡ (k.held n).lock =
                  y.others h.tag.lock (let l = old_below.1.1.1.1.0 in omega arith) old_apart.1.1.1.1.0
                  ∙ d2.others h.tag.lock old_below.1.1.1.1.0 tt ∙ ap (λ m. m.lock) held.0.tag
                  ∙ ap (λ y. (spell g k y).lock) q.tagged in
                  let sized : s3.values (t + 1) ≡ (object_at x.objects n).size =
                  y.others (t + 1) (omega arith) (above_none t (t + 1) (held_registers into) into_below (omega arith))
                  ∙ d2.size in
                  let wanted : s3.values size ≡ z =
                  y.others size (omega (arith, size_below)) size_apart ∙ d2.others size size_below tt ∙ size_is in
                  goes_into c code (suc (suc (1 + ((40 + 16 * l) + ((16 + 16 * block_count x2.objects) + (11 + 0))))))
                  after_block s3 Beq
                  h.value (Number 0) (length (unless_code Beq into.value (Number 0) replace)) end R at_guarded.0
                  (are_not_equal (s3.values h.value) 0 (λ y. some (sym value ∙ y)))
                  (goes_into c code (suc (1 + ((40 + 16 * l) + ((16 + 16 * block_count x2.objects) + (11 + 0)))))
                  (after_block + 1)
                  (worked c s3) Beq into.value (Number 0) (length replace) end R at_guarded.1.0
                  (are_not_equal (s3.values into.value) 0 (λ j. not_null (sym y.given.word ∙ j)))
                  (replaces_reached map mapped entry IsGood local h size into t old_below size_below into_below move
                  unlist
                  unlock moves unlists unlocks functions types k x n z p q.live q.block lies charge weight s2
                  (f2 s2 w2 d2.memory (shows_both s s1 s2 (shows_worked c s s itself) d2.shows) d2.others)
                  (worked c (worked c s3)) y' (value ∙ q.start) locked sized wanted code (after_block + 1 + 1) end R
                  (worked_words c (worked c s3) (worked_words c s3 w3)) at_guarded.1.1
                  (omega (arith, inner_end, replace_length))
                  (λ s6 y6.
                  subst (λ o. Leaves g k IsGood (Pointer into) t x s o (Continues s6)) (sym r)
                  (leaves_from g k IsGood (Pointer into) t t (omega arith) x s s2 d2.memory
                  (shows_both s s1 s2 (shows_worked c s s itself) d2.shows) (λ r l none. d2.others r l tt)
                  (Gives new (ended_in n x2)) (Continues s6) y6)))))
                  (λ status report s3 l3. absurd (subst (λ o. Leaves g k IsGood (Pointer into) (t + 4) x s2 o
                  (Halts status report s3)) o l3)),
            )

        by_allocation : IsAllocated map set z line x → Then
        by_allocation (NoPlace o) = no_place o
        by_allocation (NoKey o) = no_key o
        by_allocation (Made p o lies) = made p o lies

      outcomes : AreOutcomes map mapped entry IsGood h line t old_below find [] finds functions types k x v charge
          weight
          code (pc + 1) end s1 at_tests (worked_words c s w) f1 held B R
      outcomes = record {
        bad = λ e. (
          (let z = work_is (run_is e) in let y = count_is in omega arith),
          over (sought_in x).work (BadFree line) (run_is e),
        );
        late = λ e. (omega arith, over x.work (Temporal line) (run_is e));
        on = λ n b e q. by_allocation n b e q (allocated map mapped set same_sizes z line x);
      }

      some_reached : Reaches c code (100 + 30 * ((state_of run).work - x.work)) (Goes pc s) end R
      some_reached =
          weaken c code (suc B) (100 + 30 * ((state_of run).work - x.work)) (Goes pc s) end R R (omega arith)
          (λ y q. q)
          (goes_into c code B pc s Beq h.value (Number 0) (length tests) end R has.0
          (are_not_equal (s.values h.value) 0 (λ e. some (sym held.0.word ∙ e)))
          (tested map mapped entry IsGood h line t old_below find [] finds functions types k x v charge weight code
          (pc + 1)
          end s1 at_tests (worked_words c s w) f1 held B R outcomes))

    reallocs : Reaches c code (100 + 30 * ((state_of run).work - x.work)) (Goes pc s) end R
    reallocs = ⊎_elim (λ null. null_reached null) (λ some. some_reached some) (cases_eq v.word 0)

pub realloc_does : (map : MapSizes) → AreMapped map → (entry : View) (IsGood : Bytes → Type 0)
    → IsLocal map entry IsGood → (h : Held) (size : ℕ) (into : Held) (line t : ℕ) → AreBelow t (held_registers h)
    → size < t → AreBelow t (held_registers into) → AreNoneOf (held_registers h) (held_registers into)
    → IsNoneOf size (held_registers into) → (find block' move unlist unlock : List FlatInstruction)
    → IsFindRoutine map h.value h.tag.key (t + 1) (t + 2) (t + 4) find
    → IsAllocateRoutine map entry IsGood size into line (t + 4) block'
    → IsTaggedMoveRoutine map entry IsGood into.value h.value (t + 1) (t + 4) move
    → IsUnlistRoutine map h.value (t + 4) unlist → IsReleaseRoutine map h.tag.lock (t + 4) unlock
    → IsReallocRoutine map entry IsGood h size into line t
    (realloc_code find block' move unlist unlock h size into line t (t + 1) (t + 2))
realloc_does map mapped entry IsGood local h size into line t old_below size_below into_below old_apart size_apart find
    block' move unlist unlock finds allocates moves unlists unlocks set same functions types k x vs charge weight =
    record { from = λ code pc s has w p. by vs code pc s has w p.0 p.1 p.2 }
  where
    by : (vs : List Value) (code : List FlatInstruction) (pc : ℕ) (s : State)
        → HasAt code pc (realloc_code find block' move unlist unlock h size into line t (t + 1) (t + 2)) → IsOfWords s
        → IsFor (views_of map functions types entry) k IsGood x s
        → AreHeldBy (views_of map functions types entry) k x.objects (Pointer h ∷ Word size ∷ []) vs s.values
        → AreStanding map x
        → Reaches (context_in (runtime_basis map entry IsGood) charge weight) code
        (100 + 30 * work_of (realloc set (argument 0 vs) (argument 1 vs) line) x) (Goes pc s)
        (pc + length (realloc_code find block' move unlist unlock h size into line t (t + 1) (t + 2)))
        (Leaves (views_of map functions types entry) k IsGood (Pointer into) t x s
        (realloc set (argument 0 vs) (argument 1 vs) line x))
    by [] code pc s has w f held standing = absurd held
    by (v ∷ []) code pc s has w f held standing = absurd held.1
    by (v ∷ u ∷ []) code pc s has w f held standing =
        reallocs map mapped entry IsGood local h size into line t old_below size_below into_below old_apart size_apart
        find
        block' move unlist unlock finds allocates moves unlists unlocks set same functions types k x v u charge weight
        code
        pc s has w f held.0 held.1.0 standing
    by (v ∷ u ∷ y ∷ vs) code pc s has w f held standing = absurd held.1.1
