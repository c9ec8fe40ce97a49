-- The tests of a pointer that frees a block: by its tag and its lock word, then by the table.
use Rattle.std.proofs.Common.{◌≡◌, ℕ, suc, ◌+◌, ◌*◌, ◌%◌, ◌^◌, ◌<◌, ◌≤◌, List, [], ◌∷◌, ◌++◌, Bool, true, false}
use Rattle.std.proofs.Common.{Option, Some, None, length, refl, sym, ap, ◌∙◌, subst, arith}
use Rattle.sb_base.specs.declared.ending.Ending.{Ending}
use Rattle.sb_base.specs.declared.ending.Ending.TheVariants.{Temporal, BadFree}
use Rattle.sb_base.specs.Endings.{code_of, report_of}
use Rattle.addr_map.specs.Places.{MapSizes, AreMapped}
use Rattle.rv_isa.specs.declared.instruction.BranchOp.TheVariants.{Beq, Bne}
use Rattle.rv_isa.specs.declared.instruction.LoadOp.TheVariants.{Ld}
use Rattle.rv_isa.specs.Results.{extended}
use Rattle.obj_memory.specs.declared.object.Storage.TheVariants.{Allocated}
use Rattle.obj_memory.specs.declared.value.Bounds.{Bounds}
use Rattle.obj_memory.specs.declared.value.Tag.{Tag}
use Rattle.obj_memory.specs.declared.value.Tag.TheVariants.{Untagged, OfFunction, OfObject}
use Rattle.obj_memory.specs.declared.value.Value.{Value}
use Rattle.obj_memory.specs.Objects.{object_at}
use Rattle.obj_memory.specs.Sound.{IsSoundTag}
use Rattle.source_meaning.specs.State.{State as Source, Gives, Ended}
use Rattle.source_meaning.specs.Heap.{is_block_start, freed}
use Rattle.flat_code.specs.declared.instruction.RightOperand.TheVariants.{Register, Number}
use Rattle.flat_code.specs.declared.instruction.FlatInstruction.{FlatInstruction}
use Rattle.flat_code.specs.declared.instruction.FlatInstruction.TheVariants.{Load, End}
use Rattle.flat_code.specs.Memory.{Bytes, put, load}
use Rattle.flat_code.specs.Spaces.{is_allowed}
use Rattle.flat_code.specs.State.{State}
use Rattle.flat_code.specs.Words.{IsOfWords}
use Rattle.flat_code.specs.Meaning.{Context, Goes}
use Rattle.flat_code.specs.declared.registers.Held.{Held}
use Rattle.flat_code.specs.Routines.Registers.{AreBelow, OthersStay}
use Rattle.flat_code.specs.Routines.Local.{counted}
use Rattle.flat_code.specs.Routines.Routine.{HasAt, Outcome, Halts, Reaches, Never}
use Rattle.flat_code.specs.Routines.Effects.{worked}
use Rattle.flat_code.specs.Routines.Metadata.{View, held_registers, ShowsNothing}
use Rattle.flat_code.proofs.Routines.Steps.{has_front, has_back}
use Rattle.flat_code.proofs.Routines.Rules.{next, ended, weaken}
use Rattle.flat_code.proofs.Routines.Distinct.{AreRegisters}
use Rattle.flat_code.proofs.Routines.Branches.{are_equal, are_not_equal, differ, do_not_differ}
use Rattle.flat_code.proofs.Routines.Showing.{shows_both}
use Rattle.flat_code.specs.Routines.Objects.StandsFor.{Views, Keys, spell, IsLock}
use Rattle.shadow_space.proofs.Entries.{context_of, agrees_shows, agrees_memory}
use Rattle.lock_space.proofs.Spaces.{locks_laid_out, allowed_at}
use Rattle.heap_space.specs.Rows.{HasStart, size_of}
use Rattle.heap_space.specs.Table.{block_total, block_rows, IsTableGood}
use Rattle.heap_space.specs.Routines.{HasFound, IsFound, IsFindRoutine}
use Rattle.flat_actions.specs.Actions.{ChangesNothing}
use Rattle.flat_actions.specs.Actions.{IsFor, Pointer, IsHeldBy}
use Rattle.flat_actions.specs.Actions.{views_of}
use Rattle.lib_wrappers.specs.AllocatingRoutines.Freeing.{life_test, found_test}
use Rattle.flat_code.proofs.Routines.Spaces.Quiet.{shows_worked}
use Rattle.lib_wrappers.proofs.AllocatingRoutines.Stretches.{IsDone, stretch_on, goes_past, goes_into}
use Rattle.flat_code.proofs.Routines.Spaces.Quiet.{worked_words}
use Rattle.lib_wrappers.proofs.AllocatingRoutines.FoundRows.{parts_of_start, found_is_start, not_found_is_none}
use Rattle.lib_wrappers.proofs.AllocatingRoutines.SourceBlocks.{sought_in}
use Rattle.lib_wrappers.proofs.AllocatingRoutines.SourceFrees.{freed_untagged, freed_function, freed_dead}
use Rattle.lib_wrappers.proofs.AllocatingRoutines.SourceFrees.{freed_no_start, freed_block}

-- what the tests leave of a pointer to the start of a live block
pub record IsFreed (k : Keys) (x : Source) (v : Value) (n : ℕ) (b : Bounds) : Type 0 where
  pub tagged : v.tag ≡ OfObject n b
  pub live : (object_at x.objects n).is_live ≡ true
  pub block : (object_at x.objects n).storage ≡ Allocated
  pub start : v.word ≡ (object_at x.objects n).address

module _ (map : MapSizes) (mapped : AreMapped map) (entry : View) (IsGood : Bytes → Type 0) (h : Held) (line t : ℕ)
    (below : AreBelow t (held_registers h)) (find rest : List FlatInstruction)
    (finds : IsFindRoutine map h.value h.tag.key (t + 1) (t + 2) (t + 4) find) (functions : ℕ) (types : ℕ → ℕ)
    (k : Keys) (x : Source) (v : Value) (charge weight : ℕ) (code : List FlatInstruction) (pc end : ℕ) (s : State)
    (has : HasAt code pc (life_test h line t ++ (find ++ (found_test (t + 2) line ++ rest)))) (w : IsOfWords s)
    (f : IsFor (views_of map functions types entry) k IsGood x s)
    (held : IsHeldBy (views_of map functions types entry) k x.objects (Pointer h) v s.values) where
  abbrev c : Context
  c = context_of map true charge weight

  abbrev g : Views
  g = views_of map functions types entry

  abbrev count : ℕ
  count = block_total map s.memory

  at_find : HasAt code (pc + 5) (find ++ (found_test (t + 2) line ++ rest))
  at_find = has_back code pc (life_test h line t) (find ++ (found_test (t + 2) line ++ rest)) has

  at_found : HasAt code (pc + 5 + length find) (found_test (t + 2) line ++ rest)
  at_found = has_back code (pc + 5) find (found_test (t + 2) line ++ rest) at_find

  key_is : s.values h.tag.key ≡ (spell g k v.tag).key
  key_is = ap (λ q. q.key) held.0.tag

  lock_is : s.values h.tag.lock ≡ (spell g k v.tag).lock
  lock_is = ap (λ q. q.lock) held.0.tag

  itself : ShowsNothing s s
  itself = record { input = refl; output = refl; taken = refl; accesses = refl; turns = refl }

  shows_counted : (e : Ending) (s' : State) → ShowsNothing s s' → ShowsNothing s (counted c (End e) s')
  shows_counted e s' shows = record {
    input = shows.input;
    output = shows.output;
    taken = shows.taken;
    accesses = shows.accesses;
    turns = shows.turns;
  }

  -- the run is over with an ending
  abbrev Over : (e : Ending) → (R : Outcome → Type 0) → Type 0
  Over e R = (s' : State) → ChangesNothing s s' → R (Halts (code_of e) (report_of e) s')

  -- ---- no object

  no_object : (R : Outcome → Type 0) → (spell g k v.tag).lock ≡ 0 → Over (BadFree line) R
      → Reaches c code 2 (Goes pc s) end R
  no_object R empty over =
      goes_into c code 1 pc s Bne h.tag.lock (Number 0) 1 end R has.0
      (do_not_differ (s.values h.tag.lock) 0 (lock_is ∙ empty))
      (ended c code 0 (BadFree line) (worked c s) (pc + 1) end R has.1.0
      (over (counted c (End (BadFree line)) (worked c s))
      (record { memory = refl; shows = shows_counted (BadFree line) (worked c s) (shows_worked c s s itself) })))

  -- only registers of its own changed, and one has the size of the block
  pub record IsTested (size' : ℕ) (s2 : State) : Type 0 where
    pub size : s2.values (t + 1) ≡ size'
    pub memory : s2.memory ≡ s.memory
    pub shows : ShowsNothing s s2
    pub others : OthersStay [] t s s2

  -- ---- an object

  module _ (n : ℕ) (b : Bounds) (tagged : v.tag ≡ OfObject n b) where
    abbrev lock : ℕ
    lock = (k.held n).lock

    abbrev key : ℕ
    key = (k.held n).key

    made : n < length x.objects
    made = (subst (IsSoundTag functions x.objects) tagged held.1).made

    is_lock : IsLock map lock
    is_lock = (f.objects.keyed.each n made).lock

    key_there : s.values h.tag.key ≡ key
    key_there = key_is ∙ ap (λ q. (spell g k q).key) tagged

    lock_there : s.values h.tag.lock ≡ lock
    lock_there = lock_is ∙ ap (λ q. (spell g k q).lock) tagged

    record IsLoaded (s1 : State) : Type 0 where
      word : s1.values t ≡ load 8 s.memory lock
      memory : s1.memory ≡ s.memory
      shows : ShowsNothing s s1
      others : OthersStay [] t s s1

    load_registers : AreRegisters (h.tag.lock ∷ []) [] (t ∷ []) t
    load_registers = record {
      none = (tt, tt);
      distinct = tt;
      ins_below = (below.1.1.1.1.0, tt);
      res_below = tt;
      from = (omega arith, tt);
      own_distinct = (tt, tt);
    }

    loaded_by : (s1 : State)
        → IsDone c (h.tag.lock ∷ []) [] (t ∷ []) t load_registers (Load Ld 1 0 0 ∷ []) refl (worked c s) s1
        → IsLoaded s1
    unfolding put extended
    loaded_by s1 d =
        let lie = locks_laid_out map mapped in
        let first = is_lock.first in let last = is_lock.last in let cells = lie.cells in let blocks = lie.blocks in
        let small = lie.small in let there = lock_there in
        let at : (s.values h.tag.lock + 0) % 2 ^ 64 ≡ lock = omega arith in
        record {
          word = sym (d.agrees.values 1 (omega arith)) ∙ ap (load 8 s.memory) at;
          memory = agrees_memory 2 _ _ s1 d.agrees;
          shows = agrees_shows 2 _ _ s s1 d.agrees
              (record { input = refl; output = refl; taken = refl; accesses = refl; turns = refl });
          others = d.others;
        }

    load_allowed : is_allowed map ((s.values h.tag.lock + 0) % 2 ^ 64) 8 ≡ true
    load_allowed =
        let lie = locks_laid_out map mapped in
        let first = is_lock.first in let last = is_lock.last in let cells = lie.cells in let blocks = lie.blocks in
        let small = lie.small in let there = lock_there in let begins = lie.first in let inside = lie.inside in
        allowed_at map ((s.values h.tag.lock + 0) % 2 ^ 64) lock 8 (omega arith) (omega arith) (omega arith)

    loads : (bound : ℕ) (R : Outcome → Type 0)
        → ((s1 : State) → IsOfWords s1 → IsLoaded s1 → Reaches c code bound (Goes (pc + 1 + 1 + 1) s1) end R)
        → Reaches c code (suc (1 + bound)) (Goes pc s) end R
    loads bound R on =
        goes_past c code (1 + bound) pc (pc + 1 + 1) s Bne h.tag.lock (Number 0) 1 end R has.0 refl
        (differ (s.values h.tag.lock) 0 (λ e. let there = lock_there in let first = is_lock.first in
        let lie = locks_laid_out map mapped in let begins = lie.first in omega arith))
        (stretch_on c (h.tag.lock ∷ []) [] (t ∷ []) t load_registers (Load Ld 1 0 0 ∷ []) refl code bound
        (pc + 1 + 1) (worked c s) end R (worked_words c s w) (has.1.1.0, tt) (load_allowed, tt)
        (λ s1 w1 d1. on s1 w1 (loaded_by s1 d1)))

    -- it is dead
    late_reached : (R : Outcome → Type 0) → (object_at x.objects n).is_live ≡ false → Over (Temporal line) R
        → Reaches c code (suc (1 + suc (suc 0))) (Goes pc s) end R
    late_reached R dead over =
        loads (suc (suc 0)) R
        (λ s1 w1 l.
        goes_into c code 1 (pc + 1 + 1 + 1) s1 Beq t (Register h.tag.key) 1 end R has.1.1.1.0
        (are_not_equal (s1.values t) (s1.values h.tag.key)
        (λ e. f.objects.locks.dead n made dead
        (sym l.word ∙ e ∙ l.others h.tag.key below.1.1.1.0 tt ∙ key_there)))
        (ended c code 0 (Temporal line) (worked c s1) (pc + 1 + 1 + 1 + 1) end R has.1.1.1.1.0
        (over (counted c (End (Temporal line)) (worked c s1))
        (record { memory = l.memory; shows = shows_counted (Temporal line) (worked c s1) (shows_worked c s s1 l.shows) }))))

    module _ (live : (object_at x.objects n).is_live ≡ true) where
      abbrev answer : Option ℕ
      answer = size_of v.word key (block_rows map s.memory)

      record IsAnswered (s2 : State) : Type 0 where
        found : IsFound answer (s2.values (t + 1)) (s2.values (t + 2))
        memory : s2.memory ≡ s.memory
        shows : ShowsNothing s s2
        others : OthersStay [] t s s2

      answered_by : (s1 s2 : State) → IsLoaded s1
          → HasFound map h.value h.tag.key (t + 1) (t + 2) (t + 4) (worked c s1) s2 → IsAnswered s2
      answered_by s1 s2 l d =
          let value : s1.values h.value ≡ v.word = l.others h.value below.0 tt ∙ held.0.word in
          let keyed : s1.values h.tag.key ≡ key = l.others h.tag.key below.1.1.1.0 tt ∙ key_there in
          record {
            found = rw (sym value, sym keyed, sym l.memory) d.answer;
            memory = d.memory ∙ l.memory;
            shows = shows_both s (worked c s1) s2 (shows_worked c s s1 l.shows) d.shows;
            others = λ r m none. d.others r (omega arith) ((λ e. omega arith), ((λ e. omega arith), tt)) ∙ l.others r
                m tt;
          }

      answers : (bound : ℕ) (R : Outcome → Type 0)
          → ((s2 : State) → IsOfWords s2 → IsAnswered s2
          → Reaches c code bound (Goes (pc + 5 + length find) s2) end R)
          → Reaches c code (suc (1 + suc ((8 + 10 * count) + bound))) (Goes pc s) end R
      answers bound R on =
          loads (suc ((8 + 10 * count) + bound)) R
          (λ s1 w1 l.
          goes_past c code ((8 + 10 * count) + bound) (pc + 1 + 1 + 1) (pc + 5) s1 Beq t (Register h.tag.key) 1 end R
          has.1.1.1.0 (omega arith)
          (are_equal (s1.values t) (s1.values h.tag.key)
          (l.word ∙ f.objects.locks.live n live ∙ sym key_there ∙ sym (l.others h.tag.key below.1.1.1.0 tt)))
          (next c code (8 + 10 * count) bound (Goes (pc + 5) (worked c s1)) (pc + 5 + length find) end
          (HasFound map h.value h.tag.key (t + 1) (t + 2) (t + 4) (worked c s1)) Never R (worked_words c s1 w1)
          ((finds count true charge weight).from code (pc + 5) (worked c s1)
          (has_front code (pc + 5) find (found_test (t + 2) line ++ rest) at_find) (worked_words c s1 w1)
          (subst (IsTableGood map) (sym l.memory) f.spaces.table, ap (block_total map) l.memory))
          (λ s2 w2 d2. on s2 w2 (answered_by s1 s2 l d2))
          (λ status report s' never. absurd never)))

      -- no block starts there
      inside_reached : (R : Outcome → Type 0) → answer ≡ None → Over (BadFree line) R
          → Reaches c code (suc (1 + suc ((8 + 10 * count) + suc (suc 0)))) (Goes pc s) end R
      inside_reached R none over =
          answers (suc (suc 0)) R
          (λ s2 w2 a.
          let none_there : s2.values (t + 2) ≡ 0 = subst (λ o. IsFound o (s2.values (t + 1)) (s2.values (t + 2))) none
          a.found in
          goes_into c code 1 (pc + 5 + length find) s2 Bne (t + 2) (Number 0) 1 end R at_found.0
          (do_not_differ (s2.values (t + 2)) 0 none_there)
          (ended c code 0 (BadFree line) (worked c s2) (pc + 5 + length find + 1) end R at_found.1.0
          (over (counted c (End (BadFree line)) (worked c s2))
          (record { memory = a.memory; shows = shows_counted (BadFree line) (worked c s2) (shows_worked c s s2 a.shows) }))))

      starts : (z : ℕ) → answer ≡ Some z
          → (is_block_start (object_at x.objects n) v.word ≡ true) × HasStart v.word (block_rows map s.memory)
          × (z ≡ (object_at x.objects n).size)
      starts z there = found_is_start g k x.objects s.memory f.objects n v.word live z there

      -- a block does
      start_reached : (bound : ℕ) (R : Outcome → Type 0) (z : ℕ) → answer ≡ Some z
          → ((s2 : State) → IsOfWords s2 → IsTested (object_at x.objects n).size s2
          → Reaches c code bound (Goes (pc + 5 + length find + 2) s2) end R)
          → Reaches c code (suc (1 + suc ((8 + 10 * count) + suc bound))) (Goes pc s) end R
      start_reached bound R z there on =
          answers (suc bound) R
          (λ s2 w2 a.
          let one = subst (λ o. IsFound o (s2.values (t + 1)) (s2.values (t + 2))) there a.found in
          goes_past c code bound (pc + 5 + length find) (pc + 5 + length find + 2) s2 Bne (t + 2) (Number 0) 1 end R
          at_found.0 (omega arith) (differ (s2.values (t + 2)) 0 (λ e. let o = one.0 in omega arith))
          (on (worked c s2) (worked_words c s2 w2)
          (record {
            size = one.1 ∙ (starts z there).2;
            memory = a.memory;
            shows = shows_worked c s s2 a.shows;
            others = a.others;
          })))

  -- ---- all of them

  -- what they lead to within a bound, by what the source finds
  pub record AreOutcomes (B : ℕ) (R : Outcome → Type 0) : Type 0 where
    pub bad : freed v line x ≡ Ended (BadFree line) (sought_in x) → (14 + 10 * count ≤ B) × Over (BadFree line) R
    pub late : freed v line x ≡ Ended (Temporal line) x → (4 ≤ B) × Over (Temporal line) R
    pub on : (n : ℕ) (b : Bounds) → freed v line x ≡ Gives n x → IsFreed k x v n b
        → (bound : ℕ) × (12 + 10 * count + bound ≤ B)
        × ((s2 : State) → IsOfWords s2 → IsTested (object_at x.objects n).size s2
        → Reaches c code bound (Goes (pc + 5 + length find + 2) s2) end R)

  module _ (B : ℕ) (R : Outcome → Type 0) (outcomes : AreOutcomes B R) where
    bad_by : (b : ℕ) → b ≤ 14 + 10 * count → freed v line x ≡ Ended (BadFree line) (sought_in x)
        → (Over (BadFree line) R → Reaches c code b (Goes pc s) end R) → Reaches c code B (Goes pc s) end R
    bad_by b le e r =
        let o = outcomes.bad e in let most = o.0 in
        weaken c code b B (Goes pc s) end R R (omega arith) (λ y q. q) (r o.1)

    object_by : (n : ℕ) (b : Bounds) → v.tag ≡ OfObject n b → (live : Bool) → (object_at x.objects n).is_live ≡ live
        → Reaches c code B (Goes pc s) end R
    object_by n b e false dead =
        let o = outcomes.late (freed_dead v line n b x e dead) in let most = o.0 in
        weaken c code 4 B (Goes pc s) end R R (omega arith) (λ y q. q) (late_reached n b e R dead o.1)
    object_by n b e true live = by (answer n b e live) refl
      where
        by : (o : Option ℕ) → answer n b e live ≡ o → Reaches c code B (Goes pc s) end R
        by None none =
            bad_by (suc (1 + suc ((8 + 10 * count) + suc (suc 0)))) (omega arith)
            (freed_no_start v line n b x e live
            (not_found_is_none g k x.objects s.memory f.objects n v.word live none))
            (λ over. inside_reached n b e live R none over)
        by (Some z) there =
            let q = starts n b e live z there in
            let p = parts_of_start (object_at x.objects n) v.word q.0 in
            let o = outcomes.on n b (freed_block v line n b x e live q.0)
            (record { tagged = e; live = live; block = p.0; start = p.1 }) in
            let most = o.1 in
            weaken c code (suc (1 + suc ((8 + 10 * count) + suc o.0))) B (Goes pc s) end R R (omega arith) (λ y q. q)
            (start_reached n b e live o.0 R z there o.2)

    pub tested : Reaches c code B (Goes pc s) end R
    tested = by v.tag refl
      where
        by : (q : Tag) → v.tag ≡ q → Reaches c code B (Goes pc s) end R
        by Untagged e = bad_by 2 (omega arith) (freed_untagged v line x e)
            (λ over. no_object R (ap (λ q. (spell g k q).lock) e) over)
        by (OfFunction i) e = bad_by 2 (omega arith) (freed_function v line i x e)
            (λ over. no_object R (ap (λ q. (spell g k q).lock) e) over)
        by (OfObject n b) e = object_by n b e (object_at x.objects n).is_live refl
