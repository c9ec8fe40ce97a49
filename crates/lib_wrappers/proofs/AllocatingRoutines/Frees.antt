-- `free` as an action.
use Rattle.std.proofs.Common.{◌≡◌, ◌≢◌, ℕ, suc, ◌+◌, ◌-◌, ◌*◌, List, [], ◌∷◌, ◌++◌, true}
use Rattle.std.proofs.Common.{length, refl, sym, ap, ◌∙◌, subst, arith, length-append, ⊎_elim}
use Rattle.std.proofs.lemmas.Bool.{cases_eq}
use Rattle.sb_base.specs.declared.ending.Ending.{Ending}
use Rattle.sb_base.specs.declared.ending.Ending.TheVariants.{Temporal, BadFree}
use Rattle.sb_base.specs.Endings.{code_of, report_of}
use Rattle.addr_map.specs.Places.{MapSizes, AreMapped}
use Rattle.rv_isa.specs.declared.instruction.BranchOp.TheVariants.{Beq}
use Rattle.obj_memory.specs.declared.value.Value.{Value}
use Rattle.obj_memory.specs.Objects.{object_at}
use Rattle.obj_memory.specs.Heap.{block_count}
use Rattle.source_meaning.specs.State.{State as Source, Outcome as Completed, Gives, Ended}
use Rattle.source_meaning.specs.Acting.{at_work, state_of}
use Rattle.source_meaning.specs.Actions.{integer}
use Rattle.source_meaning.specs.Heap.{freed, free}
use Rattle.source_meaning.specs.Library.{argument}
use Rattle.flat_code.specs.declared.instruction.RightOperand.TheVariants.{Number}
use Rattle.flat_code.specs.declared.instruction.FlatInstruction.{FlatInstruction}
use Rattle.flat_code.specs.Memory.{Bytes}
use Rattle.flat_code.specs.State.{State}
use Rattle.flat_code.specs.Words.{IsOfWords}
use Rattle.flat_code.specs.Meaning.{Context, Goes}
use Rattle.flat_code.specs.declared.registers.Held.{Held}
use Rattle.flat_code.specs.Routines.Registers.{AreBelow}
use Rattle.flat_code.specs.Routines.Routine.{HasAt, Outcome, Continues, Halts, Reaches}
use Rattle.flat_code.specs.Routines.Effects.{worked}
use Rattle.flat_code.specs.Routines.Metadata.{View, held_registers, ShowsNothing}
use Rattle.flat_code.proofs.Routines.Steps.{has_front, has_back}
use Rattle.flat_code.proofs.Routines.Rules.{arrived, weaken}
use Rattle.flat_code.proofs.Routines.Branches.{are_equal, are_not_equal}
use Rattle.flat_code.proofs.Routines.Showing.{shows_both}
use Rattle.flat_code.proofs.Routines.Words.{IsLocal}
use Rattle.flat_code.specs.Routines.Objects.StandsFor.{Views, Keys, spell}
use Rattle.flat_code.proofs.Routines.Objects.Changing.{live_is_made}
use Rattle.shadow_space.proofs.Entries.{context_of}
use Rattle.lock_space.specs.Routines.{IsReleaseRoutine}
use Rattle.heap_space.specs.Table.{block_total}
use Rattle.heap_space.specs.Routines.{IsFindRoutine}
use Rattle.heap_space.specs.Routines.{IsReleaseRoutine as IsUnlistRoutine}
use Rattle.flat_actions.specs.Actions.{ChangesNothing}
use Rattle.flat_actions.specs.Actions.{IsFor, Pointer, Nowhere, AreHeldBy, IsHeldBy, Leaves, runtime_basis}
use Rattle.flat_actions.specs.Actions.{views_of, context_in, work_of}
use Rattle.flat_actions.proofs.Standing.{unwritten_same}
use Rattle.flat_actions.proofs.Standing.{for_still, given_still, ended_still, keeps_same}
use Rattle.lib_wrappers.specs.AllocatingRoutines.Freeing.{IsFreeRoutine, life_test, found_test, end_code, free_code}
use Rattle.flat_code.proofs.Routines.Spaces.Quiet.{shows_worked}
use Rattle.lib_wrappers.proofs.AllocatingRoutines.Stretches.{goes_past, goes_into}
use Rattle.flat_code.proofs.Routines.Spaces.Quiet.{worked_words}
use Rattle.lib_wrappers.proofs.AllocatingRoutines.Allocates.{rows_are_blocks}
use Rattle.lib_wrappers.proofs.AllocatingRoutines.SourceBlocks.{sought_in}
use Rattle.lib_wrappers.proofs.AllocatingRoutines.SourceFrees.{then_dead, frees_null, frees_by}
use Rattle.lib_wrappers.proofs.AllocatingRoutines.FreedTests.{AreOutcomes, tested}
use Rattle.lib_wrappers.proofs.AllocatingRoutines.BlockEnds.{ends_block}

module _ (map : MapSizes) (mapped : AreMapped map) (entry : View) (IsGood : Bytes → Type 0)
    (local : IsLocal map entry IsGood) (h : Held) (line t : ℕ) (below : AreBelow t (held_registers h))
    (find unlist unlock : List FlatInstruction)
    (finds : IsFindRoutine map h.value h.tag.key (t + 1) (t + 2) (t + 4) find)
    (unlists : IsUnlistRoutine map h.value (t + 4) unlist) (unlocks : IsReleaseRoutine map h.tag.lock (t + 4) unlock)
    (functions : ℕ) (types : ℕ → ℕ) (k : Keys) (x : Source) (v : Value) (charge weight : ℕ) where
  abbrev c : Context
  c = context_of map true charge weight

  abbrev g : Views
  g = views_of map functions types entry

  abbrev body : List FlatInstruction
  body = end_code find unlist unlock h line t (t + 2)

  abbrev whole : List FlatInstruction
  whole = free_code find unlist unlock h line t (t + 2)

  abbrev Goal : (code : List FlatInstruction) → (pc : ℕ) → State → Completed Value → Type 0
  Goal code pc s o = Reaches c code (20 + 26 * ((state_of o).work - x.work)) (Goes pc s) (pc + length whole)
      (Leaves g k IsGood Nowhere t x s o)

  body_length : length body ≡ 7 + length find + length unlist + length unlock
  body_length = omega (
    arith,
    length-append find (found_test (t + 2) line ++ (unlist ++ unlock)),
    length-append unlist unlock,
  )

  module _ (code : List FlatInstruction) (pc : ℕ) (s : State) (has : HasAt code pc whole) (w : IsOfWords s)
      (f : IsFor g k IsGood x s) (held : IsHeldBy g k x.objects (Pointer h) v s.values) where
    itself : ShowsNothing s s
    itself = record { input = refl; output = refl; taken = refl; accesses = refl; turns = refl }

    frees_nothing : v.word ≡ 0 → Goal code pc s (free v line x)
    frees_nothing e =
        let R = Leaves g k IsGood Nowhere t x s (Gives (integer 0) x) in
        let end : pc + 1 + length body ≡ pc + length whole = omega arith in
        subst (Goal code pc s) (sym (frees_null v line x e))
        (weaken c code 1 (20 + 26 * (x.work - x.work)) (Goes pc s) (pc + length whole) R R (omega arith) (λ y q. q)
        (goes_past c code 0 pc (pc + 1 + length body) s Beq h.value (Number 0) (length body) (pc + length whole) R has.0
        refl (are_equal (s.values h.value) 0 (held.0.word ∙ e))
        (arrived c code 0 (worked c s) (pc + 1 + length body) (pc + length whole) R end
        (given_still g k IsGood Nowhere t x x.work s (worked c s) (integer 0) f refl (shows_worked c s s itself) tt
        (λ r l none. refl)))))

    module _ (some : v.word ≢ 0) where
      abbrev s1 : State
      s1 = worked c s

      f1 : IsFor g k IsGood x s1
      f1 = for_still g k IsGood x s s1 refl (shows_worked c s s itself) f

      held1 : IsHeldBy g k x.objects (Pointer h) v s1.values
      held1 = held

      o_is : {o : Completed ℕ} → freed v line x ≡ o → free v line x ≡ then_dead o
      o_is e = frees_by v line x some ∙ ap then_dead e

      count_is : block_total map s.memory ≡ block_count x.objects
      count_is = rows_are_blocks map k x.objects s.memory f.objects.table f.objects.disjoint

      abbrev R : Outcome → Type 0
      R = Leaves g k IsGood Nowhere t x s (free v line x)

      abbrev B : ℕ
      B = 19 + 26 * work_of (free v line) x

      over : (n : ℕ) (e : Ending) → free v line x ≡ Ended e (at_work n x) → (s' : State) → ChangesNothing s1 s'
          → R (Halts (code_of e) (report_of e) s')
      over n e o s' still =
          subst (λ o. Leaves g k IsGood Nowhere t x s o (Halts (code_of e) (report_of e) s')) (sym o)
          (ended_still e x n (code_of e) (report_of e) s s' f.shown
          (shows_both s s1 s' (shows_worked c s s itself) still.shows) (unwritten_same still.memory) refl refl)

      work_is : {o : Completed Value} → free v line x ≡ o → B ≡ 19 + 26 * ((state_of o).work - x.work)
      work_is e = ap (λ o. 19 + 26 * ((state_of o).work - x.work)) e

      end_is : pc + 1 + 5 + length find + 2 + length unlist + length unlock ≡ pc + length whole
      end_is = omega (arith, body_length)

      at_ends : HasAt code (pc + 1 + 5 + length find + 2) (unlist ++ unlock)
      at_ends =
          has_back code (pc + 1 + 5 + length find) (found_test (t + 2) line) (unlist ++ unlock)
          (has_back code (pc + 1 + 5) find (found_test (t + 2) line ++ (unlist ++ unlock))
          (has_back code (pc + 1) (life_test h line t) (find ++ (found_test (t + 2) line ++ (unlist ++ unlock)))
          has.1))

      tests : AreOutcomes map mapped entry IsGood h line t below find (unlist ++ unlock) finds functions types k x
          v charge weight code (pc + 1) (pc + length whole) s1 has.1 (worked_words c s w) f1 held1 B R
      tests = record {
        bad = λ e. (
          (let z = work_is (o_is e) in let y = count_is in omega arith),
          over (sought_in x).work (BadFree line) (o_is e),
        );
        late = λ e. (omega arith, over x.work (Temporal line) (o_is e));
        on = λ n b e q. (
          (16 + 16 * block_total map s.memory) + (11 + 0),
          (let z = work_is (o_is e) in let y = count_is in omega arith),
          λ s2 w2 d2.
              (let f2 = for_still g k IsGood x s1 s2 d2.memory d2.shows f1 in
              let made = live_is_made x.objects n q.live in
              let value : s2.values h.value ≡ (object_at x.objects n).address =
              d2.others h.value below.0 tt ∙ held.0.word ∙ q.start in
              let locked : s2.values h.tag.lock ≡ (k.held n).lock =
              d2.others h.tag.lock below.1.1.1.1.0 tt ∙ ap (λ m. m.lock) held.0.tag
              ∙ ap (λ y. (spell g k y).lock) q.tagged in
              let same : block_total map s2.memory ≡ block_total map s.memory = ap (block_total map) d2.memory in
              weaken c code ((16 + 16 * block_total map s2.memory) + (11 + 0))
              ((16 + 16 * block_total map s.memory) + (11 + 0)) (Goes (pc + 1 + 5 + length find + 2) s2)
              (pc + length whole)
              R R (omega arith) (λ y r. r)
              (ends_block map mapped entry IsGood local h.value h.tag.lock t (below.0, (below.1.1.1.1.0, tt)) unlist
              unlock
              unlists unlocks functions types k x n q.live q.block charge weight s2 f2 value locked code 0
              (pc + 1 + 5 + length find + 2) (pc + length whole) R w2
              (has_front code (pc + 1 + 5 + length find + 2) unlist unlock at_ends)
              (has_back code (pc + 1 + 5 + length find + 2) unlist unlock at_ends)
              (λ s4 w4 d4.
              arrived c code 0 s4 (pc + 1 + 5 + length find + 2 + length unlist + length unlock) (pc + length whole) R
              end_is
              (subst (λ o. Leaves g k IsGood Nowhere t x s o (Continues s4)) (sym (o_is e))
              (record {
                keys = k;
                held = keeps_same x.objects k;
                stands = d4.stands;
                given = tt;
                turns = d4.shows.turns ∙ d2.shows.turns;
                elsewhere = record {
                  low = λ a l out. d4.low a l ∙ ap (λ m. m a) d2.memory;
                  behind = λ a l. d4.behind a l ∙ ap (λ m. m a) d2.memory;
                };
                others = λ r l none. d4.others r l tt ∙ d2.others r l tt;
              }))))),
        );
      }

      frees_some : Goal code pc s (free v line x)
      frees_some =
          weaken c code (suc B) (20 + 26 * work_of (free v line) x) (Goes pc s) (pc + length whole) R R (omega arith)
          (λ y q. q)
          (goes_into c code B pc s Beq h.value (Number 0) (length body) (pc + length whole) R has.0
          (are_not_equal (s.values h.value) 0 (λ e. some (sym held.0.word ∙ e)))
          (tested map mapped entry IsGood h line t below find (unlist ++ unlock) finds functions types k x v charge
          weight code (pc + 1) (pc + length whole) s1 has.1 (worked_words c s w) f1 held1 B R tests))

    frees : Goal code pc s (free v line x)
    frees = ⊎_elim (λ null. frees_nothing null) (λ some. frees_some some) (cases_eq v.word 0)

pub free_does : (map : MapSizes) → AreMapped map → (entry : View) (IsGood : Bytes → Type 0)
    → IsLocal map entry IsGood → (h : Held) (line t : ℕ) → AreBelow t (held_registers h)
    → (find unlist unlock : List FlatInstruction) → IsFindRoutine map h.value h.tag.key (t + 1) (t + 2) (t + 4) find
    → IsUnlistRoutine map h.value (t + 4) unlist → IsReleaseRoutine map h.tag.lock (t + 4) unlock
    → IsFreeRoutine map entry IsGood h line t (free_code find unlist unlock h line t (t + 2))
free_does map mapped entry IsGood local h line t below find unlist unlock finds unlists unlocks functions types k x vs
    charge weight = record { from = λ code pc s has w p. by vs code pc s has w p.0 p.1 }
  where
    by : (vs : List Value) (code : List FlatInstruction) (pc : ℕ) (s : State)
        → HasAt code pc (free_code find unlist unlock h line t (t + 2)) → IsOfWords s
        → IsFor (views_of map functions types entry) k IsGood x s
        → AreHeldBy (views_of map functions types entry) k x.objects (Pointer h ∷ []) vs s.values
        → Reaches (context_in (runtime_basis map entry IsGood) charge weight) code
        (20 + 26 * work_of (free (argument 0 vs) line) x) (Goes pc s)
        (pc + length (free_code find unlist unlock h line t (t + 2)))
        (Leaves (views_of map functions types entry) k IsGood Nowhere t x s (free (argument 0 vs) line x))
    by [] code pc s has w f held = absurd held
    by (v ∷ []) code pc s has w f held =
        frees map mapped entry IsGood local h line t below find unlist unlock finds unlists unlocks functions types k
        x v
        charge weight code pc s has w f held.0
    by (v ∷ u ∷ vs) code pc s has w f held = absurd held.1
