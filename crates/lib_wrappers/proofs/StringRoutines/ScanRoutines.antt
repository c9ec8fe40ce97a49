-- The two routines that scan, over any registers.
use Rattle.std.proofs.Common.{◌≡◌, ◌≢◌, ℕ, ◌+◌, ◌*◌, ◌^◌, ◌<◌, ◌≤◌, ◌⊎◌, inl, inr, List, [], ◌∷◌, Bool, true, false}
use Rattle.std.proofs.Common.{length, map, refl, sym, ap, ◌∙◌, subst, arith, length-append}
use Rattle.std.proofs.lemmas.Bool.{cases_eq}
use Rattle.sb_base.specs.declared.ending.Ending.TheVariants.{Spatial, Temporal}
use Rattle.sb_base.specs.Endings.{code_of, report_of}
use Rattle.addr_map.specs.Places.{AreMapped}
use Rattle.obj_memory.specs.declared.value.Value.{Value}
use Rattle.obj_memory.specs.declared.value.Place.{Place}
use Rattle.obj_memory.specs.declared.judgement.Verdict.TheVariants.{Outside, Dead, Inside}
use Rattle.obj_memory.specs.Judgement.{judge}
use Rattle.source_meaning.specs.State.{State as Source, Outcome as Completed, Gives, Ended, Paused, Run, done}
use Rattle.source_meaning.specs.Strings.{reach, scan_within, scan}
use Rattle.flat_code.specs.declared.instruction.FlatInstruction.{FlatInstruction}
use Rattle.flat_code.specs.declared.instruction.FlatInstruction.TheVariants.{Constant}
use Rattle.flat_code.specs.Memory.{put}
use Rattle.flat_code.specs.State.{State}
use Rattle.flat_code.specs.Words.{IsOfWords}
use Rattle.flat_code.specs.Meaning.{Context, Goes}
use Rattle.flat_code.proofs.Stored.{put_same, put_other}
use Rattle.flat_code.specs.declared.registers.Held.{Held}
use Rattle.flat_code.specs.Routines.Registers.{AreNoneOf, AreBelow, OthersStay}
use Rattle.flat_code.specs.Routines.Routine.{HasAt, Outcome, Continues, Halts, Reaches, Does, Either}
use Rattle.flat_code.specs.Routines.Effects.{effects}
use Rattle.flat_code.specs.Routines.Renaming.{rename, all_fit, through, Agrees, ChangesOnly}
use Rattle.flat_code.specs.Routines.Metadata.{held_registers, ShowsNothing}
use Rattle.flat_code.proofs.Routines.Steps.{has_front, has_back}
use Rattle.flat_code.proofs.Routines.Rules.{weaken, line_on}
use Rattle.flat_code.proofs.Routines.Distinct.{AreRegisters, register_of, registers_rename, others_stay}
use Rattle.flat_code.proofs.Routines.Wrapped.{routine_that_may_end}
use Rattle.flat_code.proofs.Routines.Showing.{shows_both}
use Rattle.flat_code.specs.Routines.Objects.StandsFor.{Views, Keys}
use Rattle.shadow_space.proofs.Entries.{agrees_shows, agrees_memory}
use Rattle.flat_actions.proofs.Standing.{nothing_then}
use Rattle.flat_actions.specs.Judgement.Judging.{IsSameBut}
use Rattle.flat_actions.specs.Actions.{Basis, Pointer, IsHeldBy, IsFor, context_in, views_of, work_of}
use Rattle.flat_actions.specs.Scanning.{IsScanned, IsScanRoutine}
use Rattle.flat_actions.proofs.Judged.{after_judge}
use Rattle.flat_actions.proofs.Standing.{for_still, spells_still, held_still, none_of_none, others_trans}
use Rattle.lib_wrappers.specs.StringRoutines.Scanning.{scan_turns, scan_at_most_turns, IsFirstJudged}
use Rattle.flat_actions.proofs.Looking.{around}
use Rattle.lib_wrappers.proofs.StringRoutines.Looking.{scan_outside, scan_dead}
use Rattle.lib_wrappers.proofs.StringRoutines.ScanLoop.{Found, no_work}
use Rattle.lib_wrappers.proofs.StringRoutines.Scans.{behind_of, IsCount, none_left, some_left, own_turns, scans_alone}

-- they fit their registers
turns_fit : (l : Bool) (line : ℕ) → all_fit 9 6 (length (own_turns l line)) 0 (own_turns l line) ≡ true
turns_fit false line = refl
turns_fit true line = refl

abbrev scan_registers : Held → (limit cursor scratch : ℕ) → ℕ → ℕ
scan_registers h limit cursor t =
    register_of (h.value ∷ h.tag.base ∷ h.tag.bound ∷ h.tag.key ∷ h.tag.lock ∷ limit ∷ []) (cursor ∷ [])
    (t ∷ (t + 1) ∷ [])

module _ (basis : Basis) (runtime : basis.is_runtime ≡ true) (mapped : AreMapped basis.map) (h : Held)
    (limit cursor line t : ℕ)
    (apart : AreNoneOf (limit ∷ held_registers h) (cursor ∷ []))
    (below : AreBelow t (cursor ∷ limit ∷ held_registers h)) where
  abbrev ins : List ℕ
  ins = h.value ∷ h.tag.base ∷ h.tag.bound ∷ h.tag.key ∷ h.tag.lock ∷ limit ∷ []

  registers : AreRegisters ins (cursor ∷ []) (t ∷ (t + 1) ∷ []) t
  registers = record {
    none = (apart.1.0, (apart.1.1.0, (apart.1.1.1.0, (apart.1.1.1.1.0, (apart.1.1.1.1.1.0, (apart.0, tt))))));
    distinct = (tt, tt);
    ins_below = (
      below.1.1.0,
      (
        below.1.1.1.0,
        (below.1.1.1.1.0, (below.1.1.1.1.1.0, (below.1.1.1.1.1.1.0, (below.1.0, tt)))),
      ),
    );
    res_below = (below.0, tt);
    from = (omega arith, (omega arith, tt));
    own_distinct = (((λ e. omega (arith, e)), tt), (tt, tt));
  }

  module _ (l : Bool) (functions : ℕ) (types : ℕ → ℕ) (k : Keys) (x : Source) (v : Value) (n charge weight : ℕ) where
    abbrev names : ℕ → ℕ
    names = scan_registers h limit cursor t

    abbrev IsBefore : State → Type 0
    IsBefore f = IsFor (views_of basis.map functions types basis.entry) k basis.IsGood x f
        × IsHeldBy (views_of basis.map functions types basis.entry) k x.objects (Pointer h) v f.values
        × IsCount l v n (f.values limit)
        × ((q : Place) × (judge 1 v x.objects ≡ Inside q))

    scans : Does (context_in basis charge weight) (map (rename names) (own_turns l line)) IsBefore
        (λ f. 2 + 6 * work_of (scan_within n (behind_of l line) v line) x)
        (λ f. IsScanned v.word cursor t x f (scan_within n (behind_of l line) v line x))
    scans =
        routine_that_may_end (context_in basis charge weight) 9 6 names (own_turns l line) IsBefore
        (registers_rename ins (cursor ∷ []) (t ∷ (t + 1) ∷ []) t registers) (turns_fit l line)
        (λ f. 2 + 6 * work_of (scan_within n (behind_of l line) v line) x)
        (λ f u. Found (through names f) x v.word (scan_within n (behind_of l line) v line x) (Continues u))
        (λ f status report u. Found (through names f) x v.word (scan_within n (behind_of l line) v line x)
        (Halts status report u))
        (λ f. IsScanned v.word cursor t x f (scan_within n (behind_of l line) v line x))
        (λ f w seen p. weaken (context_in basis charge weight) (own_turns l line)
        (2 + 6 * work_of (scan_within n (behind_of l line) v line) x)
        (2 + 6 * work_of (scan_within n (behind_of l line) v line) x) _ _ _ _ (omega arith) (split f)
        (scans_alone basis runtime mapped line l functions types k x v n charge weight (through names f) seen (record {
          objects = p.0.objects;
          spells = record { word = p.1.0.word; tag = p.1.0.tag };
          sound = p.1.1;
          count = p.2;
          place = p.3.0;
          judged = p.3.1;
        })))
        (λ f f' u w p found agrees only. went_on (scan_within n (behind_of l line) v line x) f f' u found agrees only)
        (λ f f' u status report w p found agrees only.
        was_ended (scan_within n (behind_of l line) v line x) f f' u status report found agrees only)
      where
        split : (f : State) (o : Outcome)
            → Found (through names f) x v.word (scan_within n (behind_of l line) v line x) o
            → Either (λ u. Found (through names f) x v.word (scan_within n (behind_of l line) v line x) (Continues u))
            (λ status report u. Found (through names f) x v.word (scan_within n (behind_of l line) v line x)
            (Halts status report u)) o
        split f (Continues u) found = found
        split f (Halts status report u) found = found

        went_on : (r : Completed (List ℕ)) (f f' u : State) → Found (through names f) x v.word r (Continues u)
            → Agrees 9 names u f' → ChangesOnly 9 6 names f f' → IsScanned v.word cursor t x f r (Continues f')
        went_on (Gives bytes x') f f' u found agrees only = (
          found.0,
          record {
            cursor_is = sym (agrees.values 6 (omega arith)) ∙ found.1.cursor_is;
            small = found.1.small;
            there = found.1.there;
            memory = agrees_memory 9 names u f' agrees ∙ found.1.memory;
            shows = agrees_shows 9 names u f f' agrees (let q = found.1.shows in record {
              input = q.input;
              output = q.output;
              taken = q.taken;
              accesses = q.accesses;
              turns = q.turns;
            });
            others = others_stay ins (cursor ∷ []) (t ∷ (t + 1) ∷ []) t registers f f' only;
          },
        )
        went_on (Ended e x') f f' u found agrees only = absurd found
        went_on (Paused x') f f' u found agrees only = absurd found

        was_ended : (r : Completed (List ℕ)) (f f' u : State) (status : ℕ) (report : List ℕ)
            → Found (through names f) x v.word r (Halts status report u) → Agrees 9 names u f'
            → ChangesOnly 9 6 names f f' → IsScanned v.word cursor t x f r (Halts status report f')
        was_ended (Gives bytes x') f f' u status report found agrees only = absurd found
        was_ended (Ended e x') f f' u status report found agrees only = (
          found.0,
          found.1,
          found.2,
          record {
            memory = agrees_memory 9 names u f' agrees ∙ found.3.memory;
            shows = agrees_shows 9 names u f f' agrees (let q = found.3.shows in record {
              input = q.input;
              output = q.output;
              taken = q.taken;
              accesses = q.accesses;
              turns = q.turns;
            });
          },
        )
        was_ended (Paused x') f f' u status report found agrees only = absurd found

  -- ---- the first byte is judged before

  module _ (l : Bool) (turns items : List FlatInstruction)
      (turns_are : map (rename (scan_registers h limit cursor t)) (own_turns l line) ≡ turns)
      (judged : IsFirstJudged h line t turns items)
      (functions : ℕ) (types : ℕ → ℕ) (k : Keys) (x : Source) (v : Value) (n charge weight : ℕ) where
    abbrev g : Views
    g = views_of basis.map functions types basis.entry

    abbrev c : Context
    c = context_in basis charge weight

    abbrev scanning : Run (List ℕ)
    scanning = scan_within n (behind_of l line) v line

    abbrev sized : State → State
    sized f = effects c (Constant t 1 ∷ []) f

    record IsSized (f : State) : Type 0 where
      words : IsOfWords (sized f)
      size : (sized f).values t ≡ 1
      others : OthersStay [] t f (sized f)

    is_sized : (f : State) → IsOfWords f → IsSized f
    unfolding put
    is_sized f w = record {
      words = record { values = λ r. small r (cases_eq r t); memory = w.memory };
      size = put_same f.values t 1;
      others = λ r less none. put_other f.values t 1 r (λ e. omega (arith, e));
    }
      where
        small : (r : ℕ) → (r ≡ t) ⊎ (r ≢ t) → put f.values t 1 r < 2 ^ 64
        small r (inl e) =
            subst (λ z. z < 2 ^ 64) (sym (ap (put f.values t 1) e ∙ put_same f.values t 1)) (omega arith)
        small r (inr ne) = subst (λ z. z < 2 ^ 64) (sym (put_other f.values t 1 r ne)) (w.values r)

    -- registers below scratch and memory are as before
    record IsStill (f f' : State) : Type 0 where
      memory : f'.memory ≡ f.memory
      shows : ShowsNothing f f'
      others : OthersStay [] t f f'

    still : (f f' : State) → IsSized f → IsSameBut (t + 1) (sized f) f' → IsStill f f'
    still f f' s same = record {
      memory = same.memory;
      shows = (let q = same.shows in record {
        input = q.input;
        output = q.output;
        taken = q.taken;
        accesses = q.accesses;
        turns = q.turns;
      });
      others = λ r less none. same.others r (omega arith) tt ∙ s.others r less tt;
    }

    -- what was scanned behind is scanned from the start
    scanned_from : (r : Completed (List ℕ)) (f f' : State) (o : Outcome) → IsStill f f'
        → IsScanned v.word cursor t x f' r o → IsScanned v.word cursor t x f r o
    scanned_from (Gives bytes x') f f' (Continues y) s i = (
      i.0,
      record {
        cursor_is = i.1.cursor_is;
        small = i.1.small;
        there = λ j less. ap (λ m. m (v.word + j)) (sym s.memory) ∙ i.1.there j less;
        memory = i.1.memory ∙ s.memory;
        shows = shows_both f f' y s.shows i.1.shows;
        others = others_trans (cursor ∷ []) t f f' y s.others i.1.others;
      },
    )
    scanned_from (Ended e x') f f' (Halts status report y) s i =
        (i.0, i.1, i.2, nothing_then (record { memory = s.memory; shows = s.shows }) i.3)
    scanned_from (Gives bytes x') f f' (Halts status report y) s i = absurd i
    scanned_from (Ended e x') f f' (Continues y) s i = absurd i
    scanned_from (Paused x') f f' o s i = absurd i

    first_scanned : Does c items
        (λ f. IsFor g k basis.IsGood x f × IsHeldBy g k x.objects (Pointer h) v f.values
        × IsCount l v n (f.values limit))
        (λ f. 16 + 8 * work_of scanning x) (λ f. IsScanned v.word cursor t x f (scanning x))
    first_scanned = record {
      from = λ code pc f has w p.
          let J = judged.judging in
          let W = work_of scanning x in
          let s = is_sized f w in
          let R = IsScanned v.word cursor t x f (scanning x) in
          let here = subst (HasAt code pc) judged.items_are has in
          let end = pc + 1 + length J + length turns in
          let len : end ≡ pc + length items =
          omega (arith, length-append J turns, ap length judged.items_are) in
          let run = (judged.judges g k x.objects v 1 basis.is_runtime charge weight mapped).from code (pc + 1)
          (sized f) (has_front code (pc + 1) J turns here.1) s.words
          (record {
            stands = p.0.objects;
            sound = p.1.1;
            spells = spells_still g k v h [] t f (sized f) s.others below.1.1 (none_of_none (held_registers h)) p.1.0;
            size_is = s.size;
            some = omega arith;
          }) in
          weaken c code (1 + (10 + (2 + 6 * W))) (16 + 8 * W) (Goes pc f) (pc + length items) R R (omega arith)
          (λ o i. i) (subst (λ e. Reaches c code (1 + (10 + (2 + 6 * W))) (Goes pc f) e R) len
          (line_on c code (Constant t 1 ∷ []) (10 + (2 + 6 * W)) pc f end R (tt, tt) (here.0, tt)
          (after_judge c code 10 (2 + 6 * W) (pc + 1) (pc + 1 + length J) end (sized f) line (t + 1)
          (judge 1 v x.objects) R s.words run
          (λ e f' same. subst (λ r. IsScanned v.word cursor t x f r
          (Halts (code_of (Spatial line)) (report_of (Spatial line)) f'))
          (sym (scan_outside n (behind_of l line) x v line (none_left l line x v n (f.values limit) p.2) e))
          (refl, refl, no_work x, (let u = still f f' s same in record { memory = u.memory; shows = u.shows })))
          (λ e f' same. subst (λ r. IsScanned v.word cursor t x f r
          (Halts (code_of (Temporal line)) (report_of (Temporal line)) f'))
          (sym (scan_dead n (behind_of l line) x v line
          (some_left l v n (f.values limit) p.2 (around x.objects v Dead e (λ q. let z : Dead ≡ Outside = q in cc))) e))
          (refl, refl, no_work x, (let u = still f f' s same in record { memory = u.memory; shows = u.shows })))
          (λ q e f' words same.
          let u = still f f' s same in
          weaken c code (2 + 6 * W) (2 + 6 * W) (Goes (pc + 1 + length J) f') end _ R (omega arith)
          (λ o i. scanned_from (scanning x) f f' o u i)
          ((subst (λ r. Does c r (IsBefore l functions types k x v n charge weight) (λ f. 2 + 6 * W)
          (λ f. IsScanned v.word cursor t x f (scanning x))) turns_are
          (scans l functions types k x v n charge weight)).from code (pc + 1 + length J) f'
          (has_back code (pc + 1) J turns here.1) words (
            for_still g k basis.IsGood x f f' u.memory u.shows p.0,
            held_still g k x.objects (Pointer h) v [] t f f' u.others below.1.1 (none_of_none (held_registers h)) p.1,
            subst (IsCount l v n) (sym (u.others limit below.1.0 tt)) p.2,
            (q, e),
          ))))));
    }

-- ---- up to the 0 byte, and at most so many bytes

pub scans_string : (basis : Basis) → basis.is_runtime ≡ true → AreMapped basis.map → (h : Held) (cursor line t : ℕ)
    → AreNoneOf (held_registers h) (cursor ∷ []) → AreBelow t (cursor ∷ held_registers h)
    → (items : List FlatInstruction)
    → IsFirstJudged h line t (scan_turns h cursor line t) items
    → IsScanRoutine basis (λ v. scan v line) h (λ f. Unit {0}) cursor t items
scans_string basis runtime mapped h cursor line t apart below items judged functions types k x v charge weight =
    record {
      from = λ code pc f has w p.
          (first_scanned basis runtime mapped h h.value cursor line t (apart.0, apart) (below.0, (below.1.0, below.1))
          false (scan_turns h cursor line t) items refl judged functions types k x v (reach v) charge weight).from code
          pc f has w (p.0, p.1, refl);
    }

pub scans_at_most : (basis : Basis) → basis.is_runtime ≡ true → AreMapped basis.map
    → (h : Held) (limit cursor line t : ℕ) → AreNoneOf (limit ∷ held_registers h) (cursor ∷ [])
    → AreBelow t (cursor ∷ limit ∷ held_registers h) → (items : List FlatInstruction)
    → IsFirstJudged h line t (scan_at_most_turns h cursor line limit t) items → (n : ℕ) → 1 ≤ n
    → IsScanRoutine basis (λ v. scan_within n (done []) v line) h (λ f. f.values limit ≡ n) cursor t items
scans_at_most basis runtime mapped h limit cursor line t apart below items judged n some functions types k x v charge
    weight = record {
      from = λ code pc f has w p.
          (first_scanned basis runtime mapped h limit cursor line t apart below true
          (scan_at_most_turns h cursor line limit t)
          items refl judged functions types k x v n charge weight).from code pc f has w (p.0, p.1, (p.2, some));
    }
