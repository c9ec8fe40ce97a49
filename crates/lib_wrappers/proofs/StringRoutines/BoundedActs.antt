-- `strncpy` as a whole action.
use Rattle.std.proofs.Common.{◌≡◌, ℕ, ◌+◌, ◌-◌, ◌*◌, ◌<◌, ◌≤◌, ⊎_elim, List, [], ◌∷◌, ◌++◌}
use Rattle.std.proofs.Common.{length, true, get_or, refl, sym, ap, ◌∙◌, subst, arith, length-append}
use Rattle.std.proofs.lemmas.Bool.{cases_lt}
use Rattle.std.proofs.Math.ListN.{get_or-eq_default}
use Rattle.sb_base.specs.Endings.{code_of, report_of}
use Rattle.addr_map.specs.Places.{AreMapped}
use Rattle.obj_memory.specs.declared.value.Value.{Value}
use Rattle.obj_memory.specs.declared.value.Place.{Place}
use Rattle.obj_memory.specs.Judgement.{judge}
use Rattle.obj_memory.specs.Sound.{IsSoundTag, IsAllowed}
use Rattle.source_meaning.specs.State.{State as Source, Outcome as Completed, Gives, Ended, Paused, Run, on, ◌>>=◌}
use Rattle.source_meaning.specs.State.{done}
use Rattle.source_meaning.specs.Acting.{state_of, at_work}
use Rattle.source_meaning.specs.Strings.{scan_within, strncpy}
use Rattle.source_meaning.specs.Library.{argument}
use Rattle.flat_code.specs.declared.instruction.FlatInstruction.{FlatInstruction}
use Rattle.flat_code.specs.Memory.{Bytes}
use Rattle.flat_code.specs.State.{State}
use Rattle.flat_code.specs.Words.{IsOfWords}
use Rattle.flat_code.specs.Meaning.{Context, Goes}
use Rattle.flat_code.specs.declared.registers.Held.{Held}
use Rattle.flat_code.specs.Routines.Registers.{AreBelow, AreNoneOf, AreDistinct}
use Rattle.flat_code.specs.Routines.Routine.{HasAt, Outcome, Halts, Reaches, Does, Either, Never}
use Rattle.flat_code.specs.Routines.Metadata.{held_registers}
use Rattle.flat_code.proofs.Routines.Steps.{has_front, has_back}
use Rattle.flat_code.proofs.Routines.Rules.{weaken}
use Rattle.flat_code.proofs.Routines.Regions.{laid_out}
use Rattle.flat_code.proofs.Routines.Words.{IsLocal}
use Rattle.flat_code.proofs.Routines.Distinct.{below_more}
use Rattle.flat_code.specs.Routines.Objects.StandsFor.{Views, Keys, Spells, StandsFor}
use Rattle.flat_actions.specs.Judgement.Judging.{IsToJudge, IsSameBut, IsJudged, IsJudgeRoutine}
use Rattle.flat_actions.specs.Actions.{Basis, Pointer, Word, Nowhere, IsHeldBy, IsFor, Leaves, IsAction, context_in}
use Rattle.flat_actions.specs.Actions.{views_of, work_of}
use Rattle.flat_actions.specs.Ranges.{IsObjectRange, IsByteMoveRoutine, IsFillRoutine}
use Rattle.flat_actions.specs.Scanning.{IsWorked, HasScanned, IsScanRoutine}
use Rattle.flat_actions.proofs.Standing.{for_still, for_worked, spells_still, none_of_none}
use Rattle.flat_actions.specs.Lists.{guarded_code}
use Rattle.lib_wrappers.proofs.MovingRoutines.Steps.{does_weaken}
use Rattle.lib_wrappers.proofs.MovingRoutines.Moves.{allowed_range}
use Rattle.lib_wrappers.proofs.MovingRoutines.Judged.{work_done}
use Rattle.lib_wrappers.proofs.MovingRoutines.Guarded.{guarded}
use Rattle.lib_wrappers.specs.StringRoutines.Copying.{HasWritten, count_code, tail_code, filled_up}
use Rattle.lib_wrappers.proofs.StringRoutines.AfterScan.{over, after_scan}
use Rattle.lib_wrappers.proofs.StringRoutines.Between.{at_most_between, range_of, no_more}
use Rattle.lib_wrappers.proofs.StringRoutines.FilledUp.{filled_length, filled_first, filled_rest, IsToFillUp, fills_up}
use Rattle.lib_wrappers.proofs.StringRoutines.Handing.{IsSince, left_from}
use Rattle.lib_wrappers.proofs.StringRoutines.StringWritten.{are_small}
use Rattle.lib_wrappers.proofs.StringRoutines.Written.{written_run, written_works, written_gives, judged_writes}

-- bytes and zeros are bytes
filled_small : (m : Bytes) (a n : ℕ) (bytes : List ℕ) → length bytes ≤ n → ((b : ℕ) → m b < 256)
    → ((i : ℕ) → i < length bytes → m (a + i) ≡ get_or bytes i 0) → (i : ℕ) → get_or (filled_up n bytes) i 0 < 256
filled_small m a n bytes few words there i = ⊎_elim
    (λ (l : i < length bytes).
    let e = filled_first n bytes i l in let q = are_small m a bytes words there i in omega arith)
    (λ (l : length bytes ≤ i). ⊎_elim
    (λ (h : i < n). let e = filled_rest n bytes i l h in omega arith)
    (λ (h : n ≤ i).
    let long = filled_length n bytes few in
    subst (λ z. z < 256) (sym (get_or-eq_default (filled_up n bytes) 0 (let z : length (filled_up n bytes) ≤ i =
    omega arith in z))) (omega arith))
    (cases_lt i n))
    (cases_lt i (length bytes))

-- what is done in the source where there are bytes
abbrev pub bounded : (to source : Value) → (n line : ℕ) → Run Value
bounded dv sv n line =
    scan_within n (done []) sv line >>= (λ bytes. written_run n dv dv (filled_up n bytes) line)

bounded_gives : (dv sv : Value) (n line : ℕ) (x : Source) (w : Value) (x' : Source)
    → bounded dv sv n line x ≡ Gives w x'
    → w ≡ dv
bounded_gives dv sv n line x w x' e = by (scan_within n (done []) sv line x) e
  where
    by : (r : Completed (List ℕ)) → on r (λ bytes. written_run n dv dv (filled_up n bytes) line) ≡ Gives w x' → w ≡ dv
    by (Gives bytes y) q = written_gives n dv dv (filled_up n bytes) line y w x' q
    by (Ended u y) q = cc
    by (Paused y) q = cc

-- Registers: t is the cursor, and those from t + 1 on are free.
module _ (basis : Basis) (runtime : basis.is_runtime ≡ true) (mapped : AreMapped basis.map)
    (local : IsLocal basis.map basis.entry basis.IsGood) (d s : Held) (size : ℕ) (into : Held) (line t : ℕ)
    (below_d : AreBelow t (held_registers d)) (below_s : AreBelow t (held_registers s)) (below_size : size < t)
    (below_into : AreBelow t (held_registers into)) (distinct : AreDistinct (held_registers into))
    (none : AreNoneOf (held_registers d) (held_registers into))
    (scanning judging moving filling : List FlatInstruction)
    (scans : (n : ℕ) → 1 ≤ n → IsScanRoutine basis (λ v. scan_within n (done []) v line) s (λ f. f.values size ≡ n) t
    (t + 1) scanning)
    (judges : IsJudgeRoutine d size line (t + 1) judging)
    (moves : IsByteMoveRoutine basis.map d.value s.value (t + 1) (t + 4) moving)
    (fills : IsFillRoutine basis.map (t + 2) (t + 3) (t + 1) (t + 4) filling) where
  abbrev writing : List FlatInstruction
  writing =
      count_code (t + 1) s.value t
      ++ (moving ++ (tail_code d.value size (t + 1) (t + 2) (t + 3) ++ filling))

  abbrev act : List FlatInstruction
  act = scanning ++ (judging ++ writing)

  module _ (functions : ℕ) (types : ℕ → ℕ) (k : Keys) (x : Source) (dv sv : Value) (n : ℕ) (charge weight : ℕ)
      (sound : IsSoundTag functions x.objects dv.tag) (some : 1 ≤ n) where
    abbrev g : Views
    g = views_of basis.map functions types basis.entry

    abbrev c : Context
    c = context_in basis charge weight

    pub record IsToBound (f : State) : Type 0 where
      pub stands : IsFor g k basis.IsGood x f
      pub spells : Spells g k dv d f.values
      pub source : IsHeldBy g k x.objects (Pointer s) sv f.values
      pub size_is : f.values size ≡ n

    -- ---- where so many bytes were scanned

    module _ (w : ℕ) (bytes : List ℕ) (few : length bytes ≤ n) (m : Bytes) (words : (b : ℕ) → m b < 256)
        (there : (i : ℕ) → i < length bytes → m (sv.word + i) ≡ get_or bytes i 0)
        (st : StandsFor g k x.objects m) (range : IsObjectRange basis.map sv.word (length bytes)) where
      abbrev y : Source
      y = at_work w x

      abbrev new : List ℕ
      new = filled_up n bytes

      record IsToFinish (f : State) : Type 0 where
        stands : IsFor g k basis.IsGood y f
        spells : Spells g k dv d f.values
        size_is : f.values size ≡ n
        start_is : f.values s.value ≡ sv.word
        cursor_is : f.values t ≡ sv.word + length bytes
        memory : f.memory ≡ m

      keeps : (f f' : State) → IsToFinish f → IsSameBut (t + 1) f f' → IsToFinish f'
      keeps f f' p same = record {
        stands = for_still g k basis.IsGood y f f' same.memory same.shows p.stands;
        spells = spells_still g k dv d [] (t + 1) f f' same.others
            (below_more t (t + 1) (held_registers d) (omega arith) below_d) (none_of_none (held_registers d)) p.spells;
        size_is = same.others size (omega arith) tt ∙ p.size_is;
        start_is = same.others s.value (omega (arith, below_s.0)) tt ∙ p.start_is;
        cursor_is = same.others t (omega arith) tt ∙ p.cursor_is;
        memory = same.memory ∙ p.memory;
      }

      judges_it : Does c judging IsToFinish (λ f. 10) (λ f. IsJudged (judge (length new) dv y.objects) line (t + 1) f)
      judges_it =
          does_weaken c judging 10 10 (IsToJudge g k y.objects dv (length new) d size) IsToFinish
          (λ f. IsJudged (judge (length new) dv y.objects) line (t + 1) f)
          (λ f. IsJudged (judge (length new) dv y.objects) line (t + 1) f) (omega arith)
          (λ f p.
          let long = filled_length n bytes few in
          record {
            stands = p.stands.objects;
            sound = sound;
            spells = p.spells;
            size_is = p.size_is ∙ sym long;
            some = omega arith;
          })
          (λ f o p h. h) (judges g k y.objects dv (length new) basis.is_runtime charge weight mapped)

      writes_it : (p : Place) → IsAllowed y.objects dv (length new) p
          → Does c writing IsToFinish (λ f. 28 + 8 * length new) (λ f. Either (HasWritten new dv.word (t + 1) f) Never)
      writes_it p allowed =
          let long = filled_length n bytes few in
          let room = subst (IsObjectRange basis.map dv.word) long
          (allowed_range g k x.objects m dv (length new) p st allowed) in
          let last = room.last in let end = range.last in
          let ok = laid_out basis.map mapped in let small = ok.small in
          does_weaken c writing (28 + 8 * n) (28 + 8 * length new)
          (IsToFillUp basis runtime d.value s.value size t below_d.0 below_s.0 below_size moving filling moves fills
          charge weight n sv.word dv.word bytes few range room (omega arith) (omega arith))
          IsToFinish (λ f. Either (HasWritten new dv.word (t + 1) f) Never)
          (λ f. Either (HasWritten new dv.word (t + 1) f) Never) (omega arith)
          (λ f q. record {
            to_is = q.spells.word;
            from_is = q.start_is;
            size_is = q.size_is;
            cursor_is = q.cursor_is;
            there = λ i less. ap (λ z. z (sv.word + i)) q.memory ∙ there i less;
          })
          (λ f o q h. h)
          (fills_up basis runtime d.value s.value size t below_d.0 below_s.0 below_size moving filling moves fills
          charge weight n sv.word dv.word bytes few range room (omega arith) (omega arith))

      finishes : Does c (judging ++ writing) IsToFinish
          (λ f. 10 + (28 + 8 * work_done (written_run n dv dv new line y) y))
          (λ f. Leaves g k basis.IsGood Nowhere (t + 1) y f (written_run n dv dv new line y))
      finishes =
          subst (λ z. Does c (judging ++ writing) IsToFinish
          (λ f. 10 + (28 + 8 * work_done (written_run z dv dv new line y) y))
          (λ f. Leaves g k basis.IsGood Nowhere (t + 1) y f (written_run z dv dv new line y)))
          (filled_length n bytes few)
          (judged_writes basis.map mapped basis.entry basis.IsGood local functions types k (t + 1) y c judging
          writing dv
          dv new line IsToFinish 28 (filled_small m sv.word n bytes few words there) sound (λ f p. p.stands) keeps
          judges_it writes_it)

    -- ---- behind the scan

    abbrev R : State → Completed (List ℕ) → Outcome → Type 0
    R f r = Leaves g k basis.IsGood Nowhere t x f (on r (λ bytes. written_run n dv dv (filled_up n bytes) line))

    abbrev behind : List ℕ → Source → ℕ
    behind bytes x' = 10 + (28 + 8 * work_done (written_run n dv dv (filled_up n bytes) line x') x')

    since : (f f' : State) (bytes : List ℕ) → HasScanned sv.word bytes t (t + 1) f f' → IsSince t f f'
    since f f' bytes i = record {
      memory = i.memory;
      shows = i.shows;
      others = λ r less none. i.others r (omega arith) ((λ e. omega (arith, e, less)), tt);
    }

    on_behind : (code : List FlatInstruction) (pc : ℕ) (f f' : State) (bytes : List ℕ) (x' : Source)
        → HasAt code pc (judging ++ writing) → IsOfWords f → IsOfWords f' → IsToBound f
        → scan_within n (done []) sv line x ≡ Gives bytes x' → IsWorked x x' → HasScanned sv.word bytes t (t + 1) f f'
        → Reaches c code (behind bytes x') (Goes pc f') (pc + length (judging ++ writing)) (R f (Gives bytes x'))
    on_behind code pc f f' bytes x' has w words p is worked i =
        let y = at_work x'.work x in
        let h = since f f' bytes i in
        let few = no_more n (done []) (λ z bs z' q. none_given bs q) x sv line bytes x' is in
        let range = range_of g k (done []) x.objects sv (length bytes) f.memory p.stands.objects p.source.1
        (at_most_between functions line n x sv bytes x' some p.stands.objects.sound p.source.1 is) in
        subst (λ z. Reaches c code (behind bytes z) (Goes pc f') (pc + length (judging ++ writing))
        (R f (Gives bytes z))) (sym worked.same)
        (weaken c code (behind bytes y) (behind bytes y) (Goes pc f') (pc + length (judging ++ writing)) _
        (R f (Gives bytes y)) (omega arith)
        (λ o q. left_from g k basis.IsGood t (t + 1) x'.work x f f' (written_run n dv dv (filled_up n bytes) line y) o
        (omega arith) h q)
        ((finishes x'.work bytes few f.memory w.memory i.there p.stands.objects range).from code pc f' has words
        (record {
          stands = for_worked g k basis.IsGood x x'.work f' (for_still g k basis.IsGood x f f' i.memory i.shows
              p.stands);
          spells = spells_still g k dv d [] t f f' h.others below_d (none_of_none (held_registers d)) p.spells;
          size_is = h.others size below_size tt ∙ p.size_is;
          start_is = h.others s.value below_s.0 tt ∙ p.source.0.word;
          cursor_is = i.cursor_is;
          memory = i.memory;
        })))
      where
        none_given : (bs : List ℕ) {z z' : Source} → Gives [] z ≡ Gives bs z' → bs ≡ []
        none_given bs q = cc

    pub bounds : Does c act IsToBound (λ f. 54 + 8 * work_done (bounded dv sv n line x) x)
        (λ f. Leaves g k basis.IsGood Nowhere t x f (bounded dv sv n line x))
    bounds = record {
      from = λ code pc f has w p.
          let o = scan_within n (done []) sv line x in
          let rest = judging ++ writing in
          let len : pc + length scanning + length rest ≡ pc + length act = omega (arith, length-append scanning rest) in
          after_scan c code (16 + 8 * work_of (scan_within n (done []) sv line) x)
          (54 + 8 * work_done (bounded dv sv n line x) x) behind pc (pc + length scanning) (pc + length act) f sv.word t
          (t + 1) x o (R f o) w
          ((scans n some functions types k x sv charge weight).from code pc f (has_front code pc scanning rest has) w
          (p.stands, p.source, p.size_is))
          (λ e x' is worked. (
            (let one = ap (λ r. (state_of r).work - x.work) is in
                let two = ap (λ r. (state_of (on r (λ bytes. written_run n dv dv (filled_up n bytes) line))).work -
                x.work) is in omega (arith, one, two)),
            λ f' shows. subst (λ r. R f r (Halts (code_of e) (report_of e) f')) (sym is)
                (over x x' e f f' p.stands.shown worked shows),
          ))
          (λ bytes x' is more.
          let one = ap (λ r. (state_of r).work - x.work) is in
          let two = ap (λ r. (state_of (on r (λ bytes. written_run n dv dv (filled_up n bytes) line))).work - x.work) is
          in
          let later = written_works n dv dv (filled_up n bytes) line x' in
          omega (arith, one, two, later))
          (λ bytes x' is f' words worked i.
          subst (λ r. Reaches c code (behind bytes x') (Goes (pc + length scanning) f') (pc + length act) (R f r))
          (sym is)
          (subst (λ e. Reaches c code (behind bytes x') (Goes (pc + length scanning) f') e (R f (Gives bytes x'))) len
          (on_behind code (pc + length scanning) f f' bytes x' (has_back code pc scanning rest has) w words p is worked
          i)));
    }

  -- ---- with the size that is 0

  module _ (functions : ℕ) (types : ℕ → ℕ) (k : Keys) (x : Source) (dv sv nv : Value) (charge weight : ℕ)
      (sound : IsSoundTag functions x.objects dv.tag) where
    abbrev held : Views
    held = views_of basis.map functions types basis.entry

    record IsBefore (f : State) : Type 0 where
      stands : IsFor held k basis.IsGood x f
      spells : Spells held k dv d f.values
      source : IsHeldBy held k x.objects (Pointer s) sv f.values
      size_is : f.values size ≡ nv.word

    whole : Does (context_in basis charge weight) (guarded_code size d into act) IsBefore
        (λ f. 60 + 8 * work_of (strncpy dv sv nv line) x)
        (λ f. Leaves held k basis.IsGood (Pointer into) t x f (strncpy dv sv nv line x))
    whole =
        guarded held k basis.IsGood t x (context_in basis charge weight) d into size dv nv
        (bounded dv sv nv.word line) act IsBefore 54 8 below_d below_into distinct none
        (λ f p. record { stands = p.stands; spells = p.spells; sound = sound; size_is = p.size_is })
        (λ f p. record {
          stands = for_still held k basis.IsGood x f _ refl
              (record { input = refl; output = refl; taken = refl; accesses = refl; turns = refl }) p.stands;
          spells = record { word = p.spells.word; tag = p.spells.tag };
          source = (record { word = p.source.0.word; tag = p.source.0.tag }, p.source.1);
          size_is = p.size_is;
        })
        (bounded_gives dv sv nv.word line x)
        (λ some. let positive : 1 ≤ nv.word = omega (arith, some) in
        does_weaken (context_in basis charge weight) act (54 + 8 * work_done (bounded dv sv nv.word line x) x)
        (54 + 8 * work_done (bounded dv sv nv.word line x) x)
        (IsToBound functions types k x dv sv nv.word charge weight sound positive) IsBefore
        (λ f. Leaves held k basis.IsGood Nowhere t x f (bounded dv sv nv.word line x))
        (λ f. Leaves held k basis.IsGood Nowhere t x f (bounded dv sv nv.word line x)) (omega arith)
        (λ f p. record { stands = p.stands; spells = p.spells; source = p.source; size_is = p.size_is })
        (λ f o p h. h) (bounds functions types k x dv sv nv.word charge weight sound positive))

  pub strncpy_acts : IsAction basis (λ vs. strncpy (argument 0 vs) (argument 1 vs) (argument 2 vs) line)
      (Pointer d ∷ Pointer s ∷ Word size ∷ []) (Pointer into) t 60 8 (guarded_code size d into act)
  strncpy_acts functions types k x [] charge weight = record { from = λ code pc f has w p. absurd p.1 }
  strncpy_acts functions types k x (dv ∷ []) charge weight = record { from = λ code pc f has w p. absurd p.1.1 }
  strncpy_acts functions types k x (dv ∷ sv ∷ []) charge weight = record {
    from = λ code pc f has w p. absurd p.1.1.1;
  }
  strncpy_acts functions types k x (dv ∷ sv ∷ nv ∷ []) charge weight = record {
    from = λ code pc f has w p.
        (whole functions types k x dv sv nv charge weight p.1.0.1).from code pc f has w
        (record { stands = p.0; spells = p.1.0.0; source = p.1.1.0; size_is = p.1.1.1.0 });
  }
  strncpy_acts functions types k x (dv ∷ sv ∷ nv ∷ v ∷ vs) charge weight = record {
    from = λ code pc f has w p. absurd p.1.1.1.1;
  }
