-- `strcpy` and `strcat` as whole actions.
use Rattle.std.proofs.Common.{◌≡◌, ℕ, ◌+◌, ◌-◌, ◌*◌, List, [], ◌∷◌, ◌++◌, length, true, refl}
use Rattle.std.proofs.Common.{sym, ap, ◌∙◌, subst, arith, length-append}
use Rattle.addr_map.specs.Places.{AreMapped}
use Rattle.obj_memory.specs.declared.value.Value.{Value}
use Rattle.obj_memory.specs.Judgement.{moved}
use Rattle.obj_memory.specs.Sound.{IsSoundTag}
use Rattle.sb_base.specs.Endings.{code_of, report_of}
use Rattle.source_meaning.specs.State.{State as Source, Outcome as Completed, Gives, Ended, Paused, on, ◌>>=◌}
use Rattle.source_meaning.specs.State.{◌>>◌, done}
use Rattle.source_meaning.specs.Strings.{scan, write_string, strcpy, strcat}
use Rattle.source_meaning.specs.Acting.{state_of, at_work}
use Rattle.source_meaning.specs.Library.{argument}
use Rattle.flat_code.specs.declared.instruction.FlatInstruction.{FlatInstruction}
use Rattle.flat_code.specs.State.{State}
use Rattle.flat_code.specs.Words.{IsOfWords}
use Rattle.flat_code.specs.Meaning.{Context, Goes}
use Rattle.flat_code.specs.declared.registers.Held.{Held}
use Rattle.flat_code.specs.Routines.Registers.{AreBelow, AreNoneOf, AreDistinct}
use Rattle.flat_code.specs.Routines.Routine.{HasAt, Outcome, Halts, Reaches, Does}
use Rattle.flat_code.proofs.Routines.Steps.{has_front, has_back}
use Rattle.flat_code.specs.Routines.Metadata.{held_registers, entry_registers}
use Rattle.flat_code.proofs.Routines.Rules.{weaken}
use Rattle.flat_code.proofs.Routines.Words.{IsLocal}
use Rattle.flat_code.proofs.Routines.Distinct.{below_more}
use Rattle.flat_code.specs.Routines.Objects.StandsFor.{Views, Keys, Spells}
use Rattle.flat_actions.specs.Judgement.Judging.{IsJudgeRoutine}
use Rattle.flat_actions.specs.Actions.{Basis, Pointer, Nowhere, IsHeldBy, IsFor, Leaves, IsAction, context_in}
use Rattle.flat_actions.specs.Actions.{views_of, work_of}
use Rattle.flat_actions.specs.Ranges.{IsByteMoveRoutine}
use Rattle.flat_actions.specs.Scanning.{IsWorked, HasScanned, IsScanRoutine}
use Rattle.flat_actions.proofs.Standing.{for_still, for_worked, held_still, entry_stays, none_of_none}
use Rattle.flat_actions.specs.Lists.{give_code}
use Rattle.lib_wrappers.proofs.MovingRoutines.Guarded.{act_then_gives}
use Rattle.lib_wrappers.specs.StringRoutines.Copying.{size_code}
use Rattle.lib_wrappers.proofs.StringRoutines.Handing.{IsSince, left_from}
use Rattle.lib_wrappers.proofs.StringRoutines.AfterScan.{over, after_scan}
use Rattle.lib_wrappers.proofs.StringRoutines.StringCopies.{copied, copied_gives, copied_works, copied_is, IsToCopy}
use Rattle.lib_wrappers.proofs.StringRoutines.StringCopies.{copies}

-- ---- `strcpy`

module _ (basis : Basis) (runtime : basis.is_runtime ≡ true) (mapped : AreMapped basis.map)
    (local : IsLocal basis.map basis.entry basis.IsGood) (d s into : Held) (line t : ℕ)
    (below_d : AreBelow t (held_registers d)) (below_s : AreBelow t (held_registers s))
    (below_into : AreBelow t (held_registers into)) (distinct : AreDistinct (held_registers into))
    (none : AreNoneOf (held_registers d) (held_registers into))
    (scanning judging moving : List FlatInstruction)
    (scans : IsScanRoutine basis (λ v. scan v line) s (λ f. Unit {0}) t (t + 1) scanning)
    (judges : IsJudgeRoutine d (t + 1) line (t + 1 + 1) judging)
    (moves : IsByteMoveRoutine basis.map d.value s.value (t + 1) (t + 1 + 1) moving) where
  abbrev act : List FlatInstruction
  act = scanning ++ (size_code (t + 1) s.value t ++ (judging ++ moving))

  strcpy_whole : (functions : ℕ) (types : ℕ → ℕ) (k : Keys) (x : Source) (dv sv : Value) (charge weight : ℕ)
      (code : List FlatInstruction) (pc : ℕ) (f : State) → HasAt code pc (act ++ give_code d into) → IsOfWords f
      → IsFor (views_of basis.map functions types basis.entry) k basis.IsGood x f
      → IsHeldBy (views_of basis.map functions types basis.entry) k x.objects (Pointer d) dv f.values
      → IsHeldBy (views_of basis.map functions types basis.entry) k x.objects (Pointer s) sv f.values
      → Reaches (context_in basis charge weight) code (49 + 8 * work_of (strcpy dv sv line) x) (Goes pc f)
      (pc + length (act ++ give_code d into))
      (Leaves (views_of basis.map functions types basis.entry) k basis.IsGood (Pointer into) t x f
      (strcpy dv sv line x))
  strcpy_whole functions types k x dv sv charge weight code pc f has w p a b =
      let g = views_of basis.map functions types basis.entry in
      let c = context_in basis charge weight in
      let is = copied_is dv dv sv line x in
      let r = copied dv dv sv line x in
      let n = ap (λ o. 49 + 8 * ((state_of o).work - x.work)) is in
      weaken c code (44 + 8 * work_of (copied dv dv sv line) x + 5) (49 + 8 * work_of (strcpy dv sv line) x) (Goes pc f)
      (pc + length (act ++ give_code d into)) (Leaves g k basis.IsGood (Pointer into) t x f r) _ (omega arith)
      (λ o h. subst (λ q. Leaves g k basis.IsGood (Pointer into) t x f q o) (sym is) h)
      ((act_then_gives g k basis.IsGood t x c d into dv r act
      (IsToCopy basis runtime mapped local line d s t below_d below_s scanning judging moving scans judges moves
      functions types k x dv dv sv charge weight a.1)
      (44 + 8 * work_of (copied dv dv sv line) x) below_d below_into distinct none (λ f q. q.spells) (λ f q. a.1)
      (copied_gives dv dv sv line x)
      (copies basis runtime mapped local line d s t below_d below_s scanning judging moving scans judges moves
      functions types k x dv dv sv charge weight a.1)).from code pc f has w
      (record { stands = p; spells = a.0; source = b }))

  pub strcpy_acts : IsAction basis (λ vs. strcpy (argument 0 vs) (argument 1 vs) line) (Pointer d ∷ Pointer s ∷ [])
      (Pointer into) t 49 8 (act ++ give_code d into)
  strcpy_acts functions types k x [] charge weight = record { from = λ code pc f has w p. absurd p.1 }
  strcpy_acts functions types k x (dv ∷ []) charge weight = record { from = λ code pc f has w p. absurd p.1.1 }
  strcpy_acts functions types k x (dv ∷ sv ∷ []) charge weight = record {
    from = λ code pc f has w p.
        strcpy_whole functions types k x dv sv charge weight code pc f has w p.0 p.1.0 p.1.1.0;
  }
  strcpy_acts functions types k x (dv ∷ sv ∷ v ∷ vs) charge weight = record {
    from = λ code pc f has w p. absurd p.1.1.1;
  }

-- ---- `strcat`

-- where the copy goes: the 0 byte of the first string, whose address is in a register
abbrev pub end_of : Held → (register : ℕ) → Held
end_of d e = record { value = e; tag = d.tag }

module _ (basis : Basis) (runtime : basis.is_runtime ≡ true) (mapped : AreMapped basis.map)
    (local : IsLocal basis.map basis.entry basis.IsGood) (d s into : Held) (line t : ℕ)
    (below_d : AreBelow t (held_registers d)) (below_s : AreBelow t (held_registers s))
    (below_into : AreBelow t (held_registers into)) (distinct : AreDistinct (held_registers into))
    (none : AreNoneOf (held_registers d) (held_registers into))
    (first scanning judging moving : List FlatInstruction)
    (scans_first : IsScanRoutine basis (λ v. scan v line) d (λ f. Unit {0}) t (t + 1) first)
    (scans : IsScanRoutine basis (λ v. scan v line) s (λ f. Unit {0}) (t + 1) (t + 1 + 1) scanning)
    (judges : IsJudgeRoutine (end_of d t) (t + 1 + 1) line (t + 1 + 1 + 1) judging)
    (moves : IsByteMoveRoutine basis.map t s.value (t + 1 + 1) (t + 1 + 1 + 1) moving) where
  abbrev copying : List FlatInstruction
  copying = scanning ++ (size_code (t + 1 + 1) s.value (t + 1) ++ (judging ++ moving))

  abbrev cat_act : List FlatInstruction
  cat_act = first ++ copying

  below_end : AreBelow (t + 1) (held_registers (end_of d t))
  below_end = (omega arith, below_more t (t + 1) (entry_registers d.tag) (omega arith) below_d.1)

  below_source : AreBelow (t + 1) (held_registers s)
  below_source = below_more t (t + 1) (held_registers s) (omega arith) below_s

  module _ (functions : ℕ) (types : ℕ → ℕ) (k : Keys) (x : Source) (dv sv : Value) (charge weight : ℕ)
      (sound : IsSoundTag functions x.objects dv.tag) where
    abbrev g : Views
    g = views_of basis.map functions types basis.entry

    abbrev c : Context
    c = context_in basis charge weight

    record IsToCat (f : State) : Type 0 where
      stands : IsFor g k basis.IsGood x f
      spells : Spells g k dv d f.values
      source : IsHeldBy g k x.objects (Pointer s) sv f.values

    abbrev after : Completed (List ℕ) → Completed Value
    after r = on r (λ before. copied (moved (length before) dv) dv sv line)

    abbrev R : State → Completed (List ℕ) → Outcome → Type 0
    R f r = Leaves g k basis.IsGood Nowhere t x f (after r)

    abbrev behind : List ℕ → Source → ℕ
    behind before x' = 44 + 8 * work_of (copied (moved (length before) dv) dv sv line) x'

    since : (f f' : State) (before : List ℕ) → HasScanned dv.word before t (t + 1) f f' → IsSince t f f'
    since f f' before i = record {
      memory = i.memory;
      shows = i.shows;
      others = λ r less none. i.others r (omega arith) ((λ e. omega (arith, e, less)), tt);
    }

    end_spelled : (f f' : State) (before : List ℕ) → Spells g k dv d f.values → HasScanned dv.word before t (t + 1) f f'
        → Spells g k (moved (length before) dv) (end_of d t) f'.values
    unfolding moved
    end_spelled f f' before p i =
        let h = since f f' before i in
        let cursor = i.cursor_is in let small = i.small in
        record {
          word = omega arith;
          tag = entry_stays [] t f f' d.tag h.others below_d.1 (none_of_none (entry_registers d.tag)) ∙ p.tag;
        }

    end_sound : (n : ℕ) → IsSoundTag functions x.objects (moved n dv).tag
    unfolding moved
    end_sound n = sound

    on_behind : (code : List FlatInstruction) (pc : ℕ) (f f' : State) (before : List ℕ) (x' : Source)
        → HasAt code pc copying → IsOfWords f' → IsToCat f → IsWorked x x' → HasScanned dv.word before t (t + 1) f f'
        → Reaches c code (behind before x') (Goes pc f') (pc + length copying) (R f (Gives before x'))
    on_behind code pc f f' before x' has words p worked i =
        let y = at_work x'.work x in
        let h = since f f' before i in
        let ev = moved (length before) dv in
        subst (λ z. Reaches c code (behind before z) (Goes pc f') (pc + length copying) (R f (Gives before z)))
        (sym worked.same)
        (weaken c code (behind before y) (behind before y) (Goes pc f') (pc + length copying) _ (R f (Gives before y))
        (omega arith)
        (λ o q. left_from g k basis.IsGood t (t + 1) x'.work x f f' (copied ev dv sv line y) o (omega arith) h q)
        ((copies basis runtime mapped local line (end_of d t) s (t + 1) below_end below_source scanning judging moving
        scans
        judges moves functions types k y ev dv sv charge weight (end_sound (length before))).from code pc f' has words
        (record {
          stands = for_worked g k basis.IsGood x x'.work f' (for_still g k basis.IsGood x f f' i.memory i.shows
              p.stands);
          spells = end_spelled f f' before p.spells i;
          source = held_still g k x.objects (Pointer s) sv [] t f f' h.others below_s (none_of_none (held_registers s))
              p.source;
        })))

    cat_is : (r : Completed (List ℕ))
        → on r (λ before. scan sv line >>= (λ bytes. write_string (moved (length before) dv) bytes line >> done dv))
        ≡ after r
    cat_is (Gives before y) = copied_is (moved (length before) dv) dv sv line y
    cat_is (Ended e y) = refl
    cat_is (Paused y) = refl

    cats : Does c cat_act IsToCat (λ f. 60 + 8 * work_of (strcat dv sv line) x)
        (λ f. Leaves g k basis.IsGood Nowhere t x f (after (scan dv line x)))
    cats = record {
      from = λ code pc f has w p.
          let o = scan dv line x in
          let len : pc + length first + length copying ≡ pc + length cat_act =
          omega (arith, length-append first copying) in
          let same = ap (λ r. (state_of r).work - x.work) (cat_is o) in
          after_scan c code (16 + 8 * work_of (scan dv line) x) (60 + 8 * work_of (strcat dv sv line) x) behind pc
          (pc + length first) (pc + length cat_act) f dv.word t (t + 1) x o (R f o) w
          ((scans_first functions types k x dv charge weight).from code pc f (has_front code pc first copying has) w
          (p.stands, (p.spells, sound), tt))
          (λ e x' is worked. (
            (let one = ap (λ r. (state_of r).work - x.work) is in
                let two = ap (λ r. (state_of (after r)).work - x.work) is in omega (arith, one, two, same)),
            λ f' shows. subst (λ r. R f r (Halts (code_of e) (report_of e) f')) (sym is)
                (over x x' e f f' p.stands.shown worked shows),
          ))
          (λ before x' is more.
          let one = ap (λ r. (state_of r).work - x.work) is in
          let two = ap (λ r. (state_of (after r)).work - x.work) is in
          let later = copied_works (moved (length before) dv) dv sv line x' in
          omega (arith, one, two, later, same))
          (λ before x' is f' words worked i.
          subst (λ r. Reaches c code (behind before x') (Goes (pc + length first) f') (pc + length cat_act) (R f r))
          (sym is)
          (subst (λ e. Reaches c code (behind before x') (Goes (pc + length first) f') e (R f (Gives before x'))) len
          (on_behind code (pc + length first) f f' before x' (has_back code pc first copying has) words p worked i)));
    }

    cat_gives : (v : Value) (x' : Source) → after (scan dv line x) ≡ Gives v x' → v ≡ dv
    cat_gives v x' e = by (scan dv line x) e
      where
        by : (r : Completed (List ℕ)) → after r ≡ Gives v x' → v ≡ dv
        by (Gives before y) q = copied_gives (moved (length before) dv) dv sv line y v x' q
        by (Ended u y) q = cc
        by (Paused y) q = cc

    strcat_whole : (code : List FlatInstruction) (pc : ℕ) (f : State) → HasAt code pc (cat_act ++ give_code d into)
        → IsOfWords f → IsToCat f
        → Reaches c code (65 + 8 * work_of (strcat dv sv line) x) (Goes pc f)
        (pc + length (cat_act ++ give_code d into))
        (Leaves g k basis.IsGood (Pointer into) t x f (strcat dv sv line x))
    strcat_whole code pc f has w p =
        weaken c code (60 + 8 * work_of (strcat dv sv line) x + 5) (65 + 8 * work_of (strcat dv sv line) x) (Goes pc f)
        (pc + length (cat_act ++ give_code d into))
        (Leaves g k basis.IsGood (Pointer into) t x f (after (scan dv line x))) _ (omega arith)
        (λ o h. subst (λ q. Leaves g k basis.IsGood (Pointer into) t x f q o) (sym (cat_is (scan dv line x))) h)
        ((act_then_gives g k basis.IsGood t x c d into dv (after (scan dv line x)) cat_act IsToCat
        (60 + 8 * work_of (strcat dv sv line) x) below_d below_into distinct none (λ f q. q.spells) (λ f q. sound)
        cat_gives cats).from code pc f has w p)

  pub strcat_acts : IsAction basis (λ vs. strcat (argument 0 vs) (argument 1 vs) line) (Pointer d ∷ Pointer s ∷ [])
      (Pointer into) t 65 8 (cat_act ++ give_code d into)
  strcat_acts functions types k x [] charge weight = record { from = λ code pc f has w p. absurd p.1 }
  strcat_acts functions types k x (dv ∷ []) charge weight = record { from = λ code pc f has w p. absurd p.1.1 }
  strcat_acts functions types k x (dv ∷ sv ∷ []) charge weight = record {
    from = λ code pc f has w p.
        strcat_whole functions types k x dv sv charge weight p.1.0.1 code pc f has w
        (record { stands = p.0; spells = p.1.0.0; source = p.1.1.0 });
  }
  strcat_acts functions types k x (dv ∷ sv ∷ v ∷ vs) charge weight = record {
    from = λ code pc f has w p. absurd p.1.1.1;
  }
