-- A string is scanned, and then written with its 0 byte where a pointer points.
use Rattle.std.proofs.Common.{◌≡◌, ℕ, ◌+◌, ◌-◌, ◌*◌, ◌≤◌, List, [], ◌∷◌, ◌++◌, length, true, refl, sym, ap}
use Rattle.std.proofs.Common.{◌∙◌, subst, arith, length-append}
use Rattle.sb_base.specs.Endings.{code_of, report_of}
use Rattle.addr_map.specs.Places.{AreMapped}
use Rattle.obj_memory.specs.declared.value.Value.{Value}
use Rattle.obj_memory.specs.declared.value.Place.{Place}
use Rattle.obj_memory.specs.Sound.{IsSoundTag}
use Rattle.source_meaning.specs.State.{State as Source, Outcome as Completed, Gives, Ended, Paused, Run, on, ◌>>=◌}
use Rattle.source_meaning.specs.State.{◌>>◌, done}
use Rattle.source_meaning.specs.Actions.{located}
use Rattle.source_meaning.specs.Bytes.{set_bytes}
use Rattle.source_meaning.specs.Acting.{state_of, at_work}
use Rattle.source_meaning.specs.Strings.{scan, write_string}
use Rattle.flat_code.specs.declared.instruction.FlatInstruction.{FlatInstruction}
use Rattle.flat_code.specs.State.{State}
use Rattle.flat_code.specs.Words.{IsOfWords}
use Rattle.flat_code.specs.Meaning.{Context, Goes}
use Rattle.flat_code.specs.declared.registers.Held.{Held}
use Rattle.flat_code.specs.Routines.Registers.{AreBelow}
use Rattle.flat_code.specs.Routines.Routine.{HasAt, Outcome, Halts, Reaches, Does}
use Rattle.flat_code.specs.Routines.Metadata.{held_registers}
use Rattle.flat_code.proofs.Routines.Steps.{has_front, has_back}
use Rattle.flat_code.proofs.Routines.Rules.{weaken}
use Rattle.flat_code.proofs.Routines.Words.{IsLocal}
use Rattle.flat_code.proofs.Routines.Distinct.{below_more}
use Rattle.flat_code.specs.Routines.Objects.StandsFor.{Views, Keys, Spells}
use Rattle.flat_actions.specs.Judgement.Judging.{IsJudgeRoutine}
use Rattle.flat_actions.specs.Actions.{Basis, Pointer, Nowhere, IsHeldBy, IsFor, Leaves, context_in, views_of, work_of}
use Rattle.flat_actions.specs.Ranges.{IsByteMoveRoutine}
use Rattle.flat_actions.specs.Scanning.{IsWorked, HasScanned, IsScanRoutine}
use Rattle.flat_actions.proofs.Standing.{for_still, for_worked, spells_still}
use Rattle.lib_wrappers.proofs.MovingRoutines.Judged.{work_done}
use Rattle.lib_wrappers.specs.StringRoutines.Copying.{size_code}
use Rattle.lib_wrappers.proofs.StringRoutines.AfterScan.{over, after_scan}
use Rattle.lib_wrappers.proofs.StringRoutines.Between.{scan_between, terminated}
use Rattle.lib_wrappers.proofs.StringRoutines.Fresh.{apart_from}
use Rattle.lib_wrappers.proofs.StringRoutines.Handing.{IsSince, left_from}
use Rattle.lib_wrappers.proofs.StringRoutines.Looking.{scan_works}
use Rattle.lib_wrappers.proofs.StringRoutines.StringWritten.{with_zero, are_small, IsFound, string_writes}
use Rattle.lib_wrappers.proofs.StringRoutines.Written.{written_run, written_works, written_gives}

-- what is done in the source: the result is some value
abbrev pub copied : (to result source : Value) → (line : ℕ) → Run Value
copied dv v sv line =
    scan sv line >>= (λ bytes. written_run (length (bytes ++ 0 ∷ [])) dv v (bytes ++ 0 ∷ []) line)

-- Registers: cur the cursor, cur + 1 the size, and those from cur + 2 on are free.
module _ (basis : Basis) (runtime : basis.is_runtime ≡ true) (mapped : AreMapped basis.map)
    (local : IsLocal basis.map basis.entry basis.IsGood) (line : ℕ) (to s : Held) (cur : ℕ)
    (below_to : AreBelow cur (held_registers to)) (below_s : AreBelow cur (held_registers s))
    (scanning judging moving : List FlatInstruction)
    (scans : IsScanRoutine basis (λ v. scan v line) s (λ f. Unit {0}) cur (cur + 1) scanning)
    (judges : IsJudgeRoutine to (cur + 1) line (cur + 1 + 1) judging)
    (moves : IsByteMoveRoutine basis.map to.value s.value (cur + 1) (cur + 1 + 1) moving) where
  abbrev rest : List FlatInstruction
  rest = size_code (cur + 1) s.value cur ++ (judging ++ moving)

  abbrev pub copy_items : List FlatInstruction
  copy_items = scanning ++ rest

  module _ (functions : ℕ) (types : ℕ → ℕ) (k : Keys) (x : Source) (dv v sv : Value) (charge weight : ℕ)
      (sound : IsSoundTag functions x.objects dv.tag) where
    abbrev g : Views
    g = views_of basis.map functions types basis.entry

    abbrev c : Context
    c = context_in basis charge weight

    pub record IsToCopy (f : State) : Type 0 where
      pub stands : IsFor g k basis.IsGood x f
      pub spells : Spells g k dv to f.values
      pub source : IsHeldBy g k x.objects (Pointer s) sv f.values

    abbrev R : State → Completed (List ℕ) → Outcome → Type 0
    R f r = Leaves g k basis.IsGood Nowhere cur x f
        (on r (λ bytes. written_run (length (bytes ++ 0 ∷ [])) dv v (bytes ++ 0 ∷ []) line))

    -- how many steps what follows takes
    abbrev behind : List ℕ → Source → ℕ
    behind bytes x' =
        2 + (10 + (16 + 8 * work_done (written_run (length (bytes ++ 0 ∷ [])) dv v (bytes ++ 0 ∷ []) line x') x'))

    found : (f f' : State) (bytes : List ℕ) (x' : Source) → IsToCopy f → scan sv line x ≡ Gives bytes x'
        → HasScanned sv.word bytes cur (cur + 1) f f' → IsFound g sv.word bytes f.memory
    found f f' bytes x' p is i =
        let z = terminated g k line x.objects sv (length bytes) f.memory p.stands.objects p.source.1
        (scan_between functions line x sv bytes x' p.stands.objects.sound p.source.1 is) in
        record { there = i.there; last_byte = z.last_byte; range = z.range; small = i.small }

    since : (f f' : State) (bytes : List ℕ) → HasScanned sv.word bytes cur (cur + 1) f f' → IsSince cur f f'
    since f f' bytes i = record {
      memory = i.memory;
      shows = i.shows;
      others = λ r less none. i.others r (omega arith) ((λ e. omega (arith, e, less)), tt);
    }

    -- behind the scan
    on_behind : (code : List FlatInstruction) (pc : ℕ) (f f' : State) (bytes : List ℕ) (x' : Source)
        → HasAt code pc rest → IsOfWords f → IsOfWords f' → IsToCopy f → scan sv line x ≡ Gives bytes x' → IsWorked x x'
        → HasScanned sv.word bytes cur (cur + 1) f f'
        → Reaches c code (behind bytes x') (Goes pc f') (pc + length rest) (R f (Gives bytes x'))
    on_behind code pc f f' bytes x' has w words p is worked i =
        let y = at_work x'.work x in
        let at = found f f' bytes x' p is i in
        let s_since = since f f' bytes i in
        let b : AreBelow (cur + 1) (s.value ∷ cur ∷ held_registers to) = (
          let l = below_s.0 in omega arith,
          (
            omega arith,
            below_more cur (cur + 1) (held_registers to) (omega arith)
                below_to,
          ),
        ) in
        let bytes_small = are_small f.memory sv.word (bytes ++ 0 ∷ []) w.memory
        (with_zero f.memory sv.word bytes at.there at.last_byte) in
        subst (λ z. Reaches c code (behind bytes z) (Goes pc f') (pc + length rest) (R f (Gives bytes z)))
        (sym worked.same)
        (weaken c code (behind bytes y) (behind bytes y) (Goes pc f') (pc + length rest) _ (R f (Gives bytes y))
        (omega arith) (λ o h. left_from g k basis.IsGood cur (cur + 1) x'.work x f f'
        (written_run (length (bytes ++ 0 ∷ [])) dv v (bytes ++ 0 ∷ []) line y) o (omega arith) s_since h)
        ((string_writes basis runtime mapped local line to s.value cur (cur + 1) b judging moving judges moves
        functions types k y dv v sv.word bytes charge weight sound bytes_small).from code pc f' has words (record {
          stands = for_worked g k basis.IsGood x x'.work f' (for_still g k basis.IsGood x f f' i.memory i.shows
              p.stands);
          spells = spells_still g k dv to (cur ∷ []) (cur + 1) f f' i.others
              (below_more cur (cur + 1) (held_registers to) (omega arith) below_to)
              (apart_from cur cur (held_registers to) (omega arith) below_to) p.spells;
          start_is = s_since.others s.value below_s.0 tt ∙ p.source.0.word;
          cursor_is = i.cursor_is;
          found = subst (IsFound g sv.word bytes) (sym i.memory) at;
        })))

    pub copies : Does c copy_items IsToCopy (λ f. 44 + 8 * work_of (copied dv v sv line) x)
        (λ f. Leaves g k basis.IsGood Nowhere cur x f (copied dv v sv line x))
    copies = record {
      from = λ code pc f has w p.
          let o = scan sv line x in
          let len : pc + length scanning + length rest ≡ pc + length copy_items =
          omega (arith, length-append scanning rest) in
          after_scan c code (16 + 8 * work_of (scan sv line) x) (44 + 8 * work_of (copied dv v sv line) x) behind pc
          (pc + length scanning) (pc + length copy_items) f sv.word cur (cur + 1) x o (R f o) w
          ((scans functions types k x sv charge weight).from code pc f (has_front code pc scanning rest has) w
          (p.stands, p.source, tt))
          (λ e x' is worked. (
            (let one = ap (λ r. (state_of r).work - x.work) is in
                let two = ap (λ r. (state_of (on r (λ bytes.
                written_run (length (bytes ++ 0 ∷ [])) dv v (bytes ++ 0 ∷ []) line))).work - x.work) is in
                omega (arith, one, two)),
            λ f' shows. subst (λ r. R f r (Halts (code_of e) (report_of e) f')) (sym is)
                (over x x' e f f' p.stands.shown worked shows),
          ))
          (λ bytes x' is more.
          let one = ap (λ r. (state_of r).work - x.work) is in
          let two = ap (λ r. (state_of (on r (λ bytes.
          written_run (length (bytes ++ 0 ∷ [])) dv v (bytes ++ 0 ∷ []) line))).work - x.work) is in
          let later = written_works (length (bytes ++ 0 ∷ [])) dv v (bytes ++ 0 ∷ []) line x' in
          omega (arith, one, two, later))
          (λ bytes x' is f' words worked i.
          subst (λ r. Reaches c code (behind bytes x') (Goes (pc + length scanning) f') (pc + length copy_items)
          (R f r)) (sym is)
          (subst (λ e. Reaches c code (behind bytes x') (Goes (pc + length scanning) f') e (R f (Gives bytes x')))
          len (on_behind code (pc + length scanning) f f' bytes x' (has_back code pc scanning rest has) w words p is
          worked i)));
    }

-- ---- what it gives

pub copied_gives : (dv v sv : Value) (line : ℕ) (x : Source) (w : Value) (x' : Source)
    → copied dv v sv line x ≡ Gives w x' → w ≡ v
copied_gives dv v sv line x w x' e = by (scan sv line x) e
  where
    by : (r : Completed (List ℕ)) → on r (λ bytes. written_run (length (bytes ++ 0 ∷ [])) dv v (bytes ++ 0 ∷ []) line)
        ≡ Gives w x' → w ≡ v
    by (Gives bytes y) q = written_gives (length (bytes ++ 0 ∷ [])) dv v (bytes ++ 0 ∷ []) line y w x' q
    by (Ended u y) q = cc
    by (Paused y) q = cc

-- it is as the source says it
written_is_write_string : (dv v : Value) (bytes : List ℕ) (line : ℕ) (x : Source)
    → on (write_string dv bytes line x) (λ u. done v)
    ≡ written_run (length (bytes ++ 0 ∷ [])) dv v (bytes ++ 0 ∷ []) line x
written_is_write_string dv v bytes line x =
    assoc (located true (length bytes + 1) dv line x)
    ∙ ap (λ n. written_run n dv v (bytes ++ 0 ∷ []) line x) (sym (length-append bytes (0 ∷ [])))
  where
    assoc : (r : Completed Place) → on (on r (set_bytes (bytes ++ 0 ∷ []))) (λ u. done v)
        ≡ on r (λ p. set_bytes (bytes ++ 0 ∷ []) p >> done v)
    assoc (Gives p y) = refl
    assoc (Ended e y) = refl
    assoc (Paused y) = refl

pub copied_is : (dv v sv : Value) (line : ℕ) (x : Source)
    → on (scan sv line x) (λ bytes. write_string dv bytes line >> done v) ≡ copied dv v sv line x
copied_is dv v sv line x = by (scan sv line x)
  where
    by : (r : Completed (List ℕ)) → on r (λ bytes. write_string dv bytes line >> done v)
        ≡ on r (λ bytes. written_run (length (bytes ++ 0 ∷ [])) dv v (bytes ++ 0 ∷ []) line)
    by (Gives bytes y) = written_is_write_string dv v bytes line y
    by (Ended e y) = refl
    by (Paused y) = refl

-- it takes no work back
pub copied_works : (dv v sv : Value) (line : ℕ) (x : Source) → x.work ≤ (state_of (copied dv v sv line x)).work
copied_works dv v sv line x = by (scan sv line x) (scan_works x sv line)
  where
    by : (r : Completed (List ℕ)) → x.work ≤ (state_of r).work
        → x.work ≤ (state_of (on r (λ bytes. written_run (length (bytes ++ 0 ∷ [])) dv v (bytes ++ 0 ∷ []) line))).work
    by (Gives bytes y) le =
        let more = written_works (length (bytes ++ 0 ∷ [])) dv v (bytes ++ 0 ∷ []) line y in omega arith
    by (Ended e y) le = le
    by (Paused y) le = le
