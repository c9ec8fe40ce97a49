-- `printf` as a whole action.
use Rattle.std.proofs.Common.{◌≡◌, ℕ, ◌+◌, ◌-◌, ◌*◌, ◌%◌, ◌^◌, ◌<◌, ◌≤◌, List, [], ◌∷◌, ◌++◌, length}
use Rattle.std.proofs.Common.{true, Some, length-append, refl, sym, ap, ◌∙◌, subst, arith}
use Rattle.addr_map.specs.Places.{MapSizes, AreMapped}
use Rattle.words.specs.TwosComplement.{sign_extended}
use Rattle.rv_isa.specs.Results.{reg32_result, low_word}
use Rattle.rv_isa.specs.declared.instruction.RegOp32.TheVariants.{Addw}
use Rattle.obj_memory.specs.declared.value.Value.{Value}
use Rattle.obj_memory.specs.declared.int_type.IntType.TheVariants.{Int}
use Rattle.obj_memory.specs.Integers.{fit}
use Rattle.c_tree.specs.declared.format.Piece.{Piece}
use Rattle.c_tree.specs.Format.{pieces}
use Rattle.source_meaning.specs.State.{State as Source, Outcome as Completed, Gives, Ended, Paused, Run, on, ◌>>◌, done}
use Rattle.source_meaning.specs.Acting.{state_of}
use Rattle.source_meaning.specs.Actions.{integer, put_bytes}
use Rattle.source_meaning.specs.Printing.{formatted, pieces_or_none, print_formatted}
use Rattle.flat_code.specs.declared.instruction.FlatInstruction.{FlatInstruction}
use Rattle.flat_code.specs.declared.instruction.FlatInstruction.TheVariants.{Constant}
use Rattle.flat_code.specs.Memory.{Bytes}
use Rattle.flat_code.specs.State.{State}
use Rattle.flat_code.specs.Words.{IsOfWords}
use Rattle.flat_code.specs.Meaning.{Context, Goes}
use Rattle.flat_code.proofs.Stored.{put_same, put_other}
use Rattle.flat_code.specs.Routines.Metadata.{View}
use Rattle.flat_code.specs.Routines.Routine.{Does, HasAt, Outcome, Continues, Halts, Reaches, Either, Never}
use Rattle.flat_code.specs.Routines.Effects.{effects}
use Rattle.flat_code.proofs.Routines.Steps.{has_front, has_back}
use Rattle.flat_code.proofs.Routines.Rules.{weaken, next, line as straight, line_on, ends_there}
use Rattle.flat_code.specs.Routines.Objects.StandsFor.{Views, Keys, StandsFor}
use Rattle.flat_code.proofs.Routines.Spaces.Quiet.{quiet_words}
use Rattle.flat_operators.proofs.Values.{int_by_word}
use Rattle.flat_actions.specs.Actions.{Basis, Holder, Word, context_in, views_of, IsFor, AreHeldBy, HasGiven}
use Rattle.flat_actions.specs.Actions.{HasEnded, Leaves, IsAction}
use Rattle.flat_actions.specs.Scanning.{IsWorked}
use Rattle.flat_actions.proofs.Standing.{ended_still, unwritten_same, good_still, keeps_same, stays_same, AreAllBelow}
use Rattle.lib_wrappers.specs.PrintingRoutines.Digits.{HasPrinted}
use Rattle.lib_wrappers.specs.PrintingRoutines.Formats.{cursor_of, counted_code, IsPrintCode}
use Rattle.lib_wrappers.proofs.PrintingRoutines.Printable.{IsPrintable, directive_count, printable_kept}
use Rattle.lib_wrappers.proofs.PrintingRoutines.Scans.{IsAfterScans, IsFormatted, runs_scans}
use Rattle.lib_wrappers.proofs.PrintingRoutines.Puts.{runs_puts}

-- a count that wrapped at 64 bits is the same int
int_of_count : (n : ℕ) → fit Int (n % 2 ^ 64) ≡ fit Int n
unfolding fit
int_of_count n =
    let e : n % 2 ^ 64 % 2 ^ 32 ≡ n % 2 ^ 32 = omega arith in
    ap (sign_extended 32 64) e

module _ (map : MapSizes) (mapped : AreMapped map) (entry : View) (IsGood : Bytes → Type 0) (line : ℕ) (ps : List Piece)
    (hs : List Holder) (into t w : ℕ) (gives : into < t) (low : AreAllBelow t hs)
    (room : cursor_of t 0 + directive_count ps ≤ w) (code_of_it : List FlatInstruction) where
  abbrev basis : Basis
  basis = record { map = map; entry = entry; IsGood = IsGood; is_runtime = true }

  module _ (print : IsPrintCode basis line ps hs into t w code_of_it) (functions : ℕ) (types : ℕ → ℕ) (k : Keys)
      (x : Source) (vs : List Value) (charge weight : ℕ) where
    abbrev g : Views
    g = views_of map functions types entry

    abbrev c : Context
    c = context_in basis charge weight

    abbrev after : List ℕ → Run Value
    after bytes = put_bytes bytes >> done (integer (fit Int (length bytes)))

    abbrev R : State → Completed (List ℕ) → Outcome → Type 0
    R f r = Leaves g k IsGood (Word into) t x f (on r after)

    abbrev start : List FlatInstruction
    start = Constant t 0 ∷ []

    abbrev tail : List FlatInstruction
    tail = print.putting ++ counted_code into t

    -- what is shown in the end
    abbrev printed : List ℕ → Source → Source
    printed bytes y = record y { work = y.work + length bytes; output = y.output ++ bytes }

    given : (f f1 f3 : State) (bytes : List ℕ) (x' : Source) → IsFor g k IsGood x f → IsWorked x x'
        → IsAfterScans t 0 f f1 → HasPrinted bytes t w (effects c start f1) f3
        → R f (Gives bytes x') (Continues (effects c (counted_code into t) f3))
    given f f1 f3 bytes x' p worked scanned h =
        let f4 = effects c (counted_code into t) f3 in
        let memory : f3.memory ≡ f.memory = h.memory ∙ scanned.memory in
        let s = scanned.shows in let q = p.shown in
        let count : f3.values t ≡ length bytes % 2 ^ 64 =
        h.counted ∙ ap (λ z. (z + length bytes) % 2 ^ 64) (put_same f1.values t 0) ∙ omega arith in
        subst (λ y. HasGiven g k IsGood (Word into) t x f (integer (fit Int (length bytes))) (printed bytes y) f4)
        (sym worked.same)
        (record {
          keys = k;
          held = keeps_same x.objects k;
          stands = record {
            objects = subst (StandsFor g k x.objects) (sym memory) p.objects;
            spaces = good_still map IsGood f.memory f3.memory memory p.spaces;
            keys = p.keys;
            shown = record {
              input = h.input ∙ s.input ∙ q.input;
              output = h.output ∙ ap (λ o. o ++ bytes) (s.output ∙ q.output);
              taken = h.taken ∙ s.taken ∙ q.taken;
              accesses = h.accesses ∙ s.accesses ∙ q.accesses;
            };
          };
          given = put_same f3.values into (reg32_result Addw (low_word (f3.values t)) (low_word 0))
              ∙ ap (λ z. reg32_result Addw (low_word z) (low_word 0)) count
              ∙ int_by_word (length bytes % 2 ^ 64) ∙ int_of_count (length bytes);
          turns = h.turns ∙ s.turns;
          elsewhere = stays_same map x.objects f.memory f3.memory memory;
          others = λ r l none. put_other f3.values into _ r none.0 ∙ h.others r (omega arith)
              ((λ e. omega (arith, e)), tt)
              ∙ put_other f1.values t 0 r (λ e. omega (arith, e)) ∙ scanned.others r (omega arith);
        })

    -- behind the scans
    out : (code : List FlatInstruction) (pc : ℕ) (f f1 : State) (bytes : List ℕ) (x' : Source)
        → HasAt code pc (start ++ tail) → IsOfWords f1 → IsFor g k IsGood x f → IsWorked x x' → IsAfterScans t 0 f f1
        → IsPrintable map t ps hs vs 0 f1 bytes
        → Reaches c code (1 + ((16 * length ps + 15 * length bytes) + 1)) (Goes pc f1)
        (pc + 1 + length print.putting + 1)
        (R f (Gives bytes x'))
    out code pc f f1 bytes x' has words p worked scanned printable =
        let f2 = effects c start f1 in
        let rest = has_back code pc start tail has in
        line_on c code start ((16 * length ps + 15 * length bytes) + 1) pc f1 (pc + 1 + length print.putting + 1)
        (R f (Gives bytes x')) (tt, tt) (has_front code pc start tail has)
        (next c code (16 * length ps + 15 * length bytes) 1 (Goes (pc + 1) f2) (pc + 1 + length print.putting)
        (pc + 1 + length print.putting + 1) (HasPrinted bytes t w f2) Never (R f (Gives bytes x'))
        (quiet_words c start f1 (tt, tt) words)
        (runs_puts map mapped charge weight t w (omega arith) ps hs vs 0 print.putting print.puts room low bytes code
        (pc + 1) f2 (has_front code (pc + 1) print.putting (counted_code into t) rest)
        (quiet_words c start f1 (tt, tt) words)
        (printable_kept map t f1 f2 refl ps hs vs 0 w bytes
        (λ r l. put_other f1.values t 0 r (λ e. omega (arith, e)))
        (λ r l l'. put_other f1.values t 0 r (λ e. omega (arith, e))) room low printable))
        (λ f3 words3 h.
        weaken c code 1 1 (Goes (pc + 1 + length print.putting) f3) (pc + 1 + length print.putting + 1) _ _
        (omega arith)
        (by f3 h)
        (straight c code (counted_code into t) (pc + 1 + length print.putting) f3
        (λ z. z ≡ effects c (counted_code into t) f3) Never (tt, tt)
        (has_back code (pc + 1) print.putting (counted_code into t) rest) refl))
        (λ status report z never. absurd never))
      where
        by : (f3 : State) → HasPrinted bytes t w (effects c start f1) f3 → (o : Outcome)
            → Either (λ z. z ≡ effects c (counted_code into t) f3) Never o → R f (Gives bytes x') o
        by f3 h (Continues z) e =
            subst (λ y. R f (Gives bytes x') (Continues y)) (sym e) (given f f1 f3 bytes x' p worked scanned h)
        by f3 h (Halts status report z) never = absurd never

    -- by what was formatted
    from_formatted : (r : Completed (List ℕ)) (code : List FlatInstruction) (pc : ℕ) (f : State)
        → HasAt code pc (print.scanning ++ (start ++ tail)) → IsOfWords f → IsFor g k IsGood x f
        → Reaches c code (16 * length ps + 8 * ((state_of r).work - x.work)) (Goes pc f) (pc + length print.scanning)
        (IsFormatted map t ps hs vs 0 x f r)
        → Reaches c code (4 + 32 * length ps + 16 * ((state_of (on r after)).work - x.work)) (Goes pc f)
        (pc + length (print.scanning ++ (start ++ tail))) (R f r)
    from_formatted (Gives bytes x') code pc f has words p run =
        let a = 16 * length ps + 8 * (x'.work - x.work) in
        let b = 1 + ((16 * length ps + 15 * length bytes) + 1) in
        let middle = pc + length print.scanning in
        let end : middle + 1 + length print.putting + 1 ≡ pc + length (print.scanning ++ (start ++ tail)) =
        omega (arith, length-append print.scanning (start ++ tail), length-append print.putting (counted_code into t))
        in
        subst (λ e. Reaches c code (4 + 32 * length ps + 16 * (x'.work + length bytes - x.work)) (Goes pc f) e
        (R f (Gives bytes x'))) end
        (weaken c code (a + b) (4 + 32 * length ps + 16 * (x'.work + length bytes - x.work)) (Goes pc f)
        (middle + 1 + length print.putting + 1) _ _ (fits run.outcome run.holds) (λ o h. h)
        (next c code a b (Goes pc f) middle (middle + 1 + length print.putting + 1)
        (λ f1. IsWorked x x' × IsAfterScans t 0 f f1 × IsPrintable map t ps hs vs 0 f1 bytes) Never
        (R f (Gives bytes x'))
        words (weaken c code a a (Goes pc f) middle _ _ (omega arith) by run)
        (λ f1 words1 i.
        out code middle f f1 bytes x' (has_back code pc print.scanning (start ++ tail) has) words1 p i.0 i.1 i.2)
        (λ status report f1 never. absurd never)))
      where
        fits : (o : Outcome) → IsFormatted map t ps hs vs 0 x f (Gives bytes x') o
            → 16 * length ps + 8 * (x'.work - x.work) + (1 + ((16 * length ps + 15 * length bytes) + 1))
            ≤ 4 + 32 * length ps + 16 * (x'.work + length bytes - x.work)
        fits (Continues f1) h = let l = h.0.work in omega arith
        fits (Halts status report f1) h = absurd h

        by : (o : Outcome) → IsFormatted map t ps hs vs 0 x f (Gives bytes x') o
            → Either (λ f1. IsWorked x x' × IsAfterScans t 0 f f1 × IsPrintable map t ps hs vs 0 f1 bytes) Never o
        by (Continues f1) h = h
        by (Halts status report f1) h = h
    from_formatted (Ended e x') code pc f has words p run =
        let a = 16 * length ps + 8 * (x'.work - x.work) in
        weaken c code a (4 + 32 * length ps + 16 * (x'.work - x.work)) (Goes pc f)
        (pc + length (print.scanning ++ (start ++ tail))) _ _ (omega arith) (λ o h. h)
        (ends_there c code a (Goes pc f) (pc + length print.scanning) (pc + length (print.scanning ++ (start ++ tail)))
        (IsFormatted map t ps hs vs 0 x f (Ended e x')) (R f (Ended e x')) run (λ f1 never. never)
        (λ status report f1 h.
        subst (λ y. HasEnded map e y status report f f1) (sym h.2.same)
        (ended_still e x x'.work status report f f1 p.shown h.3.shows (unwritten_same h.3.memory) h.0 h.1)))
    from_formatted (Paused x') code pc f has words p run = absurd run.holds

  pub prints : (print : IsPrintCode basis line ps hs into t w code_of_it) (format : List ℕ) → pieces format ≡ Some ps
      → IsAction basis (λ vs. print_formatted format vs line) hs (Word into) t (4 + 32 * length ps) 16 code_of_it
  prints print format is functions types k x vs charge weight =
      subst (λ qs. Does (context_in basis charge weight) code_of_it
      (λ f. IsFor (views_of map functions types entry) k IsGood x f
      × AreHeldBy (views_of map functions types entry) k x.objects hs vs f.values × Unit {0})
      (λ f. 4 + 32 * length ps
      + 16 * ((state_of (on (formatted qs vs line x)
      (λ bytes. put_bytes bytes >> done (integer (fit Int (length bytes)))))).work - x.work))
      (λ f. Leaves (views_of map functions types entry) k IsGood (Word into) t x f
      (on (formatted qs vs line x) (λ bytes. put_bytes bytes >> done (integer (fit Int (length bytes)))))))
      (sym (ap pieces_or_none is))
      (record {
        from = λ code pc f has words p.
            subst (λ z. Reaches (context_in basis charge weight) code
            (4 + 32 * length ps + 16 * ((state_of (on (formatted ps vs line x)
            (λ bytes. put_bytes bytes >> done (integer (fit Int (length bytes)))))).work - x.work)) (Goes pc f)
            (pc + length z)
            (Leaves (views_of map functions types entry) k IsGood (Word into) t x f
            (on (formatted ps vs line x) (λ bytes. put_bytes bytes >> done (integer (fit Int (length bytes)))))))
            (sym print.code_is)
            (from_formatted print functions types k x vs charge weight (formatted ps vs line x) code pc f
            (subst (HasAt code pc) print.code_is has) words p.0
            (runs_scans basis line t w functions types k charge weight ps hs vs 0 print.scanning print.scans room low x
            code pc f (has_front code pc print.scanning _ (subst (HasAt code pc) print.code_is has)) words p.0 p.1));
      })
