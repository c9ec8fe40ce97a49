-- All strings of a format are scanned.
use Rattle.std.proofs.Common.{◌≡◌, ◌≢◌, ℕ, ◌+◌, ◌-◌, ◌*◌, ◌<◌, ◌≤◌, List, [], ◌∷◌, ◌++◌, length}
use Rattle.std.proofs.Common.{length-append, get_or, drop, refl, sym, ap, ◌∙◌, subst, arith}
use Rattle.sb_base.specs.declared.ending.Ending.TheVariants.{Spatial}
use Rattle.sb_base.specs.Endings.{code_of, report_of}
use Rattle.addr_map.specs.Places.{MapSizes}
use Rattle.obj_memory.specs.declared.value.Value.{Value}
use Rattle.c_tree.specs.declared.format.Directive.{Directive}
use Rattle.c_tree.specs.declared.format.Directive.TheVariants as directive
use Rattle.c_tree.specs.declared.format.Piece.{Piece}
use Rattle.c_tree.specs.declared.format.Piece.TheVariants as piece
use Rattle.source_meaning.specs.State.{State as Source, Outcome as Completed, Gives, Ended, Paused, Run, on, ◌>>=◌}
use Rattle.source_meaning.specs.State.{done, stop}
use Rattle.source_meaning.specs.Acting.{state_of}
use Rattle.source_meaning.specs.Actions.{integer}
use Rattle.source_meaning.specs.Strings.{scan}
use Rattle.source_meaning.specs.Printing.{argument_bytes, formatted}
use Rattle.flat_code.specs.declared.instruction.FlatInstruction.{FlatInstruction}
use Rattle.flat_code.specs.State.{State}
use Rattle.flat_code.specs.Words.{IsOfWords}
use Rattle.flat_code.specs.Meaning.{Context, Goes}
use Rattle.flat_code.specs.declared.registers.Held.{Held}
use Rattle.flat_code.specs.Routines.Registers.{AreBelow}
use Rattle.flat_code.specs.Routines.Routine.{HasAt, Outcome, Continues, Halts, Reaches}
use Rattle.flat_code.specs.Routines.Metadata.{ShowsNothing, held_registers}
use Rattle.flat_code.proofs.Routines.Steps.{has_front, has_back}
use Rattle.flat_code.proofs.Routines.Rules.{weaken, next, arrived}
use Rattle.flat_code.proofs.Routines.Showing.{shows_both}
use Rattle.flat_code.specs.Routines.Objects.StandsFor.{Views, Keys}
use Rattle.flat_code.proofs.Routines.Spaces.Quiet.{shows_itself}
use Rattle.flat_actions.specs.Actions.{ChangesNothing}
use Rattle.flat_actions.proofs.Standing.{nothing_then}
use Rattle.flat_actions.specs.Actions.{Basis, context_in, views_of, IsFor, Holder, Nowhere, Word, Pointer}
use Rattle.flat_actions.specs.Actions.{registers_of}
use Rattle.flat_actions.specs.Actions.{IsHeldBy, AreHeldBy, work_of}
use Rattle.flat_actions.specs.Scanning.{IsWorked, IsScanRoutine}
use Rattle.flat_actions.proofs.Standing.{for_still, for_worked, held_still, none_of_none, AreAllBelow}
use Rattle.lib_wrappers.proofs.StringRoutines.Between.{scan_between, range_of}
use Rattle.lib_wrappers.proofs.StringRoutines.AfterScan.{after_scan}
use Rattle.lib_wrappers.specs.PrintingRoutines.Numbers.{number_bytes}
use Rattle.lib_wrappers.specs.PrintingRoutines.Formats.{cursor_of, AreScans}
use Rattle.lib_wrappers.proofs.PrintingRoutines.Printable.{IsPrintableBy, IsPrintable, directive_count, by_kept}
use Rattle.lib_wrappers.proofs.StringRoutines.Looking.{scan_works}
use Rattle.lib_wrappers.proofs.StringRoutines.ScanLoop.{no_work}

-- an argument that is no string has its bytes at once
pub number_done : (d : Directive) (v : Value) (line : ℕ) → d ≢ directive.String
    → argument_bytes d v line ≡ done (number_bytes d v.word)
number_done directive.Int v line ne = refl
number_done directive.UnsignedInt v line ne = refl
number_done directive.Hexadecimal v line ne = refl
number_done directive.Character v line ne = refl
number_done directive.Long v line ne = refl
number_done directive.UnsignedLong v line ne = refl
number_done directive.String v line ne = absurd (ne refl)

-- what the scans leave
pub record IsAfterScans (t i : ℕ) (f f' : State) : Type 0 where
  pub memory : f'.memory ≡ f.memory
  pub shows : ShowsNothing f f'
  pub others : (r : ℕ) → r < cursor_of t i → f'.values r ≡ f.values r

abbrev pub IsFormatted : MapSizes → (scratch : ℕ) → List Piece → List Holder → List Value → (i : ℕ) → Source → State
    → Completed (List ℕ) → Outcome → Type 0
IsFormatted m t ps hs vs i x f (Gives bytes x') (Continues f') =
    IsWorked x x' × IsAfterScans t i f f' × IsPrintable m t ps hs vs i f' bytes
IsFormatted m t ps hs vs i x f (Ended e x') (Halts status report f') =
    (status ≡ code_of e) × (report ≡ report_of e) × IsWorked x x' × ChangesNothing f f'
IsFormatted m t ps hs vs i x f (Gives bytes x') (Halts status report f') = ⊥
IsFormatted m t ps hs vs i x f (Ended e x') (Continues f') = ⊥
IsFormatted m t ps hs vs i x f (Paused x') o = ⊥

worked_both : (x x1 x2 : Source) → IsWorked x x1 → IsWorked x1 x2 → IsWorked x x2
worked_both x x1 x2 h k = record {
  work = (let a = h.work in let b = k.work in omega arith);
  same = k.same ∙ ap {A = Source} {B = Source} (λ z. record z { work = x2.work }) h.same;
}

-- the bytes before those of the rest
abbrev before : (first : List ℕ) → Completed (List ℕ) → Completed (List ℕ)
before first r = on r (λ others. done (first ++ others))

-- ---- work is not taken back

same_work : {A B : Type 0} (o : Completed A) (f : A → B)
    → (state_of (on o (λ a. done (f a)))).work ≡ (state_of o).work
same_work (Gives a x) f = refl
same_work (Ended e x) f = refl
same_work (Paused x) f = refl

argument_later : (d : Directive) (v : Value) (line : ℕ) (x : Source)
    → x.work ≤ (state_of (argument_bytes d v line x)).work
argument_later directive.Int v line x = omega arith
argument_later directive.UnsignedInt v line x = omega arith
argument_later directive.Hexadecimal v line x = omega arith
argument_later directive.Character v line x = omega arith
argument_later directive.Long v line x = omega arith
argument_later directive.UnsignedLong v line x = omega arith
argument_later directive.String v line x = scan_works x v line

then_later : {A B : Type 0} (o : Completed A) (next : A → Run B) (n : ℕ) → n ≤ (state_of o).work
    → ((a : A) (x : Source) → n ≤ x.work → n ≤ (state_of (next a x)).work) → n ≤ (state_of (on o next)).work
then_later (Gives a x) next n l h = h a x l
then_later (Ended e x) next n l h = l
then_later (Paused x) next n l h = l

pub formatted_later : (ps : List Piece) (vs : List Value) (line : ℕ) (x : Source)
    → x.work ≤ (state_of (formatted ps vs line x)).work
formatted_later [] vs line x = omega arith
formatted_later (piece.Byte b ∷ ps) vs line x =
    let l = formatted_later ps vs line x in
    let e = same_work (formatted ps vs line x) (λ others. b ∷ others) in omega arith
formatted_later (piece.Directive d ∷ ps) vs line x =
    then_later (argument_bytes d (get_or vs 0 (integer 0)) line x)
    (λ bytes. formatted ps (drop 1 vs) line >>= (λ others. done (bytes ++ others))) x.work
    (argument_later d (get_or vs 0 (integer 0)) line x)
    (λ bytes y le. (let l = formatted_later ps (drop 1 vs) line y in
    let e = same_work (formatted ps (drop 1 vs) line y) (λ others. bytes ++ others) in omega arith))

-- ---- arguments that are held on

pub all_held_still : (g : Views) (k : Keys) (x x' : Source) (hs : List Holder) (vs : List Value) (t : ℕ) (f f' : State)
    → x'.objects ≡ x.objects → ((r : ℕ) → r < t → f'.values r ≡ f.values r) → AreAllBelow t hs
    → AreHeldBy g k x.objects hs vs f.values → AreHeldBy g k x'.objects hs vs f'.values
all_held_still g k x x' [] [] t f f' same stay low h = tt
all_held_still g k x x' (h ∷ hs) (v ∷ vs) t f f' same stay low held = (
  subst (λ o. IsHeldBy g k o h v f'.values) (sym same)
      (held_still g k x.objects h v [] t f f' (λ r l none. stay r l) low.0 (none_of_none (registers_of h)) held.0),
  all_held_still g k x x' hs vs t f f' same stay low.1 held.1,
)
all_held_still g k x x' [] (v ∷ vs) t f f' same stay low h = absurd h
all_held_still g k x x' (h ∷ hs) [] t f f' same stay low held = absurd held

-- ---- all scans

module _ (basis : Basis) (line t w : ℕ) (functions : ℕ) (types : ℕ → ℕ) (k : Keys) (charge weight : ℕ) where
  abbrev g : Views
  g = views_of basis.map functions types basis.entry

  abbrev c : Context
  c = context_in basis charge weight

  abbrev bound : List Piece → List Value → Source → ℕ
  bound ps vs x = 16 * length ps + 8 * work_of (formatted ps vs line) x

  abbrev Runs : List Piece → List Holder → List Value → (i : ℕ) → List FlatInstruction → Type 0
  Runs ps hs vs i seg =
      (x : Source) (code : List FlatInstruction) (pc : ℕ) (f : State) → HasAt code pc seg → IsOfWords f
      → IsFor g k basis.IsGood x f → AreHeldBy g k x.objects hs vs f.values
      → Reaches c code (bound ps vs x) (Goes pc f) (pc + length seg)
      (IsFormatted basis.map t ps hs vs i x f (formatted ps vs line x))

  -- a byte is put before what is formatted
  with_byte : (b : ℕ) (ps : List Piece) (hs : List Holder) (vs : List Value) (i : ℕ) (x : Source) (f : State)
      (r : Completed (List ℕ)) (o : Outcome) → IsFormatted basis.map t ps hs vs i x f r o
      → IsFormatted basis.map t (piece.Byte b ∷ ps) hs vs i x f (on r (λ others. done (b ∷ others))) o
  with_byte b ps hs vs i x f (Gives bytes x') (Continues f') h = (h.0, h.1, (bytes, refl, h.2))
  with_byte b ps hs vs i x f (Ended e x') (Halts status report f') h = h
  with_byte b ps hs vs i x f (Gives bytes x') (Halts status report f') h = h
  with_byte b ps hs vs i x f (Ended e x') (Continues f') h = h
  with_byte b ps hs vs i x f (Paused x') o h = h

  -- and the bytes of an argument, which may have been scanned before
  with_argument : (d : Directive) (h : Holder) (v : Value) (first : List ℕ) (ps : List Piece) (hs : List Holder)
      (vs : List Value) (i : ℕ) (x y : Source) (f f1 : State) (r : Completed (List ℕ)) (o : Outcome) → IsWorked x y
      → IsAfterScans t i f f1 → AreBelow t (registers_of h)
      → IsPrintableBy basis.map d h v (cursor_of t i) f1 first
      → IsFormatted basis.map t ps hs vs (i + 1) y f1 r o
      → IsFormatted basis.map t (piece.Directive d ∷ ps) (h ∷ hs) (v ∷ vs) i x f
      (on r (λ others. done (first ++ others))) o
  with_argument d h v first ps hs vs i x y f f1 (Gives bytes x') (Continues f') worked after low by q = (
    worked_both x y x' worked q.0,
    record {
      memory = q.1.memory ∙ after.memory;
      shows = shows_both f f1 f' after.shows q.1.shows;
      others = λ r l. q.1.others r (omega arith) ∙ after.others r l;
    },
    (
      first,
      bytes,
      refl,
      by_kept basis.map t f1 f' q.1.memory d h v (cursor_of t i) first
          (λ r l. q.1.others r (omega arith)) (q.1.others (cursor_of t i) (omega arith)) low by,
      q.2,
    ),
  )
  with_argument d h v first ps hs vs i x y f f1 (Ended e x') (Halts status report f') worked after low by q =
      (q.0, q.1, worked_both x y x' worked q.2, nothing_then (record { memory = after.memory; shows = after.shows }) q.3)
  with_argument d h v first ps hs vs i x y f f1 (Gives bytes x') (Halts status report f') worked after low by q = q
  with_argument d h v first ps hs vs i x y f f1 (Ended e x') (Continues f') worked after low by q = q
  with_argument d h v first ps hs vs i x y f f1 (Paused x') o worked after low by q = q

  self_after : (i : ℕ) (f : State) → IsAfterScans t i f f
  self_after i f = record { memory = refl; shows = shows_itself f; others = λ r l. refl }

  -- nothing is left
  runs_none : (hs : List Holder) (vs : List Value) (i : ℕ) → Runs [] hs vs i []
  runs_none hs vs i x code pc f has words p held =
      arrived c code (bound [] vs x) f pc (pc + 0)
      (IsFormatted basis.map t [] hs vs i x f (Gives [] x)) (omega arith) (no_work x, self_after i f, refl)

  runs_byte : (b : ℕ) (ps : List Piece) (hs : List Holder) (vs : List Value) (i : ℕ) (seg : List FlatInstruction)
      → Runs ps hs vs i seg → Runs (piece.Byte b ∷ ps) hs vs i seg
  runs_byte b ps hs vs i seg run x code pc f has words p held =
      let e = same_work (formatted ps vs line x) (λ others. b ∷ others) in
      weaken c code (bound ps vs x) (bound (piece.Byte b ∷ ps) vs x) (Goes pc f) (pc + length seg) _ _ (omega arith)
      (λ o h. with_byte b ps hs vs i x f (formatted ps vs line x) o h) (run x code pc f has words p held)

  -- an argument in one register
  runs_number : (d : Directive) (r : ℕ) (v : Value) (ps : List Piece) (hs : List Holder) (vs : List Value) (i : ℕ)
      (seg : List FlatInstruction) → d ≢ directive.String → AreBelow t (r ∷ []) → Runs ps hs vs (i + 1) seg
      → Runs (piece.Directive d ∷ ps) (Word r ∷ hs) (v ∷ vs) i seg
  runs_number d r v ps hs vs i seg ne low run x code pc f has words p held =
      let is = ap (λ (q : Run (List ℕ)). on (q x) (λ bytes. formatted ps vs line
      >>= (λ others. done (bytes ++ others))))
      (number_done d v line ne) in
      let e = same_work (formatted ps vs line x) (λ others. number_bytes d v.word ++ others) in
      let z = ap (λ o. (state_of o).work) is in
      weaken c code (bound ps vs x) (bound (piece.Directive d ∷ ps) (v ∷ vs) x) (Goes pc f) (pc + length seg) _ _
      (omega arith)
      (λ o h.
      subst (λ q. IsFormatted basis.map t (piece.Directive d ∷ ps) (Word r ∷ hs) (v ∷ vs) i x f q o) (sym is)
      (with_argument d (Word r) v (number_bytes d v.word) ps hs vs i x x f f (formatted ps vs line x) o (no_work x)
      (self_after i f) low (held.0, refl) h))
      (run x code pc f has words p held.1)

  -- a string
  runs_string : (h : Held) (v : Value) (ps : List Piece) (hs : List Holder) (vs : List Value) (i : ℕ)
      (first rest : List FlatInstruction) → cursor_of t i < w → AreBelow t (held_registers h) → AreAllBelow t hs
      → IsScanRoutine basis (λ v. scan v line) h (λ f. Unit {0}) (cursor_of t i) w first → Runs ps hs vs (i + 1) rest
      → Runs (piece.Directive directive.String ∷ ps) (Pointer h ∷ hs) (v ∷ vs) i (first ++ rest)
  runs_string h v ps hs vs i first rest room low lows scans run x code pc f has words p held =
      let all = piece.Directive directive.String ∷ ps in
      let R = IsFormatted basis.map t all (Pointer h ∷ hs) (v ∷ vs) i x f (formatted all (v ∷ vs) line x) in
      let middle = pc + length first in
      let len : pc + length first + length rest ≡ pc + length (first ++ rest) = omega (arith, length-append first rest)
      in
      after_scan c code (16 + 8 * work_of (scan v line) x) (bound all (v ∷ vs) x)
      (λ bytes y. bound ps vs y) pc middle (pc + length (first ++ rest)) f v.word (cursor_of t i) w x (scan v line x) R
      words
      ((scans functions types k x v charge weight).from code pc f (has_front code pc first rest has) words
      (p, held.0, tt))
      (λ e y is worked. (
        (let one = ap (λ r. (state_of r).work - x.work) is in
            let two = ap (λ r. (state_of (on r next)).work - x.work) is in omega (arith, one, two)),
        λ f' shows. subst (λ r. IsFormatted basis.map t all (Pointer h ∷ hs) (v ∷ vs) i x f (on r next)
            (Halts (code_of e) (report_of e) f')) (sym is) (refl, refl, worked, shows),
      ))
      (λ bytes y is more.
      let one = ap (λ r. (state_of r).work - x.work) is in
      let two = ap (λ r. (state_of (on r next)).work - x.work) is in
      let three = same_work (formatted ps vs line y) (λ others. bytes ++ others) in
      let later = formatted_later ps vs line y in
      omega (arith, one, two, three, later))
      (λ bytes y is f1 words1 worked scanned.
      let stay : (r : ℕ) → r < cursor_of t i → f1.values r ≡ f.values r =
      λ r l. scanned.others r (omega arith) ((λ e. omega (arith, e, l)), tt) in
      let same : y.objects ≡ x.objects = ap (λ z. z.objects) worked.same in
      let word : f.values h.value ≡ v.word = held.0.0.word in
      let range = range_of g k (stop (Spatial line)) x.objects v (length bytes) f.memory p.objects held.0.1
      (scan_between functions line x v bytes y p.objects.sound held.0.1 is) in
      let stands : IsFor g k basis.IsGood y f1 =
      subst (λ z. IsFor g k basis.IsGood z f1) (sym worked.same)
      (for_worked g k basis.IsGood x y.work f1
      (for_still g k basis.IsGood x f f1 scanned.memory scanned.shows p)) in
      subst (λ r. Reaches c code (bound ps vs y) (Goes middle f1) (pc + length (first ++ rest))
      (IsFormatted basis.map t all (Pointer h ∷ hs) (v ∷ vs) i x f (on r next))) (sym is)
      (subst (λ e. Reaches c code (bound ps vs y) (Goes middle f1) e
      (IsFormatted basis.map t all (Pointer h ∷ hs) (v ∷ vs) i x f (next bytes y))) len
      (weaken c code (bound ps vs y) (bound ps vs y) (Goes middle f1) (middle + length rest) _ _ (omega arith)
      (λ o q. with_argument directive.String (Pointer h) v bytes ps hs vs i x y f f1 (formatted ps vs line y) o worked
      (record { memory = scanned.memory; shows = scanned.shows; others = stay }) low (record {
        word = stay h.value (omega (arith, low.0)) ∙ word;
        cursor_is = scanned.cursor_is;
        range = record { first = range.first; last = range.last };
        there = λ j l. ap (λ b. b (v.word + j)) scanned.memory ∙ scanned.there j l;
      }) q)
      (run y code middle f1 (has_back code pc first rest has) words1 stands
      (all_held_still g k x y hs vs t f f1 same (λ r l. stay r (omega arith)) lows held.1)))))
    where
      next : List ℕ → Run (List ℕ)
      next bytes = formatted ps vs line >>= (λ others. done (bytes ++ others))

  -- all pieces
  pub runs_scans : (ps : List Piece) (hs : List Holder) (vs : List Value) (i : ℕ) (seg : List FlatInstruction)
      → AreScans basis line t w ps hs i seg → cursor_of t i + directive_count ps ≤ w → AreAllBelow t hs
      → Runs ps hs vs i seg
  runs_scans [] hs vs i seg scans room low = subst (Runs [] hs vs i) (sym scans) (runs_none hs vs i)
  runs_scans (piece.Byte b ∷ ps) hs vs i seg scans room low =
      runs_byte b ps hs vs i seg (runs_scans ps hs vs i seg scans room low)
  runs_scans (piece.Directive d ∷ ps) [] vs i seg scans room low = absurd scans
  runs_scans (piece.Directive d ∷ ps) (h ∷ hs) [] i seg scans room low = λ x code pc f has words p held. absurd held
  runs_scans (piece.Directive d ∷ ps) (Nowhere ∷ hs) (v ∷ vs) i seg scans room low = absurd scans.3
  runs_scans (piece.Directive d ∷ ps) (Word r ∷ hs) (v ∷ vs) i seg scans room low =
      let rest = runs_scans ps hs vs (i + 1) scans.1 scans.4 (omega arith) low.1 in
      subst (Runs (piece.Directive d ∷ ps) (Word r ∷ hs) (v ∷ vs) i)
      (sym (scans.2 ∙ ap (λ z. z ++ scans.1) scans.3.1))
      (runs_number d r v ps hs vs i scans.1 scans.3.0 low.0 rest)
  runs_scans (piece.Directive d ∷ ps) (Pointer h ∷ hs) (v ∷ vs) i seg scans room low =
      let rest = runs_scans ps hs vs (i + 1) scans.1 scans.4 (omega arith) low.1 in
      subst (λ z. Runs (piece.Directive z ∷ ps) (Pointer h ∷ hs) (v ∷ vs) i seg) (sym scans.3.0)
      (subst (Runs (piece.Directive directive.String ∷ ps) (Pointer h ∷ hs) (v ∷ vs) i) (sym scans.2)
      (runs_string h v ps hs vs i scans.0 scans.1 (omega arith) low.0 low.1 scans.3.1 rest))
