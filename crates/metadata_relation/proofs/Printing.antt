-- `printf` with a format known at compile time: all strings are scanned, then all is put out, and the count is the result.
use Rattle.std.proofs.Common.{◌≡◌, ◌⊎◌, inl, inr, ℕ, zero, suc, ◌+◌, ◌-◌, ◌*◌, ◌%◌, ◌^◌, ◌<◌, ◌≤◌, true, List, []}
use Rattle.std.proofs.Common.{◌∷◌, ◌++◌, length, length-append, append_assoc, append-nil, Option, Some, None, refl, sym}
use Rattle.std.proofs.Common.{ap, ◌∙◌, subst, arith, le-leb, lt-ltb, ltb-true}
use Rattle.std.proofs.lemmas.Bool.{and_from, and_parts, false≢true}
use Rattle.std.specs.Prelude.{nat_le, nat_lt, slice_get}
use Rattle.sb_base.specs.declared.ending.Ending.{Ending}
use Rattle.sb_base.specs.Endings.{code_of, report_of}
use Rattle.addr_map.specs.Places.{MapSizes}
use Rattle.words.specs.TwosComplement.{sign_extended}
use Rattle.rv_isa.specs.declared.instruction.RegOp32.TheVariants.{Addw}
use Rattle.rv_isa.specs.Results.{low_word, reg32_result}
use Rattle.obj_memory.specs.declared.int_type.IntType.TheVariants.{Int}
use Rattle.obj_memory.specs.declared.value.Value.{Value}
use Rattle.obj_memory.specs.Integers.{fit}
use Rattle.c_tree.specs.declared.format.Directive.{Directive}
use Rattle.c_tree.specs.declared.format.Directive.TheVariants as directive
use Rattle.c_tree.specs.declared.format.Piece.{Piece}
use Rattle.c_tree.specs.declared.format.Piece.TheVariants as piece
use Rattle.c_tree.specs.Format.{directives, pieces}
use Rattle.source_meaning.specs.State.{done, Ended, Gives, on, Outcome, Paused, State, ◌>>◌, ◌>>=◌}
use Rattle.source_meaning.specs.Actions.{integer, put_bytes}
use Rattle.source_meaning.specs.Printing.{formatted, pieces_or_none}
use Rattle.source_meaning.specs.Strings.{scan}
use Rattle.source_meaning.specs.Structures.{give, rvalue, values_of}
use Rattle.tac_ir.specs.declared.instruction.Instruction.{Instruction}
use Rattle.tac_ir.specs.declared.instruction.Instruction.TheVariants as tac
use Rattle.tac_ir.specs.Costs.{fourfold, spent}
use Rattle.tac_ir.specs.Fitting.{are_printed, each_printed, is_printed}
use Rattle.tac_ir.specs.Meaning.{effect, given_in, text_in}
use Rattle.tac_ir.specs.Stage.{came, Frame, gathered, Over, Stage, Stands, Temps, with_temp}
use Rattle.flat_code.specs.declared.instruction.RightOperand.TheVariants.{Number, Register}
use Rattle.flat_code.specs.declared.instruction.FlatInstruction.{FlatInstruction}
use Rattle.flat_code.specs.declared.instruction.FlatInstruction.TheVariants.{Call, Constant, Operate, Operate32}
use Rattle.flat_code.specs.declared.function.FlatProgram.{FlatProgram}
use Rattle.flat_code.specs.Calls.{function_in}
use Rattle.flat_code.specs.Meaning.{body_of, weight_of}
use Rattle.flat_code.specs.Memory.{Bytes, load, put}
use Rattle.flat_code.specs.State as flat
use Rattle.flat_code.specs.Words.{HasWords}
use Rattle.flat_code.proofs.Stored.{put_other, put_same}
use Rattle.flat_code.specs.Routines.Routine.{HasAt}
use Rattle.flat_code.proofs.Routines.Steps.{has_back, has_front}
use Rattle.flat_operators.proofs.Values.{int_by_word}
use Rattle.flat_actions.specs.Scanning.{IsWorked}
use Rattle.flat_actions.proofs.Standing.{for_worked}
use Rattle.rv_isa.specs.declared.instruction.RegOp.TheVariants.{Add}
use Rattle.lib_wrappers.specs.PrintingRoutines.Formats.{byte_code, counted_code}
use Rattle.lib_wrappers.specs.PrintingRoutines.Numbers.{number_bytes}
use Rattle.lib_wrappers.proofs.PrintingRoutines.Scans.{number_done}
use Rattle.runtime_functions.specs.Printing.{AreBytesAt}
use Rattle.metadata_plan.specs.Expanded.{Leads}
use Rattle.metadata_plan.specs.Registers.{most_temporaries}
use Rattle.metadata_plan.proofs.Flat.{constant_comes, one, weight_small}
use Rattle.metadata_relation.specs.Blocks.{runtime_number, status_code, top_cell, untagged}
use Rattle.metadata_relation.specs.Holding.{GoesOn, IsHeldAt}
use Rattle.metadata_relation.specs.Printing.{directive_place, end_register, put_argument, put_pieces}
use Rattle.metadata_relation.specs.Printing.{scan_argument, scan_pieces, scan_place, scan_statuses, string_register}
use Rattle.metadata_relation.specs.Registers.{first_free, temporary_register}
use Rattle.metadata_relation.specs.Scopes.{context_at}
use Rattle.metadata_relation.specs.Stages.{Compiled, expansion_of, IsAt, map_of, names, views, world}
use Rattle.metadata_relation.specs.Steps.{have_bytes, IsCompiled}
use Rattle.metadata_relation.proofs.Acting.{acts_called, behind_action, HasActed, reached_next}
use Rattle.metadata_relation.proofs.Assigning.{assigned}
use Rattle.metadata_relation.proofs.Finishing.{acted_as, ends_with, integer_cleared, untagged_few}
use Rattle.metadata_relation.proofs.Holding.{same_world}
use Rattle.metadata_relation.proofs.Pointers.{operand}
use Rattle.metadata_relation.proofs.PrintParts.{byte_put, HasPutOut, HasStopped, IsSoFar, number_put, scanned}
use Rattle.metadata_relation.proofs.PrintParts.{ScanLeaves, set, string_put}
use Rattle.metadata_relation.proofs.PrintScans.{scan_by, ScansBy}
use Rattle.metadata_relation.proofs.Registers.{temporary_free}
use Rattle.metadata_relation.proofs.Standing.{ends, good_now, IsNode, leaves_same, node, Result}

-- a count that wrapped at 64 bits is the same int
int_of_count : (n : ℕ) → fit Int (n % 2 ^ 64) ≡ fit Int n
unfolding fit
int_of_count n =
    let e : n % 2 ^ 64 % 2 ^ 32 ≡ n % 2 ^ 32 = omega arith in
    ap (sign_extended 32 64) e

is_string : (d : Directive) → (d ≡ directive.String) ⊎ (d ≡ directive.String → ⊥)
is_string directive.String = inl refl
is_string d = inr (λ e. cc)

-- there are as many directives as arguments
printed_length : (ds : List Directive) (temps : Temps) (i k : ℕ) → each_printed ds (gathered temps i k) ≡ true
    → length ds ≡ k
printed_length [] temps i zero e = refl
printed_length [] temps i (suc k) e = absurd (false≢true e)
printed_length (d ∷ ds) temps i zero e = absurd (false≢true e)
printed_length (d ∷ ds) temps i (suc k) e =
    ap suc (printed_length ds temps (i + 1) k
    (and_parts (is_printed d (temps i)) (each_printed ds (gathered temps (i + 1) k)) e).1)

each_of : (o : Option (List Piece)) (temps : Temps) (i k : ℕ) → are_printed o (gathered temps i k) ≡ true
    → each_printed (directives (pieces_or_none o)) (gathered temps i k) ≡ true
each_of None temps i k e = absurd (false≢true e)
each_of (Some ps) temps i k e = e

module _ (c : Compiled) (IsGood : Bytes → Type 0) (right : IsCompiled c IsGood) (u n : ℕ) (temps : Temps)
    (ws : List Frame) (s : State) (v : flat.State) (xs : List flat.Frame)
    (h : IsAt c IsGood u n temps ws s u (c.layout.address u n) v xs)
    (words : HasWords (flat.Stands u (c.layout.address u n) v xs)) where
  abbrev pc : ℕ
  pc = c.layout.address u n

  abbrev m : MapSizes
  m = map_of c

  abbrev p : FlatProgram
  p = c.layout.program

  abbrev body : List FlatInstruction
  body = body_of (function_in c.layout.program u)

  abbrev number : (place : ℕ) → ℕ
  number k = runtime_number c.layout.expansion.code k

  abbrev free : ℕ
  free = first_free h.code

  abbrev T : (temporary : ℕ) → ℕ
  T i = temporary_register h.code i

  abbrev Follows : Stage → Type 0
  Follows a = Result c IsGood a (flat.Stands u (c.layout.address u n) v xs)

  abbrev So : (output : List ℕ) (q : ℕ) (y : flat.State) (most : ℕ) → Type 0
  So = IsSoFar c IsGood right u n temps ws s v xs h words

  abbrev Stops : (e : Ending) (output : List ℕ) (most : ℕ) → Type 0
  Stops = HasStopped c IsGood right u n temps ws s v xs h words

  abbrev PutOut : (output : List ℕ) (done q most first : ℕ) (y : flat.State) → Type 0
  PutOut = HasPutOut c IsGood right u n temps ws s v xs h words

  more : (o : List ℕ) (q : ℕ) (y : flat.State) (a b : ℕ) → a ≤ b → So o q y a → So o q y b
  more o q y a b le f =
      let few = f.come.few in
      record {
        come = record { steps = f.come.steps; comes = f.come.comes; few = omega arith };
        stands = f.stands;
        memory = f.memory;
        turns = f.turns;
        same = f.same;
      }

  stops_within : (e : Ending) (o : List ℕ) (a b : ℕ) → a ≤ b → Stops e o a → Stops e o b
  stops_within e o a b le f =
      let few = f.few in
      record {
        steps = f.steps;
        state = f.state;
        comes = f.comes;
        shows = f.shows;
        turns = f.turns;
        few = omega arith;
        some = f.some;
      }

  -- ---- what is ready to be put out

  abbrev IsReadyFor : Directive → (i : ℕ) → flat.Values → List ℕ → Type 0
  IsReadyFor directive.String i values bytes =
      (values (end_register h.code i) ≡ (temps i).value.word + length bytes)
      × AreBytesAt (map_of c) v.memory (temps i).value.word bytes
  IsReadyFor d i values bytes = bytes ≡ number_bytes d (temps i).value.word

  abbrev AreReady : List Piece → (i : ℕ) → flat.Values → List ℕ → Type 0
  AreReady [] i values bytes = bytes ≡ []
  AreReady (piece.Byte b ∷ ps) i values bytes = (rest : List ℕ) × (bytes ≡ b ∷ rest) × AreReady ps i values rest
  AreReady (piece.Directive d ∷ ps) i values bytes =
      (first rest : List ℕ) × (bytes ≡ first ++ rest) × (i < most_temporaries h.code.code) × IsReadyFor d i values first
      × AreReady ps (i + 1) values rest

  argument_kept : (d : Directive) (i : ℕ) (values after : flat.Values) (bytes : List ℕ)
      → after (end_register h.code i) ≡ values (end_register h.code i) → IsReadyFor d i values bytes
      → IsReadyFor d i after bytes
  argument_kept directive.String i values after bytes same r = (same ∙ r.0, r.1)
  argument_kept d i values after bytes same r = r

  ready_kept : (ps : List Piece) (i : ℕ) (values after : flat.Values) (bytes : List ℕ)
      → ((r : ℕ) → end_register h.code i ≤ r → r < first_free h.code → after r ≡ values r)
      → AreReady ps i values bytes → AreReady ps i after bytes
  ready_kept [] i values after bytes same r = r
  ready_kept (piece.Byte b ∷ ps) i values after bytes same r =
      (r.0, r.1, ready_kept ps i values after r.0 same r.2)
  ready_kept (piece.Directive d ∷ ps) i values after bytes same r =
      let low = r.3 in (
        r.0,
        r.1,
        r.2,
        r.3,
        argument_kept d i values after r.0 (same (end_register h.code i) (omega arith) (omega (arith, low))) r.4,
        ready_kept ps (i + 1) values after r.1 (λ q from lt. same q (omega (arith, from)) lt) r.5,
      )

  module _ (text line d count next : ℕ)
      (at : slice_get h.code.code n ≡ Some (tac.Print text line d count next)) where
    abbrev label : Instruction
    label = tac.Print text line d count next

    nd : IsNode c u n h.code (tac.Print text line d count next)
    nd = node c IsGood right u n temps ws s v xs h (tac.Print text line d count next) at

    abbrev tests : (register : ℕ) → List FlatInstruction
    tests r = status_code r line scan_statuses

    abbrev scans : List Piece → (temporary : ℕ) → List FlatInstruction
    scans ps i = scan_pieces (λ k. runtime_number c.layout.expansion.code k) (λ r. status_code r line scan_statuses) h.code ps i

    held_at : (i : ℕ) → d ≤ i → i < d + count
        → IsHeldAt (world c h.keys s v) true (temps i).value (temporary_register h.code i) v.values
    held_at i from to =
        let most = nd.temporaries_low in
        let among = and_from (nat_le d i) (nat_lt i (d + count)) (le-leb d i from) (lt-ltb i (d + count) to) in
        subst (λ b. IsHeldAt (world c h.keys s v) b (temps i).value (temporary_register h.code i) v.values)
        (nd.closed.read n i label at among)
        (operand c IsGood right u n temps ws s v xs h words.0 label nd i among (omega arith))

    -- ---- the scans

    -- all strings were scanned
    record AreScanned (o : List ℕ) (q most : ℕ) (y : flat.State) (ps : List Piece) (i : ℕ) (bytes : List ℕ) : Type 0 where
      state : flat.State
      far : IsSoFar c IsGood right u n temps ws s v xs h words o q state most
      below : (r : ℕ) → r < string_register h.code i → state.values r ≡ y.values r
      ready : AreReady ps i state.values bytes

    abbrev FormatLeaves : (o : List ℕ) (q w most : ℕ) → flat.State → List Piece → (i k : ℕ) → Outcome (List ℕ) → Type 0
    FormatLeaves o q w most y ps i k (Gives bytes x') =
        AreScanned o (q + length (scans ps i)) (most + (84 * (x'.work - w) + 5 * k)) y ps i bytes
        × IsWorked (record s { output = o; work = w }) x'
    FormatLeaves o q w most y ps i k (Ended e x') =
        Stops e o (most + (84 * (x'.work - w) + 63 * k + 18)) × IsWorked (record s { output = o; work = w }) x'
    FormatLeaves o q w most y ps i k (Paused x') = ⊥

    abbrev Formats : List Piece → Type 0
    Formats ps =
        (i k : ℕ) (o : List ℕ) (q w most : ℕ) (y : flat.State) → IsSoFar c IsGood right u n temps ws s v xs h words o q y most
        → HasAt body q (scans ps i) → each_printed (directives ps) (gathered temps i k) ≡ true → d ≤ i → i + k ≤ d + count
        → FormatLeaves o q w most y ps i k (formatted ps (values_of (gathered temps i k)) line (record s { output = o; work = w }))

    -- a byte more in front
    byte_front : (o : List ℕ) (q w most : ℕ) (y : flat.State) (b : ℕ) (ps : List Piece) (i k : ℕ) (r : Outcome (List ℕ))
        → FormatLeaves o q w most y ps i k r
        → FormatLeaves o q w most y (piece.Byte b ∷ ps) i k (on r (λ others. done (b ∷ others)))
    byte_front o q w most y b ps i k (Gives bytes x') l = (
      record { state = l.0.state; far = l.0.far; below = l.0.below; ready = (bytes, refl, l.0.ready) },
      l.1,
    )
    byte_front o q w most y b ps i k (Ended e x') l = l
    byte_front o q w most y b ps i k (Paused x') l = l

    no_scan : (e : Directive) (i : ℕ) → (e ≡ directive.String → ⊥)
        → scan_argument (λ k. runtime_number c.layout.expansion.code k) (λ r. status_code r line scan_statuses) h.code e i ≡ []
    no_scan directive.String i other = absurd (other refl)
    no_scan e i other = refl

    ready_number : (e : Directive) (i : ℕ) (values : flat.Values) → (e ≡ directive.String → ⊥)
        → IsReadyFor e i values (number_bytes e (temps i).value.word)
    ready_number directive.String i values other = absurd (other refl)
    ready_number e i values other = refl

    -- an argument that is no string more
    number_front : (o : List ℕ) (q w most : ℕ) (y : flat.State) (e : Directive) (ps : List Piece) (i k : ℕ)
        → (e ≡ directive.String → ⊥) → i < most_temporaries h.code.code → (r : Outcome (List ℕ))
        → FormatLeaves o q w most y ps (i + 1) k r
        → FormatLeaves o q w most y (piece.Directive e ∷ ps) i (suc k)
        (on r (λ others. done (number_bytes e (temps i).value.word ++ others)))
    number_front o q w most y e ps i k other low (Gives bytes x') l =
        let place : q + length (scans ps (i + 1)) ≡ q + length (scans (piece.Directive e ∷ ps) i) =
        ap (λ z. q + length (z ++ scans ps (i + 1))) (sym (no_scan e i other)) in (
          record {
            state = l.0.state;
            far = more o (q + length (scans (piece.Directive e ∷ ps) i)) l.0.state
                (most + (84 * (x'.work - w) + 5 * k)) (most + (84 * (x'.work - w) + 5 * suc k)) (omega arith)
                (subst (λ z. So o z l.0.state (most + (84 * (x'.work - w) + 5 * k))) place l.0.far);
            below = λ r lt. l.0.below r (omega (arith, lt));
            ready = (number_bytes e (temps i).value.word, bytes, refl, low, ready_number e i l.0.state.values other, l.0.ready);
          },
          l.1,
        )
    number_front o q w most y e ps i k other low (Ended x x') l = (
      stops_within x o (most + (84 * (x'.work - w) + 63 * k + 18)) (most + (84 * (x'.work - w) + 63 * suc k + 18))
          (omega arith) l.0,
      l.1,
    )
    number_front o q w most y e ps i k other low (Paused x') l = l

    -- a string more, that was scanned
    string_front : (o : List ℕ) (q w w1 most : ℕ) (y y1 : flat.State) (ps : List Piece) (i k : ℕ) (bytes : List ℕ)
        → i < most_temporaries h.code.code → w + 1 ≤ w1
        → ((r : ℕ) → r < string_register h.code i → y1.values r ≡ y.values r)
        → y1.values (end_register h.code i) ≡ (temps i).value.word + length bytes
        → AreBytesAt (map_of c) v.memory (temps i).value.word bytes → (r : Outcome (List ℕ))
        → FormatLeaves o (q + suc (length (tests (string_register h.code i)))) w1 (most + (73 + 16 * (w1 - w))) y1 ps (i + 1) k r
        → FormatLeaves o q w most y (piece.Directive directive.String ∷ ps) i (suc k)
        (on r (λ others. done (bytes ++ others)))
    string_front o q w w1 most y y1 ps i k bytes low some below end_is found (Gives others x') l =
        let later = l.1.work in
        let rest = scans ps (i + 1) in
        let place : q + suc (length (tests (string_register h.code i))) + length rest
        ≡ q + length (scans (piece.Directive directive.String ∷ ps) i) =
        omega (arith, length-append (tests (string_register h.code i)) rest) in (
          record {
            state = l.0.state;
            far = more o (q + length (scans (piece.Directive directive.String ∷ ps) i)) l.0.state
                (most + (73 + 16 * (w1 - w)) + (84 * (x'.work - w1) + 5 * k))
                (most + (84 * (x'.work - w) + 5 * suc k)) (omega arith)
                (subst (λ z. So o z l.0.state (most + (73 + 16 * (w1 - w)) + (84 * (x'.work - w1) + 5 * k))) place
                l.0.far);
            below = λ r lt. l.0.below r (omega (arith, lt)) ∙ below r lt;
            ready = (
              bytes,
              others,
              refl,
              low,
              (l.0.below (end_register h.code i) (omega arith) ∙ end_is, found),
              l.0.ready,
            );
          },
          record { work = omega arith; same = l.1.same },
        )
    string_front o q w w1 most y y1 ps i k bytes low some below end_is found (Ended x x') l =
        let later = l.1.work in (
          stops_within x o (most + (73 + 16 * (w1 - w)) + (84 * (x'.work - w1) + 63 * k + 18))
              (most + (84 * (x'.work - w) + 63 * suc k + 18)) (omega arith) l.0,
          record { work = omega arith; same = l.1.same },
        )
    string_front o q w w1 most y y1 ps i k bytes low some below end_is found (Paused x') l = l

    string_scanned : (ps : List Piece) → Formats ps → (i k : ℕ) (o : List ℕ) (q w most : ℕ) (y : flat.State)
        → (f : IsSoFar c IsGood right u n temps ws s v xs h words o q y most)
        → (has : HasAt body q (scans (piece.Directive directive.String ∷ ps) i))
        → each_printed (directives ps) (gathered temps (i + 1) k) ≡ true → d ≤ i → i + suc k ≤ d + count
        → (low : i < most_temporaries h.code.code)
        → (held : IsHeldAt (world c h.keys s v) true (temps i).value (temporary_register h.code i) v.values)
        → (r : Outcome (List ℕ))
        → HasAt body q (Call (runtime_number c.layout.expansion.code scan_place) (temporary_register h.code i)
        (string_register h.code i) ∷ tests (string_register h.code i))
        → ScansBy line (record s { output = o; work = w }) r
        → ((has : HasAt body q (Call (runtime_number c.layout.expansion.code scan_place) (temporary_register h.code i)
        (string_register h.code i) ∷ tests (string_register h.code i)))
        → ScanLeaves c IsGood right u n temps ws s v xs h words line i low held o q w most y f has r)
        → FormatLeaves o q w most y (piece.Directive directive.String ∷ ps) i (suc k)
        (on r (λ bytes. formatted ps (values_of (gathered temps (i + 1) k)) line >>= (λ others. done (bytes ++ others))))
    string_scanned ps rest i k o q w most y f has fits from to low held (Gives bytes x') has_one by l =
        let r = l has_one in
        let x = record s { output = o; work = x'.work } in
        let place : q + 1 + length (tests (string_register h.code i)) ≡ q + suc (length (tests (string_register h.code i))) =
        omega arith in
        subst (λ z. FormatLeaves o q w most y (piece.Directive directive.String ∷ ps) i (suc k)
        (on (formatted ps (values_of (gathered temps (i + 1) k)) line z) (λ others. done (bytes ++ others))))
        (sym by.0.same)
        (string_front o q w x'.work most y r.state ps i k bytes low by.1 r.below r.end_is r.found
        (formatted ps (values_of (gathered temps (i + 1) k)) line x)
        (rest (i + 1) k o (q + suc (length (tests (string_register h.code i)))) x'.work (most + (73 + 16 * (x'.work - w)))
        r.state r.far
        (subst (λ z. HasAt body z (scans ps (i + 1))) place
        (has_back body (q + 1) (tests (string_register h.code i)) (scans ps (i + 1)) has.1)) fits (omega arith) (omega arith)))
    string_scanned ps rest i k o q w most y f has fits from to low held (Ended e x') has_one by l = (
      stops_within e o (most + (79 + 16 * (x'.work - w))) (most + (84 * (x'.work - w) + 63 * suc k + 18)) (omega arith)
          (l has_one),
      by.1,
    )
    string_scanned ps rest i k o q w most y f has fits from to low held (Paused x') has_one by l = absurd by

    directive_by : (e : Directive) → (e ≡ directive.String) ⊎ (e ≡ directive.String → ⊥) → (ps : List Piece) → Formats ps
        → Formats (piece.Directive e ∷ ps)
    directive_by e b ps rest i zero o q w most y f has fits from to = absurd (false≢true fits)
    directive_by e (inr other) ps rest i (suc k) o q w most y f has fits from to =
        let x = record s { output = o; work = w } in
        let most_low = nd.temporaries_low in
        let tail = and_parts (is_printed e (temps i)) (each_printed (directives ps) (gathered temps (i + 1) k)) fits in
        subst (λ r. FormatLeaves o q w most y (piece.Directive e ∷ ps) i (suc k)
        (on (r x) (λ bytes. formatted ps (values_of (gathered temps (i + 1) k)) line >>= (λ others. done (bytes ++ others)))))
        (sym (number_done e (temps i).value line other))
        (number_front o q w most y e ps i k other (omega arith)
        (formatted ps (values_of (gathered temps (i + 1) k)) line x)
        (rest (i + 1) k o q w most y f
        (subst (λ z. HasAt body q (z ++ scans ps (i + 1))) (no_scan e i other) has) tail.1 (omega arith) (omega arith)))
    directive_by e (inl is) ps rest i (suc k) o q w most y f has fits from to =
        let most_low = nd.temporaries_low in
        subst (λ e. HasAt body q (scans (piece.Directive e ∷ ps) i)
        → each_printed (directives (piece.Directive e ∷ ps)) (gathered temps i (suc k)) ≡ true
        → FormatLeaves o q w most y (piece.Directive e ∷ ps) i (suc k)
        (formatted (piece.Directive e ∷ ps) (values_of (gathered temps i (suc k))) line (record s { output = o; work = w })))
        (sym is)
        (λ has fits.
        (let x = record s { output = o; work = w } in
        let low : i < most_temporaries h.code.code = omega arith in
        let held = held_at i from (omega (arith, to)) in
        let tail = and_parts (is_printed directive.String (temps i))
        (each_printed (directives ps) (gathered temps (i + 1) k)) fits in
        string_scanned ps rest i k o q w most y f has tail.1 from to low held (scan (temps i).value line x)
        (has.0, has_front body (q + 1) (tests (string_register h.code i)) (scans ps (i + 1)) has.1)
        (scan_by line (temps i).value x)
        (λ has. scanned c IsGood right u n temps ws s v xs h words line i low held o q w most y f has)))
        has fits

    formats : (ps : List Piece) → Formats ps
    formats [] i k o q w most y f has fits from to =
        let place : q ≡ q + 0 = omega arith in (
          record {
            state = y;
            far = more o (q + 0) y most (most + (84 * (w - w) + 5 * k)) (omega arith)
                (subst (λ z. So o z y most) place f);
            below = λ r lt. refl;
            ready = refl;
          },
          record { work = omega arith; same = refl },
        )
    formats (piece.Byte b ∷ ps) i k o q w most y f has fits from to =
        byte_front o q w most y b ps i k (formatted ps (values_of (gathered temps i k)) line (record s { output = o; work = w }))
        (formats ps i k o q w most y f has fits from to)
    formats (piece.Directive e ∷ ps) i k o q w most y f has fits from to =
        directive_by e (is_string e) ps (formats ps) i k o q w most y f has fits from to

    -- ---- all is put out

    abbrev puts : List Piece → (temporary : ℕ) → List FlatInstruction
    puts ps i = put_pieces (λ k. runtime_number c.layout.expansion.code k) h.code ps i (first_free h.code)

    put_as : (o o' : List ℕ) (a a' q q' b b' first : ℕ) (y y' : flat.State) → PutOut o a q b first y → o ≡ o' → a ≡ a'
        → q ≡ q' → b ≤ b' → PutOut o' a' q' b' (first_free h.code) y'
    put_as o o' a a' q q' b b' first y y' f same_output same_count same_place le = record {
      state = f.state;
      far = subst (λ z. So z q' f.state b') same_output
          (subst (λ z. So o z f.state b') same_place (more o q f.state b b' le f.far));
      counted = f.counted ∙ ap (λ z. z % 2 ^ 64) same_count;
      others = λ r from lt. absurd (omega (arith, from, lt));
    }

    abbrev Puts : List Piece → Type 0
    Puts ps =
        (i : ℕ) (o : List ℕ) (a q most : ℕ) (y : flat.State) (bytes : List ℕ)
        → IsSoFar c IsGood right u n temps ws s v xs h words o q y most → y.values (first_free h.code) ≡ a % 2 ^ 64
        → AreReady ps i y.values bytes → have_bytes ps ≡ true → d ≤ i → i + length (directives ps) ≤ d + count
        → HasAt body q (puts ps i)
        → PutOut (o ++ bytes) (a + length bytes) (q + length (puts ps i))
        (most + (58 * length (directives ps) + 30 * length bytes)) (first_free h.code) y

    -- the pieces behind one
    behind_one : (ps : List Piece) → Puts ps → (i first : ℕ) (o bytes rest : List ℕ) (a q most : ℕ) (y : flat.State)
        → (f : PutOut (o ++ bytes) (a + length bytes) q most first y) → first ≤ end_register h.code i
        → AreReady ps i y.values rest → have_bytes ps ≡ true → d ≤ i → i + length (directives ps) ≤ d + count
        → HasAt body q (puts ps i)
        → PutOut (o ++ (bytes ++ rest)) (a + length (bytes ++ rest)) (q + length (puts ps i))
        (most + (58 * length (directives ps) + 30 * length rest)) (first_free h.code) y
    behind_one ps all i first o bytes rest a q most y f below ready small from to has =
        let r = all i (o ++ bytes) (a + length bytes) q most f.state rest f.far f.counted
        (ready_kept ps i y.values f.state.values rest (λ r le lt. f.others r (omega (arith, le, below)) lt) ready) small from
        to has in
        put_as ((o ++ bytes) ++ rest) (o ++ (bytes ++ rest)) (a + length bytes + length rest) (a + length (bytes ++ rest))
        (q + length (puts ps i)) (q + length (puts ps i)) (most + (58 * length (directives ps) + 30 * length rest))
        (most + (58 * length (directives ps) + 30 * length rest)) (first_free h.code) f.state y r (append_assoc o bytes rest)
        (omega (arith, length-append bytes rest)) refl (omega arith)

    number_list : (e : Directive) (i : ℕ) → (e ≡ directive.String → ⊥)
        → put_argument (λ k. runtime_number c.layout.expansion.code k) h.code e i (first_free h.code)
        ≡ Call (runtime_number c.layout.expansion.code (directive_place e)) (temporary_register h.code i)
        (first_free h.code + 1) ∷ Operate Add (first_free h.code) (first_free h.code) (Register (first_free h.code + 2)) ∷ []
    number_list directive.String i other = absurd (other refl)
    number_list e i other = refl

    number_is : (e : Directive) (i : ℕ) (values : flat.Values) (bytes : List ℕ) → (e ≡ directive.String → ⊥)
        → IsReadyFor e i values bytes → bytes ≡ number_bytes e (temps i).value.word
    number_is directive.String i values bytes other r = absurd (other refl)
    number_is e i values bytes other r = r

    -- an argument is put out
    one_put : (e : Directive) → (e ≡ directive.String) ⊎ (e ≡ directive.String → ⊥) → (i : ℕ) (o : List ℕ)
        (a q most : ℕ) (y : flat.State) (bytes : List ℕ)
        → IsSoFar c IsGood right u n temps ws s v xs h words o q y most → y.values (first_free h.code) ≡ a % 2 ^ 64
        → i < most_temporaries h.code.code → IsReadyFor e i y.values bytes → d ≤ i → i < d + count
        → HasAt body q (put_argument (λ k. runtime_number c.layout.expansion.code k) h.code e i (first_free h.code))
        → PutOut (o ++ bytes) (a + length bytes)
        (q + length (put_argument (λ k. runtime_number c.layout.expansion.code k) h.code e i (first_free h.code)))
        (most + (58 + 30 * length bytes)) (string_register h.code i + 1) y
    one_put e (inr other) i o a q most y bytes f counted low ready from to has =
        let is = number_is e i y.values bytes other ready in
        let list_is = number_list e i other in
        let first = string_register h.code i + 1 in
        let r = number_put c IsGood right u n temps ws s v xs h words o a q most y f counted e other i first low (temps i).value
        (held_at i from to).word (subst (HasAt body q) list_is has) in
        let r' = subst (λ z. PutOut (o ++ z) (a + length z) (q + 1 + 1) (most + (57 + 30 * length z)) first y) (sym is) r in
        let place : q + 1 + 1
        ≡ q + length (put_argument (λ k. runtime_number c.layout.expansion.code k) h.code e i (first_free h.code)) =
        omega (arith, ap length list_is) in
        record {
          state = r'.state;
          far = subst (λ z. So (o ++ bytes) z r'.state (most + (58 + 30 * length bytes))) place
              (more (o ++ bytes) (q + 1 + 1) r'.state (most + (57 + 30 * length bytes)) (most + (58 + 30 * length bytes))
              (omega arith) r'.far);
          counted = r'.counted;
          others = r'.others;
        }
    one_put e (inl is) i o a q most y bytes f counted low ready from to has =
        subst (λ e. IsReadyFor e i y.values bytes
        → HasAt body q (put_argument (λ k. runtime_number c.layout.expansion.code k) h.code e i (first_free h.code))
        → PutOut (o ++ bytes) (a + length bytes)
        (q + length (put_argument (λ k. runtime_number c.layout.expansion.code k) h.code e i (first_free h.code)))
        (most + (58 + 30 * length bytes)) (string_register h.code i + 1) y) (sym is)
        (λ ready has.
        (let r = string_put c IsGood right u n temps ws s v xs h words o a q most y f counted i low (temps i).value bytes
        (held_at i from to).word ready.0 ready.1 has in
        let place : q + 1 + 1 + 1 + 1 ≡ q + 4 = omega arith in
        record {
          state = r.state;
          far = subst (λ z. So (o ++ bytes) z r.state (most + (58 + 30 * length bytes))) place
              (more (o ++ bytes) (q + 1 + 1 + 1 + 1) r.state (most + (41 + 10 * length bytes))
              (most + (58 + 30 * length bytes)) (omega arith) r.far);
          counted = r.counted;
          others = r.others;
        })) ready has

    put_all : (ps : List Piece) → Puts ps
    put_all [] i o a q most y bytes f counted ready small from to has =
        put_as o (o ++ bytes) a (a + length bytes) q (q + 0) most (most + (58 * 0 + 30 * length bytes)) (first_free h.code) y y
        (record { state = y; far = f; counted = counted; others = λ r from lt. refl })
        (sym (append-nil o) ∙ ap (λ z. o ++ z) (sym ready)) (omega (arith, ap length ready)) (omega arith) (omega arith)
    put_all (piece.Byte b ∷ ps) i o a q most y bytes f counted ready small from to has =
        let parts = and_parts (nat_lt b 256) (have_bytes ps) small in
        let first = end_register h.code i in
        let one = byte_put c IsGood right u n temps ws s v xs h words o a q most y f counted b first (ltb-true b 256 parts.0)
        (has_front body q (byte_code b (first_free h.code) (first_free h.code + 1)) (puts ps i) has) in
        let place : q + 3 ≡ q + 1 + 1 + 1 = omega arith in
        let rest = behind_one ps (put_all ps) i first o (b ∷ []) ready.0 a (q + 1 + 1 + 1) (most + 8) y one (omega arith)
        ready.2 parts.1 from to
        (subst (λ z. HasAt body z (puts ps i)) place
        (has_back body q (byte_code b (first_free h.code) (first_free h.code + 1)) (puts ps i) has)) in
        put_as (o ++ (b ∷ ready.0)) (o ++ bytes) (a + length (b ∷ ready.0)) (a + length bytes)
        (q + 1 + 1 + 1 + length (puts ps i)) (q + length (puts (piece.Byte b ∷ ps) i))
        (most + 8 + (58 * length (directives ps) + 30 * length ready.0))
        (most + (58 * length (directives ps) + 30 * length bytes)) (first_free h.code) y y rest
        (ap (λ z. o ++ z) (sym ready.1)) (ap (λ z. a + length z) (sym ready.1)) (omega arith)
        (omega (arith, ap length ready.1))
    put_all (piece.Directive e ∷ ps) i o a q most y bytes f counted ready small from to has =
        let list = put_argument (λ k. runtime_number c.layout.expansion.code k) h.code e i (first_free h.code) in
        let one = one_put e (is_string e) i o a q most y ready.0 f counted ready.3 ready.4 from (omega arith)
        (has_front body q list (puts ps (i + 1)) has) in
        let rest = behind_one ps (put_all ps) (i + 1) (string_register h.code i + 1) o ready.0 ready.1 a (q + length list)
        (most + (58 + 30 * length ready.0)) y one (omega arith) ready.5 small (omega arith) (omega arith)
        (has_back body q list (puts ps (i + 1)) has) in
        let sizes = length-append ready.0 ready.1 in
        let lists = length-append list (puts ps (i + 1)) in
        put_as (o ++ (ready.0 ++ ready.1)) (o ++ bytes) (a + length (ready.0 ++ ready.1)) (a + length bytes)
        (q + length list + length (puts ps (i + 1))) (q + length (puts (piece.Directive e ∷ ps) i))
        (most + (58 + 30 * length ready.0) + (58 * length (directives ps) + 30 * length ready.1))
        (most + (58 * suc (length (directives ps)) + 30 * length bytes)) (first_free h.code) y y rest
        (ap (λ z. o ++ z) (sym ready.2)) (ap (λ z. a + length z) (sym ready.2)) (omega (arith, lists))
        (omega (arith, ap length ready.2, sizes))

    -- ---- the step

    abbrev ps : List Piece
    ps = pieces_or_none (pieces (text_in c.layout.expansion.code text))

    abbrev paid : State
    paid = spent (2 + 3 * count) s

    abbrev closing : List FlatInstruction
    closing = untagged (c.layout.expansion.entries u next d) (temporary_register h.code d)

    abbrev behind_scans : List FlatInstruction
    behind_scans = Constant (first_free h.code) 0 ∷ (puts ps d ++ counted_code (temporary_register h.code d) (first_free h.code))

    module _ (fits : are_printed (pieces (text_in c.layout.expansion.code text)) (gathered temps d count) ≡ true)
        (small : have_bytes (pieces_or_none (pieces (text_in c.layout.expansion.code text))) ≡ true) where
      some : d < most_temporaries h.code.code
      some = let most = nd.temporaries_low in omega arith

      each : each_printed (directives ps) (gathered temps d count) ≡ true
      each = each_of (pieces (text_in c.layout.expansion.code text)) temps d count fits

      here : IsSoFar c IsGood right u n temps ws s v xs h words s.output (c.layout.address u n) v 0
      here = record {
        come = record { steps = 0; comes = refl; few = omega arith };
        stands = for_worked (views c) h.keys IsGood s 0 v h.stands.for;
        memory = refl;
        turns = refl;
        same = λ r lt. refl;
      }

      whole : HasAt body pc ((scans ps d ++ behind_scans) ++ closing)
      whole = nd.put.has

      opening : HasAt body pc (scans ps d ++ behind_scans)
      opening = has_front body pc (scans ps d ++ behind_scans) closing whole

      -- where all strings were scanned
      gave : (bytes : List ℕ) (w : ℕ) → s.work + (2 + 3 * count) ≤ w
          → AreScanned s.output (c.layout.address u n + length (scans ps d)) (0 + (84 * (w - (s.work + (2 + 3 * count))) + 5 * count)) v ps d
          bytes
          → Follows (Stands u next (with_temp temps d (rvalue (integer (fit Int (length bytes))))) ws
          (spent (3 * (w + length bytes - (s.work + (2 + 3 * count)))) (record s {
            output = s.output ++ bytes;
            work = w + length bytes;
          })))
      gave bytes w le a =
          let q1 = pc + length (scans ps d) in
          let most1 = 0 + (84 * (w - (s.work + (2 + 3 * count))) + 5 * count) in
          let has1 = has_back body pc (scans ps d) behind_scans opening in
          let k1 = constant_comes m p u q1 a.state xs free 0 has1.0 in
          let f1 = set c IsGood right u n temps ws s v xs h words s.output q1 most1 free 0 a.state a.far (omega arith) k1 in
          let y1 : flat.State = record a.state { values = put a.state.values free 0; work = a.state.work + k1.work } in
          let length_is = printed_length (directives ps) temps d count each in
          let counted = counted_code (T d) free in
          let all = put_all ps d s.output 0 (q1 + 1) (most1 + 2) y1 bytes f1 (put_same a.state.values free 0 ∙ omega arith)
          (ready_kept ps d a.state.values y1.values bytes
          (λ r from lt. put_other a.state.values free 0 r (λ e. omega (arith, e, lt))) a.ready) small (omega arith)
          (omega (arith, length_is)) (has_front body (q1 + 1) (puts ps d) counted has1.1) in
          let y2 = all.state in
          let q2 = q1 + 1 + length (puts ps d) in
          let most2 = most1 + 2 + (58 * length (directives ps) + 30 * length bytes) in
          let at_count = (has_back body (q1 + 1) (puts ps d) counted has1.1).0 in
          let number_is = reg32_result Addw (low_word (y2.values free)) (low_word 0) in
          let y3 : flat.State = record y2 {
            values = put y2.values (T d) number_is;
            work = y2.work + weight_of (function_in p u);
          } in
          let reached = reached_next m p u xs pc q2 (q2 + 1) v y2 (record y2 { values = put y2.values (T d) number_is }) most2 2
          all.far.come
          (record {
            steps = 1;
            work = weight_of (function_in p u);
            few = weight_small (function_in p u);
            comes = one m p u q2 y2 xs (Operate32 Addw (T d) free (Number 0)) at_count;
          }) in
          let value : Value = integer (fit Int (length bytes)) in
          let from_zero : 0 + length bytes ≡ length bytes = omega arith in
          let is : y3.values (T d) ≡ fit Int (length bytes) =
          put_same y2.values (T d) number_is ∙ int_by_word (y2.values free)
          ∙ ap (fit Int) (all.counted ∙ ap (λ z. z % 2 ^ 64) from_zero) ∙ int_of_count (length bytes) in
          let b = c.layout.expansion.entries u next d in
          let tail = untagged b (T d) in
          let sizes = length-append (scans ps d) behind_scans in
          let sizes2 = length-append (puts ps d) counted in
          let sizes3 = length-append (scans ps d ++ behind_scans) closing in
          let end_is : pc + length (scans ps d ++ behind_scans) ≡ q2 + 1 = omega arith in
          let end = ends_with c IsGood right u n temps ws s v xs h (q2 + 1) (most2 + 2) 4 next y3 tail reached
          (untagged_few b (T d))
          (subst (λ z. HasAt body z tail) end_is (has_back body pc (scans ps d ++ behind_scans) closing whole))
          (subst (λ z. Leads body z (c.layout.address u next)) (omega (arith, end_is, sizes3)) nd.put.leads) in
          let placed = integer_cleared (world c h.keys s y3) b value (T d) y3.values refl is in
          let z : State = record s {
            output = s.output ++ bytes;
            work = w + length bytes + 3 * (w + length bytes - (s.work + (2 + 3 * count)));
          } in
          let y4 : flat.State = record y3 { values = assigned tail y3.values; work = end.0 } in
          let memory : y2.memory ≡ v.memory = all.far.memory in
          let room = temporary_free h.code d some in
          let good = good_now (names c) u ws s h.steady.good in
          let same_leaves = leaves_same (context_at (names c) u ws) s good in
          let acted : HasActed c IsGood right u n temps ws s v xs h (behind_action s z) h.keys y2 = record {
            stands = record {
              for = for_worked (views c) h.keys IsGood (record s { output = s.output ++ bytes; work = 0 }) z.work y2 all.far.stands;
              top = ap (λ a. load 8 a (top_cell (map_of c))) memory ∙ h.stands.top;
              turns = subst (λ t. s.turns ≤ t) (sym all.far.turns) h.stands.turns;
            };
            goes = subst (λ a. GoesOn (views c) h.keys h.keys s.objects s.objects v.memory a) (sym memory)
                (same_world (views c) h.keys s.objects v.memory);
            leaves = record { good = good; lives = same_leaves.lives; frame = same_leaves.frame; ended = same_leaves.ended };
            keys_few = h.steady.keys;
          } in
          acts_called c IsGood right u n temps ws s v xs h label nd d next value z h.keys y4 (most2 + 2 + 2 * 4 + 2) refl (inl refl)
          some end.1 (acted_as c IsGood right u n temps ws s v xs h (behind_action s z) h.keys y2 y4.values end.0 acted)
          (λ r lt out. placed.others r out ∙ put_other y2.values (T d) number_is r (beside r out) ∙ all.far.same r lt)
          (record { word = placed.held.word; entry = placed.held.entry; sound = placed.held.sound })
          (omega (arith, length_is, le))
        where
          beside : (r : ℕ) → (r < temporary_register h.code d) ⊎ (temporary_register h.code d + 5 ≤ r)
              → r ≡ temporary_register h.code d → ⊥
          beside r (inl below) e = absurd (omega (arith, below, e))
          beside r (inr above) e = absurd (omega (arith, above, e))

      pub print_step : Follows (effect c.setting (expansion_of c).code (tac.Print text line d count next) u temps ws
          (spent (2 + 3 * count) s))
      print_step =
          by (formatted ps (values_of (gathered temps d count)) line paid)
          (formats ps d count s.output pc (s.work + (2 + 3 * count)) 0 v here
          (has_front body pc (scans ps d) behind_scans opening) each (omega arith) (omega arith))
        where
          by : (r : Outcome (List ℕ))
              → FormatLeaves s.output (c.layout.address u n) (s.work + (2 + 3 * count)) 0 v
              (pieces_or_none (pieces (text_in c.layout.expansion.code text))) d count r
              → Follows (came (fourfold (s.work + (2 + 3 * count))
              (on (on r (λ bytes. put_bytes bytes >> done (integer (fit Int (length bytes))))) (λ z. give z)))
              (given_in u next temps d ws))
          by (Gives bytes x') l =
              subst (λ x. Follows (came (fourfold (s.work + (2 + 3 * count))
              (on (on (Gives bytes x) (λ bytes. put_bytes bytes >> done (integer (fit Int (length bytes))))) (λ z. give z)))
              (given_in u next temps d ws))) (sym l.1.same)
              (gave bytes x'.work l.1.work l.0)
          by (Ended e x') l =
              let f = l.0 in
              let same : x' ≡ record s { output = s.output; work = x'.work } = l.1.same in
              let later = l.1.work in
              let few = f.few in
              let before = h.work in
              let turns = h.stands.turns in
              subst (λ x. Follows (Over e (spent (3 * (x.work - (s.work + (2 + 3 * count)))) x))) (sym same)
              (ends c IsGood (flat.Stands u pc v xs) e
              (spent (3 * (x'.work - (s.work + (2 + 3 * count)))) (record s { output = s.output; work = x'.work }))
              f.state f.steps (code_of e) (report_of e) f.comes refl refl
              (record {
                input = f.shows.input;
                output = f.shows.output;
                taken = f.shows.taken;
                accesses = f.shows.accesses;
              })
              (subst (λ t. s.turns ≤ t) (sym f.turns) turns) (omega arith))
          by (Paused x') l = absurd l
