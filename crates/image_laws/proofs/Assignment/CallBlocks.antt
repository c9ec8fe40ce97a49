-- The blocks of calls, and of a return.
use Rattle.std.proofs.Common.{◌≡◌, ◌⊎◌, inl, inr, ⊎_elim, ℕ, suc, ◌+◌, ◌-◌, ◌*◌, ◌<◌, ◌≤◌, refl, sym, ap, ◌∙◌, subst}
use Rattle.std.proofs.Common.{arith, Bool, true, false, List, [], ◌∷◌, ◌++◌, length, Option, Some, None}
use Rattle.std.specs.Prelude.{slice_get, get_or, map, max, nat_le, nat_lt, ◌==◌, if◌then◌else◌}
use Rattle.std.proofs.lemmas.Bool.{eqb-true, and_from, leb-true, le-leb, lt-ltb}
use Rattle.std.proofs.lemmas.Option.{none-some}
use Rattle.sb_base.specs.declared.ending.Ending.TheVariants.{Abort, BadCall}
use Rattle.obj_memory.specs.declared.int_type.IntType.TheVariants.{UnsignedChar}
use Rattle.obj_memory.specs.declared.value.Scalar.TheVariants.{Integer, Pointer}
use Rattle.c_tree.specs.declared.expression.Kind.{Kind}
use Rattle.c_tree.specs.declared.expression.Kind.TheVariants.{Void, Scalar as OfScalar, Structure, Array}
use Rattle.c_tree.specs.declared.expression.Routine.{Routine}
use Rattle.c_tree.specs.declared.expression.Routine.TheVariants as routine
use Rattle.c_tree.specs.declared.format.Directive.{Directive}
use Rattle.c_tree.specs.declared.program.Variable.{Variable}
use Rattle.c_tree.specs.Format.{pieces, directives}
use Rattle.c_tree.specs.Kinds.{routine_signature}
use Rattle.source_meaning.specs.Blocks.{has_objects}
use Rattle.source_meaning.specs.Printing.{pieces_or_none}
use Rattle.tac_ir.specs.declared.instruction.Instruction.{Instruction}
use Rattle.tac_ir.specs.declared.instruction.Instruction.TheVariants as tac
use Rattle.tac_ir.specs.declared.function.CodeFunction.{CodeFunction}
use Rattle.tac_ir.specs.Edges.{successors}
use Rattle.tac_ir.specs.Meaning.{function_in, text_in}
use Rattle.flat_code.specs.declared.instruction.FlatInstruction.{FlatInstruction}
use Rattle.flat_code.specs.declared.instruction.FlatInstruction.TheVariants.{Call, CallAddress}
use Rattle.flat_code.specs.declared.instruction.FlatInstruction.TheVariants.{Return, Get, Put, Exit, End}
use Rattle.flat_code.specs.Calls.{function_in as flat_function}
use Rattle.flat_code.specs.Meaning.{results_of}
use Rattle.flat_operators.specs.Operators.{conversion_code}
use Rattle.runtime_functions.specs.declared.library.LibraryFunction.{LibraryFunction}
use Rattle.runtime_functions.specs.declared.library.LibraryFunction.TheVariants as library
use Rattle.runtime_functions.specs.declared.runtime.RuntimeFunction.TheVariants.{Library, MoveArea}
use Rattle.runtime_functions.specs.Library.{Passed, NoValue, OneWord, WithEntry, total_count, held_from, signature}
use Rattle.runtime_functions.specs.Library.{routine_of}
use Rattle.metadata_plan.specs.Blocks.{call_tests}
use Rattle.metadata_plan.specs.Entries.{reads_entry}
use Rattle.metadata_plan.specs.Entries.{is_moved_with_entry}
use Rattle.metadata_plan.specs.Entries.{is_argument_with_entry, parameter_kinds}
use Rattle.metadata_plan.specs.OperatorLists.Operators.{operators}
use Rattle.metadata_plan.specs.Registers.{most_temporaries}
use Rattle.metadata_relation.specs.FunctionTypes.{first_of_type}
use Rattle.metadata_relation.specs.InlineCode.{InlineCode}
use Rattle.metadata_relation.specs.InlineLists.{inline_lists}
use Rattle.metadata_relation.specs.Printing.{print_code, scan_statuses}
use Rattle.metadata_relation.specs.Registers.{temporary_register, first_free, moved_register}
use Rattle.metadata_relation.specs.Registers.{lock_register, top_register}
use Rattle.metadata_relation.specs.Registers.{passed_as, result_words}
use Rattle.metadata_relation.specs.Registers.{parameters_end}
use Rattle.metadata_relation.specs.Blocks.{block, untagged}
use Rattle.metadata_relation.specs.Blocks.{runtime_number}
use Rattle.metadata_relation.specs.Blocks.{library_place, statuses_of, status_code, runtime_call, library_code}
use Rattle.metadata_relation.specs.Blocks.{leave_code}
use Rattle.metadata_relation.specs.Blocks.{objects_of_body, result_of, call_code, call_of, object_tests, callee_tests}
use Rattle.metadata_relation.specs.Blocks.{room_tests, unknown_object_tests, through_code, through_of}
use Rattle.metadata_relation.specs.Structures.{move_area_place}
use Rattle.c_lower.specs.Liveness.Liveness.{reads, is_among}
use Rattle.image_laws.specs.Plans.Assignment.{Registers, IsOneOf, passed_over}
use Rattle.image_laws.specs.Plans.Instructions.{value_of, result_made, call_made, made_registers}
use Rattle.image_laws.specs.Plans.Instructions.{homes_read, left_registers}
use Rattle.image_laws.proofs.Plans.Flow.{none_has, one_is}
use Rattle.image_laws.proofs.Assignment.Flows.{Flows, followed, last_both}
use Rattle.image_laws.proofs.Assignment.Straight.{AllFrom, AreIn, straight, stops_run}
use Rattle.image_laws.proofs.Assignment.Operators.{conversion_gives, gives_flows}
use Rattle.image_laws.proofs.Assignment.Operators.{quiet_last}
use Rattle.image_laws.proofs.Assignment.Values.{Block}
use Rattle.image_laws.proofs.Assignment.Values.{integer}
use Rattle.image_laws.proofs.Assignment.Pieces.{one_from, value_from, call_flows, call_last, call_address_flows}
use Rattle.image_laws.proofs.Assignment.Pieces.{call_address_last}
use Rattle.image_laws.proofs.Assignment.Accesses.{fewer_own}
use Rattle.image_laws.proofs.Assignment.Homes.{left_flows}
use Rattle.image_laws.proofs.Assignment.Calls.{passed_from, AreReady, call_tests_flows, object_tests_flows}
use Rattle.image_laws.proofs.Assignment.Calls.{callee_flows, room_flows, unknown_flows, served_block, called_block}
use Rattle.image_laws.proofs.Assignment.Calls.{passed_total, total_few}
use Rattle.image_laws.proofs.Assignment.Structures.{Serves}
use Rattle.image_laws.proofs.Assignment.Printing.{AreGiven, HaveStrings, printed_block}
use Rattle.image_laws.proofs.Assignment.Sites.{Site, P as NamedAt, B as BlockAt, Has as HasAt, kinds_passed}
use Rattle.image_laws.proofs.Assignment.Sites.{kinds_length}
use Rattle.image_laws.proofs.Assignment.Sites.{passed_length, library_at, statuses_end, kinds_taken, temporary_named}
use Rattle.image_laws.proofs.Assignment.Sites.{own}
use Rattle.image_laws.proofs.Assignment.Sites.{moved_named, free_named, itself, word, stopped, tagged_in}

module _ (site : Site) where
  open site use {p, u, whole, read, write, entries, callees, c, n, here, closed, G, low, variables}

  abbrev P : Registers
  P = NamedAt site

  abbrev B : List FlatInstruction → List ℕ → Type 1
  B = BlockAt site

  abbrev Has : Instruction → Type 0
  Has = HasAt site

  abbrev Lists : InlineCode
  Lists = inline_lists read write whole.map

  -- ---- arguments

  among_from : (d k j : ℕ) → j < k → is_among d k (d + j) ≡ true
  among_from d k j lt =
      and_from (nat_le d (d + j)) (nat_lt (d + j) (d + k)) (le-leb d (d + j) (omega arith))
      (lt-ltb (d + j) (d + k) (omega (arith, lt)))

  -- those of a function whose kinds are known
  module _ (i : Instruction) (at : slice_get c.code n ≡ Some i) (has : Has i) (kinds : List Kind) (d k : ℕ)
      (read_all : (y : ℕ) → is_among d k y ≡ true → reads i y ≡ true)
      (read_entries : (y : ℕ) → is_argument_with_entry kinds d k y ≡ true → reads_entry whole.code c i y ≡ true) where
    one_ready : (kind : Kind) (j : ℕ) → j < k → get_or kinds j Void ≡ kind
        → AreIn (passed_from (passed_as kind) (temporary_register c (d + j))) G
    one_ready kind j lt is = by kind is
      where
        among : is_among d k (d + j) ≡ true
        among = among_from d k j lt

        plain : AreIn (temporary_register c (d + j) ∷ []) G
        plain = (word site i (d + j) has (read_all (d + j) among), tt)

        tagged : (kind : Kind) → get_or kinds j Void ≡ kind → is_moved_with_entry kind ≡ true
            → AreIn (value_of true (temporary_register c (d + j))) G
        tagged kind is moved =
            let place : d + j - d ≡ j = omega arith in
            let entry = ap (λ z. is_moved_with_entry (get_or kinds z Void)) place ∙ (ap is_moved_with_entry is ∙ moved) in
            tagged_in site i (d + j) at has (read_all (d + j) among)
            (read_entries (d + j)
            (and_from (is_among d k (d + j)) (is_moved_with_entry (get_or kinds (d + j - d) Void)) among entry))

        by : (kind : Kind) → get_or kinds j Void ≡ kind
            → AreIn (passed_from (passed_as kind) (temporary_register c (d + j))) G
        by Void is = plain
        by (OfScalar (Integer t)) is = plain
        by (OfScalar Pointer) is = tagged (OfScalar Pointer) is refl
        by (Structure s) is = tagged (Structure s) is refl
        by (Array s) is = plain

    ready_from : (ks : List Kind) (j : ℕ) → j + length ks ≤ k
        → ((l : ℕ) → get_or kinds (j + l) Void ≡ get_or ks l Void) → AreReady G c (map passed_as ks) (d + j)
    ready_from [] j le is = tt
    ready_from (kind ∷ ks) j le is =
        let first : j ≡ j + 0 = omega arith in
        let next : d + suc j ≡ d + j + 1 = omega arith in (
          one_ready kind j (omega (arith, le)) (ap (λ z. get_or kinds z Void) first ∙ is 0),
          subst (AreReady G c (map passed_as ks)) next
              (ready_from ks (suc j) (omega (arith, le))
              (λ l. let later : suc j + l ≡ j + suc l = omega arith in
              ap (λ z. get_or kinds z Void) later ∙ is (suc l))),
        )

    ready : length kinds ≤ k → AreReady G c (map passed_as kinds) d
    ready le =
        let first : d + 0 ≡ d = omega arith in
        subst (AreReady G c (map passed_as kinds)) first
        (ready_from kinds 0 (omega (arith, le))
        (λ l. let same : 0 + l ≡ l = omega arith in ap (λ z. get_or kinds z Void) same))

  -- those with entries all
  module _ (i : Instruction) (at : slice_get c.code n ≡ Some i) (has : Has i) (d k : ℕ)
      (read_all : (y : ℕ) → is_among d k y ≡ true → reads i y ≡ true)
      (read_entries : (y : ℕ) → is_among d k y ≡ true → reads_entry whole.code c i y ≡ true) where
    tagged_at : (j : ℕ) → j < k → AreIn (value_of true (temporary_register c (d + j))) G
    tagged_at j lt =
        let among = among_from d k j lt in
        tagged_in site i (d + j) at has (read_all (d + j) among) (read_entries (d + j) among)

    all_ready : (vs : List Passed) (j : ℕ) → j + length vs ≤ k → AreReady G c vs (d + j)
    all_ready [] j le = tt
    all_ready (v ∷ vs) j le =
        let next : d + suc j ≡ d + j + 1 = omega arith in (
          one v (tagged_at j (omega (arith, le))),
          subst (AreReady G c vs) next (all_ready vs (suc j) (omega (arith, le))),
        )
      where
        one : (v : Passed) → AreIn (value_of true (temporary_register c (d + j))) G
            → AreIn (passed_from v (temporary_register c (d + j))) G
        one NoValue h = tt
        one OneWord h = (h.0, tt)
        one WithEntry h = h

  -- ---- the library

  abbrev LibraryCode : LibraryFunction → (line d m : ℕ) → Type 1
  LibraryCode f line d m =
      B (runtime_call whole.code c f line d (whole.entries u m d)) (value_of (whole.entries u m d) (temporary_register c d))

  served : (f : LibraryFunction) (line d k m : ℕ) →
      let i = tac.Library (routine_of f) line d k m in
      slice_get c.code n ≡ Some i → Has i → (length (routine_signature (routine_of f)).parameters == k) ≡ true
      → max (suc d) (d + k) ≤ most_temporaries c.code → LibraryCode f line d m
  served f line d k m at has ok most =
      let i = tac.Library (routine_of f) line d k m in
      let kinds = (routine_signature (routine_of f)).parameters in
      let count = eqb-true (length kinds) k ok in
      let known = callees.runtime (library_place f) (Library f) (library_at f) in
      let few = total_few (signature f).takes in
      let long : length (signature f).takes ≡ length kinds = ap length (sym (kinds_taken f)) ∙ passed_count kinds in
      served_block p u P c G low (signature f).takes (signature f).gives (runtime_number whole.code (library_place f)) line d
      (moved_register c (5 * d)) (first_free c) (statuses_of f) (whole.entries u m d) known.0 known.1 (statuses_end f)
      (subst (λ vs. AreReady G c vs d) (kinds_taken f)
      (ready i at has kinds d k (λ y h. h) (λ y h. h) (omega (arith, count))))
      (moved_named site d k (total_count (signature f).takes) (omega (arith, most)) (omega (arith, few, long, count))) (own site)
      (temporary_named site d (whole.entries u m d) (omega (arith, most)))
    where
      passed_count : (ks : List Kind) → length (map passed_as ks) ≡ length ks
      passed_count [] = refl
      passed_count (x ∷ ks) = let same = passed_count ks in omega (arith, same)

  put_character : (d m : ℕ) → d < most_temporaries c.code → G (temporary_register c d)
      → B (library_code Lists whole.code c routine.Putchar 0 d (whole.entries u m d))
      (value_of (whole.entries u m d) (temporary_register c d))
  put_character d m lt gd =
      let D = temporary_register c d in
      let b = whole.entries u m d in
      let code = conversion_code UnsignedChar D D in
      let E = λ (y : ℕ). G y ⊎ IsOneOf (value_of b D) y in
      let gives = λ (S : Registers) (s : S D). conversion_gives p u P S UnsignedChar D D s (low D gd) in
      integer p u P G (Put D ∷ code) b D (temporary_named site d b lt).1
      (followed p u P G (Put D ∷ []) code 0 [] (D ∷ []) (straight p u P 0 G (Put D ∷ []) (gd, tt, tt, tt) low [] tt)
      (λ S keeps made low'. gives_flows p u P S code D low' (gives S (keeps D gd))))
      (last_both p E (Put D ∷ []) code (inl refl) (quiet_last p E code (gives G gd).quiet))

  get_character : (d m : ℕ) → d < most_temporaries c.code
      → B (library_code Lists whole.code c routine.Getchar 0 d (whole.entries u m d))
      (value_of (whole.entries u m d) (temporary_register c d))
  get_character d m lt =
      let D = temporary_register c d in
      let b = whole.entries u m d in
      integer p u P G (Get D ∷ []) b D (temporary_named site d b lt).1
      (straight p u P 0 G (Get D ∷ []) (tt, (temporary_named site d b lt).0, tt, tt) low (D ∷ []) (inr refl, tt))
      (inr (λ y m. inr (inl (one_is D y m))))

  exit : (d m : ℕ) → d < most_temporaries c.code → G (temporary_register c d)
      → B (Exit (temporary_register c d) ∷ []) (value_of (whole.entries u m d) (temporary_register c d))
  exit d m lt gd = record {
    flows = stops_run p u P G (Exit (temporary_register c d)) (value_of (whole.entries u m d) (temporary_register c d)) low
        (temporary_named site d (whole.entries u m d) lt) gd tt (λ pc q l. ⊎_elim (none-some q) (none-some q) l)
        (λ y m. none_has y m);
    last = inl refl;
  }

  -- ---- `printf`

  pub print : (x line d k m : ℕ) →
      let i = tac.Print x line d k m in
      let ps = pieces_or_none (pieces (text_in whole.code x)) in
      slice_get c.code n ≡ Some i → Has i → nat_le (length (directives ps)) k ≡ true
      → max (suc d) (d + k) ≤ most_temporaries c.code
      → B (print_code (runtime_number whole.code) (λ r. status_code r line scan_statuses) c ps d
      ++ untagged (whole.entries u m d) (temporary_register c d)) (value_of (whole.entries u m d) (temporary_register c d))
  print x line d k m at has ok most =
      let i = tac.Print x line d k m in
      let ps = pieces_or_none (pieces (text_in whole.code x)) in
      let le = leb-true (length (directives ps)) k ok in
      let first : d + 0 ≡ d = omega arith in
      printed_block p u P whole.code callees c line (own site) G low ps (whole.entries u m d) d
      (subst (AreGiven p u P whole.code callees c line (own site) G (directives ps)) first
      (given_from i (directives ps) 0 (tagged_at i at has d k (λ y h. h) (λ y h. h)) (omega (arith, le))))
      (subst (HaveStrings p u P whole.code callees c line (own site) (directives ps)) first
      (strings_from (directives ps) 0 (omega (arith, le))))
      (temporary_named site d (whole.entries u m d) (omega (arith, most)))
    where
      given_from : (i : Instruction) (ds : List Directive) (j : ℕ)
          → ((j : ℕ) → j < k → AreIn (value_of true (temporary_register c (d + j))) G) → j + length ds ≤ k
          → AreGiven p u P whole.code callees c line (own site) G ds (d + j)
      given_from i [] j all le = tt
      given_from i (x ∷ ds) j all le =
          let next : d + suc j ≡ d + j + 1 = omega arith in (
            all j (omega (arith, le)),
            subst (AreGiven p u P whole.code callees c line (own site) G ds) next
                (given_from i ds (suc j) all (omega (arith, le))),
          )

      strings_from : (ds : List Directive) (j : ℕ) → j + length ds ≤ k
          → HaveStrings p u P whole.code callees c line (own site) ds (d + j)
      strings_from [] j le = tt
      strings_from (x ∷ ds) j le =
          let next : d + suc j ≡ d + j + 1 = omega arith in (
            (λ l lt. omega (arith, le, lt, most)),
            subst (HaveStrings p u P whole.code callees c line (own site) ds) next (strings_from ds (suc j) (omega (arith, le))),
          )

  -- ---- calls

  result_few : (kind : Kind) → result_words kind ≤ 5
  result_few Void = omega arith
  result_few (OfScalar (Integer t)) = omega arith
  result_few (OfScalar Pointer) = omega arith
  result_few (Structure k) = omega arith
  result_few (Array k) = omega arith

  result_named : (d : ℕ) (kind : Kind) → d < most_temporaries c.code
      → AllFrom P (temporary_register c d) (result_words kind)
  result_named d kind lt j less = let few = result_few kind in omega (arith, lt, less, few)

  result_kept : (d : ℕ) (kind : Kind) (b : Bool) → d < most_temporaries c.code
      → AreIn (result_made kind b (temporary_register c d)) P
  result_kept d Void b lt = temporary_named site d b lt
  result_kept d (OfScalar (Integer t)) b lt = temporary_named site d b lt
  result_kept d (OfScalar Pointer) b lt = temporary_named site d true lt
  result_kept d (Structure k) b lt = temporary_named site d b lt
  result_kept d (Array k) b lt = temporary_named site d b lt

  -- the arguments of a function, in words
  takes_total : (callee : CodeFunction) → parameters_end callee ≡ total_count (map (λ v. passed_as v.kind) callee.parameters)
  takes_total callee = sym (passed_total callee.parameters)

  -- the function that moves a structure which a call gives
  moves : Serves p (runtime_number whole.code move_area_place) 7
  moves = callees.runtime move_area_place MoveArea refl

  takes_few : (vs : List Variable) (k : ℕ) → length vs ≡ k → total_count (map (λ v. passed_as v.kind) vs) ≤ 5 * k
  takes_few vs k same =
      let few = total_few (map (λ v. passed_as v.kind) vs) in
      let long = passed_length vs in
      omega (arith, few, long, same)

  pub call : (f line d k m : ℕ) →
      let i = tac.Call f line d k m in
      slice_get c.code n ≡ Some i → Has i → max (suc d) (d + k) ≤ most_temporaries c.code
      → B (call_of operators whole.map whole.code c (function_in whole.code f) f line d k (whole.entries u m d))
      (call_made whole.code (function_in whole.code f) (whole.entries u m d) (temporary_register c d))
  call f line d k m at has most = by (function_in whole.code f) refl
    where
      b : Bool
      b = whole.entries u m d

      D : ℕ
      D = temporary_register c d

      r : ℕ
      r = moved_register c (5 * d)

      by : (o : Option CodeFunction) → function_in whole.code f ≡ o
          → B (call_of operators whole.map whole.code c o f line d k b) (call_made whole.code o b D)
      by None is = stopped site (BadCall line) (value_of b D) (temporary_named site d b (omega (arith, most)))
      by (Some callee) is = either (length callee.parameters == k) refl
        where
          kind : Kind
          kind = result_of whole.code callee

          takes : List Passed
          takes = map (λ v. passed_as v.kind) callee.parameters

          kinds : List Kind
          kinds = map (λ v. v.kind) callee.parameters

          either : (same : Bool) → (length callee.parameters == k) ≡ same
              → B (if same then call_code operators whole.map whole.code c callee f line d b else End (Abort line) ∷ [])
              (result_made kind b D)
          either false other = stopped site (Abort line) (result_made kind b D) (result_kept d kind b (omega (arith, most)))
          either true agreed =
              let count = eqb-true (length callee.parameters) k agreed in
              let long = kinds_length callee.parameters in
              let known = callees.functions f callee is in
              let i = tac.Call f line d k m in
              let s = first_free c in
              called_block p u P c whole.code moves G low whole.map
              (call_tests whole.map callee.room line s ++ object_tests whole.map (objects_of_body callee) line s) takes
              (Call f r D) kind b d d r
              (followed p u P G (call_tests whole.map callee.room line s)
              (object_tests whole.map (objects_of_body callee) line s) 0 [] []
              (call_tests_flows p u P G low whole.map callee.room line s (free_named site))
              (λ S keeps made low'.
              object_tests_flows p u P S low' whole.map (objects_of_body callee) line s
              (fewer_own P s 16 s 2 (omega arith) (omega arith) (own site))))
              (subst (λ vs. AreReady G c vs d) (kinds_passed callee.parameters)
              (ready i at has kinds d k (λ y h. h)
              (λ y h. subst (λ o. is_argument_with_entry (parameter_kinds o) d k y ≡ true) (sym is) h)
              (omega (arith, count, long))))
              (moved_named site d k (total_count takes) (omega (arith, most)) (takes_few callee.parameters k count))
              (temporary_named site d true (omega (arith, most))) (own site)
              (λ S keeps low' packs.
              call_flows p u P S low' f r D (total_count takes) (result_words kind) (known.0 ∙ takes_total callee) known.1
              packs (result_named d kind (omega (arith, most))))
              (λ E all. call_last p E f r D (result_words kind) known.1 all)

  suc_is : (k : ℕ) → suc k ≡ k + 1
  suc_is k = omega arith

  pub through : (type_number line d k m : ℕ) →
      let i = tac.CallThrough type_number line d k m in
      let kind = first_of_type whole.code.functions type_number in
      slice_get c.code n ≡ Some i → Has i → suc d + k ≤ most_temporaries c.code
      → B (through_of operators whole.map whole.code c (slice_get whole.code.functions kind) kind line d k
      (whole.entries u m d))
      (call_made whole.code (slice_get whole.code.functions kind) (whole.entries u m d) (temporary_register c d))
  through type_number line d k m at has most =
      by (slice_get whole.code.functions (first_of_type whole.code.functions type_number))
    where
      b : Bool
      b = whole.entries u m d

      D : ℕ
      D = temporary_register c d

      q : ℕ
      q = moved_register c (5 * (d + 1))

      number : ℕ
      number = first_of_type whole.code.functions type_number

      by : (o : Option CodeFunction)
          → B (through_of operators whole.map whole.code c o number line d k b) (call_made whole.code o b D)
      by None = stopped site (BadCall line) (value_of b D) (temporary_named site d b (omega (arith, most)))
      by (Some one) = either (length one.parameters == k) refl
        where
          kind : Kind
          kind = result_of whole.code one

          takes : List Passed
          takes = map (λ v. passed_as v.kind) one.parameters

          either : (same : Bool) → (length one.parameters == k) ≡ same
              → B (if same then through_code operators whole.map whole.code c one number line d b
              else End (Abort line) ∷ [])
              (result_made kind b D)
          either false other = stopped site (Abort line) (result_made kind b D) (result_kept d kind b (omega (arith, most)))
          either true agreed =
              let count = eqb-true (length one.parameters) k agreed in
              let long = passed_length one.parameters in
              let i = tac.CallThrough type_number line d k m in
              let s = first_free c in
              let key = (held_from D).tag.key in
              let own_two = fewer_own P s 16 s 2 (omega arith) (omega arith) (own site) in
              let among = λ (y : ℕ) (h : is_among d (suc k) y ≡ true).
              subst (λ z. is_among d z y ≡ true) (suc_is k) h in
              let all = tagged_at i at has d (suc k) (λ y h. h) among in
              let zero_first : d + 0 ≡ d = omega arith in
              let pointer = subst (λ z. AreIn (value_of true (temporary_register c z)) G) zero_first (all 0 (omega arith)) in
              let tests = callee_tests number line D s
              ++ (room_tests whole.map key line s ++ unknown_object_tests whole.map key line s) in
              let argument_count = parameters_end one in
              called_block p u P c whole.code moves G low whole.map tests takes
              (CallAddress D q argument_count D (result_words kind)) kind b d (d + 1) q
              (followed p u P G (callee_tests number line D s)
              (room_tests whole.map key line s ++ unknown_object_tests whole.map key line s) 0 [] []
              (callee_flows p u P G low number line D s pointer (free_named site))
              (λ S keeps made low'.
              followed p u P S (room_tests whole.map key line s) (unknown_object_tests whole.map key line s) 0 [] []
              (room_flows p u P S low' whole.map key line s (keeps key pointer.1.1.1.0) own_two)
              (λ T keeps' made' low''.
              unknown_flows p u P T low'' whole.map key line s (keeps' key (keeps key pointer.1.1.1.0)) own_two)))
              (all_ready i at has d (suc k) (λ y h. h) among takes 1 (omega (arith, count, long)))
              (moved_named site (d + 1) k (total_count takes) (omega (arith, most)) (takes_few one.parameters k count))
              (temporary_named site d true (omega (arith, most))) (own site)
              (λ S keeps low' packs.
              call_address_flows p u P S low' D q argument_count D (result_words kind) (keeps D pointer.0)
              (subst (AllFrom S q) (sym (takes_total one)) packs) (result_named d kind (omega (arith, most))))
              (λ E all. call_address_last p E D q argument_count D (result_words kind) all)

  -- ---- what a function gives back

  pub return : (a : ℕ) → slice_get c.code n ≡ Some (tac.Return a) → Has (tac.Return a)
      → ((y : ℕ) → IsOneOf (homes_read c (tac.Return a)) y → G y) → B (block (record whole { inline = Lists }) u c (tac.Return a)) []
  return a at has homes = by (has_objects (objects_of_body c)) homes
    where
      D : ℕ
      D = temporary_register c a

      kind : Kind
      kind = result_of whole.code c

      words : (kind : Kind) → result_of whole.code c ≡ kind → AllFrom G D (result_words kind)
      words Void is = one_from G D (word site (tac.Return a) a has (itself site a))
      words (OfScalar (Integer t)) is = one_from G D (word site (tac.Return a) a has (itself site a))
      words (Array k) is = one_from G D (word site (tac.Return a) a has (itself site a))
      words (Structure k) is = λ j lt. absurd (omega (arith, lt))
      words (OfScalar Pointer) is =
          value_from G D (tagged_in site (tac.Return a) a at has (itself site a)
          (and_from (a == a) (is_moved_with_entry (result_of whole.code c)) (itself site a) (ap is_moved_with_entry is)))

      gives : AllFrom G D (results_of (flat_function p u))
      gives = subst (AllFrom G D) (sym (callees.functions u c here).1) (words kind refl)

      returned : (S : Registers) → ((y : ℕ) → S y → P y) → ((y : ℕ) → G y → S y) → Flows p u P S (Return D ∷ []) 0 []
      returned S low' keeps =
          straight p u P 0 S (Return D ∷ []) ((λ j lt. keeps (D + j) (gives j lt)), tt, tt, tt) low' [] tt

      by : (b : Bool)
          → ((y : ℕ) → IsOneOf (if b then left_registers c (objects_of_body c) else []) y → G y)
          → B ((if b then leave_code Lists whole.map c (objects_of_body c) else []) ++ (Return D ∷ [])) []
      by false homes = record { flows = returned G low (λ y g. g); last = inl refl }
      by true homes = record {
        flows = followed p u P G (leave_code Lists whole.map c (objects_of_body c)) (Return D ∷ []) 0 [] []
            (left_flows p u P G low whole.map (lock_register c (objects_of_body c)) (top_register c (objects_of_body c))
            (first_free c) (homes (lock_register c (objects_of_body c)) (inl refl))
            (homes (top_register c (objects_of_body c)) (inr (inl refl))) (own site))
            (λ S keeps made low'. returned S low' keeps);
        last = inl refl;
      }

  abbrev Of : Instruction → Type 1
  Of i =
      Block p u P G (block (record whole { inline = Lists }) u c i) (passed_over (successors i)) (made_registers whole u c i)

  pub library_block : (r : Routine) (line d k m : ℕ) →
      let i = tac.Library r line d k m in
      slice_get c.code n ≡ Some i → Has i → (length (routine_signature r).parameters == k) ≡ true
      → max (suc d) (d + k) ≤ most_temporaries c.code → Of i
  library_block routine.Putchar line d k m at has ok most =
      let count = eqb-true 1 k ok in
      let first : d + 0 ≡ d = omega arith in
      let among = subst (λ z. is_among d k z ≡ true) first (among_from d k 0 (omega (arith, count))) in
      put_character d m (omega (arith, most)) (word site (tac.Library routine.Putchar line d k m) d has among)
  library_block routine.Getchar line d k m at has ok most = get_character d m (omega (arith, most))
  library_block routine.Exit line d k m at has ok most =
      let count = eqb-true 1 k ok in
      let first : d + 0 ≡ d = omega arith in
      let among = subst (λ z. is_among d k z ≡ true) first (among_from d k 0 (omega (arith, count))) in
      exit d m (omega (arith, most)) (word site (tac.Library routine.Exit line d k m) d has among)
  library_block routine.Abort line d k m at has ok most =
      stopped site (Abort line) (value_of (whole.entries u m d) (temporary_register c d))
      (temporary_named site d (whole.entries u m d) (omega (arith, most)))
  library_block routine.Malloc line d k m at has ok most = served library.Malloc line d k m at has ok most
  library_block routine.Calloc line d k m at has ok most = served library.Calloc line d k m at has ok most
  library_block routine.Free line d k m at has ok most = served library.Free line d k m at has ok most
  library_block routine.Realloc line d k m at has ok most = served library.Realloc line d k m at has ok most
  library_block routine.Memcpy line d k m at has ok most = served library.Memcpy line d k m at has ok most
  library_block routine.Memmove line d k m at has ok most = served library.Memmove line d k m at has ok most
  library_block routine.Memset line d k m at has ok most = served library.Memset line d k m at has ok most
  library_block routine.Memcmp line d k m at has ok most = served library.Memcmp line d k m at has ok most
  library_block routine.Strlen line d k m at has ok most = served library.Strlen line d k m at has ok most
  library_block routine.Strcmp line d k m at has ok most = served library.Strcmp line d k m at has ok most
  library_block routine.Strcpy line d k m at has ok most = served library.Strcpy line d k m at has ok most
  library_block routine.Strncpy line d k m at has ok most = served library.Strncpy line d k m at has ok most
  library_block routine.Strcat line d k m at has ok most = served library.Strcat line d k m at has ok most
  library_block routine.Strchr line d k m at has ok most = served library.Strchr line d k m at has ok most
  library_block routine.Puts line d k m at has ok most = served library.Puts line d k m at has ok most
