-- Routines of the library as calls of functions of the runtime: arguments are packed, the function is called, its status is
-- tested at the line of the call, and the result goes to its temporary.
use Rattle.std.proofs.Common.{◌≡◌, ◌⊎◌, inl, inr, ℕ, ◌+◌, ◌-◌, ◌*◌, ◌<◌, ◌≤◌, Bool, true, List, ◌∷◌}
use Rattle.std.proofs.Common.{◌++◌, length, length-append, map, Some, None, refl, sym, ap, ◌∙◌, subst, arith, get_or}
use Rattle.std.proofs.Common.{le-leb, lt-ltb}
use Rattle.std.proofs.lemmas.Bool.{and_from}
use Rattle.std.proofs.lemmas.List.{length-map}
use Rattle.std.specs.Prelude.{slice_get, nat_le, nat_lt}
use Rattle.behaviours.specs.Steps.{run as steps_of}
use Rattle.behaviours.proofs.Running.{run_add}
use Rattle.addr_map.specs.Places.{AreMapped}
use Rattle.sb_base.specs.declared.ending.Ending.{Ending}
use Rattle.sb_base.specs.Endings.{code_of, report_of}
use Rattle.obj_memory.specs.declared.value.Tag.TheVariants.{Untagged}
use Rattle.obj_memory.specs.declared.value.Value.{Value}
use Rattle.obj_memory.specs.Sound.{IsSoundTag}
use Rattle.c_tree.specs.declared.expression.Kind.{Kind}
use Rattle.c_tree.specs.declared.expression.Kind.TheVariants.{Void}
use Rattle.c_tree.specs.declared.expression.Routine.{Routine}
use Rattle.c_tree.specs.declared.expression.Routine.TheVariants as routine
use Rattle.c_tree.specs.Kinds.{routine_signature}
use Rattle.source_meaning.specs.State.{Ended, Gives, on, Outcome, Paused, Run, State}
use Rattle.source_meaning.specs.Acting.{state_of}
use Rattle.source_meaning.specs.Actions.{integer}
use Rattle.source_meaning.specs.Calls.{header_of}
use Rattle.source_meaning.specs.Good.{After, AreGiven, function_count, IsGiven, IsOfKind, Leaves}
use Rattle.source_meaning.specs.Library.{routine as routine_run}
use Rattle.source_meaning.specs.Structures.{give, rvalue, values_of}
use Rattle.source_meaning.specs.Working.{CountsBy}
use Rattle.source_meaning.proofs.Lines.{lines_routine}
use Rattle.source_meaning.proofs.SureLibrary.{sure_routine}
use Rattle.tac_ir.specs.declared.instruction.Instruction.{Instruction}
use Rattle.tac_ir.specs.declared.instruction.Instruction.TheVariants as tac
use Rattle.tac_ir.specs.declared.function.CodeFunction.{CodeFunction}
use Rattle.tac_ir.specs.declared.function.Tac.{Tac}
use Rattle.tac_ir.specs.Costs.{fourfold, spent}
use Rattle.tac_ir.specs.Fitting.{are_passed}
use Rattle.tac_ir.specs.Meaning.{effect, given_in}
use Rattle.tac_ir.specs.Stage.{came, Frame, gathered, Over, Stage, Stands, Temps, with_temp}
use Rattle.flat_code.specs.declared.instruction.FlatInstruction.{FlatInstruction}
use Rattle.flat_code.specs.declared.instruction.FlatInstruction.TheVariants.{Call}
use Rattle.flat_code.specs.Calls.{function_in}
use Rattle.flat_code.specs.Meaning.{body_of, step}
use Rattle.flat_code.specs.Memory.{Bytes, put}
use Rattle.flat_code.specs.State as flat
use Rattle.flat_code.specs.Words.{HasWords}
use Rattle.flat_code.proofs.Stored.{put_other, put_same}
use Rattle.flat_code.specs.Routines.Metadata.{metadata_in}
use Rattle.flat_code.specs.Routines.Routine.{HasAt}
use Rattle.flat_code.proofs.Routines.Steps.{has_back, has_front}
use Rattle.flat_code.proofs.Routines.Words.{same_metadata}
use Rattle.flat_actions.specs.Actions.{AreHeldBy, IsFor, IsGivenIn, Nowhere}
use Rattle.lib_wrappers.specs.AllocatingRoutines.Premises.{AreStanding}
use Rattle.runtime_functions.specs.declared.library.LibraryFunction.{LibraryFunction}
use Rattle.runtime_functions.specs.declared.library.LibraryFunction.TheVariants as library
use Rattle.runtime_functions.specs.declared.runtime.RuntimeFunction.TheVariants.{Library}
use Rattle.runtime_functions.specs.Actions.{HasCompleted, HasExited, HasTold, IsReady, IsServed, over_registers}
use Rattle.runtime_functions.specs.Actions.{ServesCall, steps_of as routine_steps, work_of_call}
use Rattle.runtime_functions.specs.Calls.{CallSite}
use Rattle.runtime_functions.specs.Library.{held_from, holder_from, holders_from, library_interface, NoValue, OneWord}
use Rattle.runtime_functions.specs.Library.{parameters_of, Passed, results_of, routine_of, signature}
use Rattle.runtime_functions.specs.Library.{WithEntry}
use Rattle.runtime_functions.specs.Runtime.{runtime_list}
use Rattle.runtime_functions.proofs.LibraryCalls.{library_served}
use Rattle.metadata_plan.specs.Entries.{is_among, is_moved_with_entry}
use Rattle.metadata_plan.specs.Expanded.{Leads}
use Rattle.metadata_plan.specs.Registers.{most_temporaries}
use Rattle.metadata_relation.specs.Blocks.{library_code, library_place, pack, runtime_call as call_list, runtime_number}
use Rattle.metadata_relation.specs.Blocks.{status_code, statuses_of, unpack}
use Rattle.metadata_relation.specs.Holding.{IsHeldAt, World}
use Rattle.metadata_relation.specs.InlineCode.{InlineCode}
use Rattle.metadata_relation.specs.Registers.{first_free, moved_register, passed_as, temporary_register}
use Rattle.metadata_relation.specs.Scopes.{context_at}
use Rattle.metadata_relation.specs.Stages.{Compiled, expansion_of, IsAt, map_of, names, views, world}
use Rattle.metadata_relation.specs.Steps.{IsCompiled}
use Rattle.metadata_relation.proofs.Acting.{acts_called, behind_action, HasActed, Reached, reached_by, reached_next}
use Rattle.metadata_relation.proofs.Acting.{reached_then, reached_words}
use Rattle.metadata_relation.proofs.Assigning.{assigned, assigns}
use Rattle.metadata_relation.proofs.Finishing.{acted_as, acted_then, acted_worked, AreFew, beside_ne, ends_with}
use Rattle.metadata_relation.proofs.Finishing.{integer_cleared, integer_few, integer_moved, IsPlacedIn, move_few}
use Rattle.metadata_relation.proofs.Finishing.{nothing_done, tagged_in, untagged_few, value_moved}
use Rattle.metadata_relation.proofs.Library.{library_step}
use Rattle.metadata_relation.proofs.LibraryArguments.{are_packed, are_scalars, AreMoved, arguments_held}
use Rattle.metadata_relation.proofs.LibraryArguments.{arguments_kinds}
use Rattle.metadata_relation.proofs.LibraryArguments.{arguments_sound, pack_length}
use Rattle.metadata_relation.proofs.LibraryRuns.{free_gives, GivesBy, IsToldBy, KeepsCaller, least_count}
use Rattle.metadata_relation.proofs.LibraryRuns.{routine_counts}
use Rattle.metadata_relation.proofs.LibraryRuns.{routine_serves, ServesBy}
use Rattle.metadata_relation.proofs.Packing.{count_passed, pack_assigns}
use Rattle.metadata_relation.proofs.Pointers.{operand}
use Rattle.metadata_relation.proofs.Registers.{temporary_free}
use Rattle.metadata_relation.proofs.RuntimeCalls.{runtime_call, site}
use Rattle.metadata_relation.proofs.Setting.{functions_same}
use Rattle.metadata_relation.proofs.Standing.{ends, good_now, IsNode, node, Result}
use Rattle.metadata_relation.proofs.Statuses.{AllEnd, status_ends, status_passed}
use Rattle.metadata_relation.proofs.ToldEndings.{has_report, tells, told_among, told_status}

-- ---- the routines

kinds_are : (f : LibraryFunction) → map passed_as (routine_signature (routine_of f)).parameters ≡ (signature f).takes
kinds_are library.Malloc = refl
kinds_are f = refl

scalars : (f : LibraryFunction) → are_scalars (routine_signature (routine_of f)).parameters ≡ true
scalars library.Malloc = refl
scalars f = refl

code_is : (i : InlineCode) (t : Tac) (c : CodeFunction) (f : LibraryFunction) (line d : ℕ) (b : Bool)
    → library_code i t c (routine_of f) line d b ≡ call_list t c f line d b
code_is i t c library.Malloc line d b = refl
code_is i t c f line d b = refl

pub listed : (f : LibraryFunction) → slice_get runtime_list (library_place f) ≡ Some (Library f)
listed library.Malloc = refl
listed f = refl

-- all statuses tell endings
all_told : (f : LibraryFunction) (line : ℕ) → AllEnd (statuses_of f) line
all_told library.Malloc line = (refl, tt)
all_told library.Calloc line = (refl, tt)
all_told library.Realloc line = (refl, (refl, (refl, tt)))
all_told f line = (refl, (refl, tt))

-- what is given in one word has no tag
word_untagged : (f : LibraryFunction) (functions : ℕ) (v : Value) → (signature f).gives ≡ OneWord
    → IsOfKind functions (routine_signature (routine_of f)).result v → v.tag ≡ Untagged
word_untagged library.Memcmp functions v e is = is.0
word_untagged library.Strlen functions v e is = is.0
word_untagged library.Strcmp functions v e is = is.0
word_untagged library.Puts functions v e is = is.0
word_untagged f functions v e is = cc

-- where nothing is given, 0 stands for it
nothing_given : (f : LibraryFunction) (c : Compiled) (vs : List Value) (line : ℕ) (x : State)
    → (signature f).gives ≡ NoValue → GivesBy (λ v. v ≡ integer 0) (routine_run c.setting (routine_of f) vs line x)
nothing_given library.Free c vs line x e = (free_gives c.setting vs line).by x
nothing_given f c vs line x e = cc

-- ---- work

-- what the packing and the call take
abbrev call_work : LibraryFunction → (counted : ℕ) → ℕ
call_work f w =
    2 * parameters_of f
    + work_of_call (parameters_of f) (results_of f) 2 ((signature f).constant + (signature f).factor * w)

-- a call that comes back is paid for
affords : (f : LibraryFunction) (w : ℕ) → least_count f ≤ w → call_work f w + 2 + 10 + 2 ≤ 252 + 84 * w
affords library.Realloc w le = omega arith
affords f w le = omega arith

-- and one that ends the run, with its report
affords_end : (f : LibraryFunction) (w bytes : ℕ) → 1 ≤ bytes
    → call_work f w + (2 * length (statuses_of f) + 4) + 2 * bytes ≤ 252 + 84 * w + 21 * bytes
affords_end library.Realloc w bytes le = omega arith
affords_end f w bytes le = omega arith

-- ---- states

-- a routine leaves its caller's variables
as_behind : (b : ℕ) (s x' : State) → KeepsCaller b (spent 12 s) x' → x' ≡ behind_action s x'
as_behind b s x' k =
    ap (λ z. record x' { plain = z }) k.plain
    ∙ ap (λ z. record x' { plain = s.plain; frame = z }) k.frame
    ∙ ap (λ z. record x' { plain = s.plain; frame = s.frame; charged = z }) k.charged
    ∙ ap (λ z. record x' { plain = s.plain; frame = s.frame; charged = s.charged; stacked = z }) k.stacked
    ∙ ap (λ z. record x' {
      plain = s.plain;
      frame = s.frame;
      charged = s.charged;
      stacked = s.stacked;
      turns = z;
    }) k.turns

-- ---- the result

unpacked_few : (p : Passed) (b : Bool) (r from : ℕ) → AreFew 5 (unpack p b r from)
unpacked_few NoValue b r from =
    let rest = untagged_few b r in let few = rest.few in record { assign = rest.assign; few = omega arith }
unpacked_few OneWord b r from = integer_few b r from
unpacked_few WithEntry b r from = move_few b r from

-- it comes to its temporary from the registers behind the status
unpacked : (w : World) (p : Passed) (b : Bool) (value : Value) (parameters into r : ℕ) (values : flat.Values)
    → (p ≡ NoValue → value ≡ integer 0) → (p ≡ OneWord → value.tag ≡ Untagged)
    → IsSoundTag w.views.functions w.objects value.tag → r + 5 ≤ into
    → IsGivenIn w.views w.keys (over_registers (λ q. into + (q - parameters)) (holder_from (parameters + 1) p)) value values
    → IsPlacedIn w b value r values (assigned (unpack p b r (into + 1)) values)
unpacked w NoValue b value a into r values none word sound low given =
    let zero = none refl in
    let z = integer_cleared w b value r (put values r 0) (ap (λ (v : Value). v.tag) zero)
    (put_same values r 0 ∙ sym (ap (λ (v : Value). v.word) zero)) in
    record {
      held = z.held;
      others = λ y out. z.others y out ∙ put_other values r 0 y (beside_ne y r out);
    }
unpacked w OneWord b value a into r values none word sound low given =
    integer_moved w b value r (into + 1) values (word refl) (ap values (omega arith) ∙ given)
unpacked w WithEntry b value a into r values none word sound low given =
    let here : into + (a + 1 - a) ≡ into + 1 = omega arith in
    let first = ap values (sym here) ∙ given.word in
    value_moved w b true value r (into + 1) values
    (record {
      word = first;
      entry = λ e. record {
        word = first;
        tag = same_metadata (metadata_in values (held_from (into + 1)).tag)
            (metadata_in values (record {
              base = into + (a + 1 + 1 - a);
              bound = into + (a + 1 + 2 - a);
              key = into + (a + 1 + 3 - a);
              lock = into + (a + 1 + 4 - a);
            })) (ap values (omega arith)) (ap values (omega arith)) (ap values (omega arith)) (ap values (omega arith))
            ∙ given.tag;
      };
      sound = sound;
    }) (λ e. refl) (inr (inl (omega arith)))

-- ---- the step

module _ (c : Compiled) (IsGood : Bytes → Type 0) (right : IsCompiled c IsGood) (u n : ℕ) (temps : Temps)
    (ws : List Frame) (s : State) (v : flat.State) (xs : List flat.Frame)
    (h : IsAt c IsGood u n temps ws s u (c.layout.address u n) v xs)
    (words : HasWords (flat.Stands u (c.layout.address u n) v xs)) where
  abbrev pc : ℕ
  pc = c.layout.address u n

  abbrev Follows : Stage → Type 0
  Follows a = Result c IsGood a (flat.Stands u (c.layout.address u n) v xs)

  abbrev body : List FlatInstruction
  body = body_of (function_in c.layout.program u)

  module _ (f : LibraryFunction) (line d count next : ℕ)
      (at : slice_get h.code.code n ≡ Some (tac.Library (routine_of f) line d count next))
      (fits : are_passed (routine_signature (routine_of f)).parameters (gathered temps d count) ≡ true) where
    abbrev label : Instruction
    label = tac.Library (routine_of f) line d count next

    nd : IsNode c u n h.code (tac.Library (routine_of f) line d count next)
    nd = node c IsGood right u n temps ws s v xs h (tac.Library (routine_of f) line d count next) at

    abbrev kinds : List Kind
    kinds = (routine_signature (routine_of f)).parameters

    abbrev vs : List Value
    vs = values_of (gathered temps d count)

    abbrev paid : State
    paid = spent 12 s

    abbrev does : Run Value
    does = routine_run c.setting (routine_of f) (values_of (gathered temps d count)) line

    -- ---- the block

    abbrev first : ℕ
    first = moved_register h.code (5 * d)

    abbrev into : ℕ
    into = first_free h.code

    abbrev T : ℕ
    T = temporary_register h.code d

    abbrev with_entry : Bool
    with_entry = c.layout.expansion.entries u next d

    abbrev packed : List FlatInstruction
    packed = pack h.code (signature f).takes (moved_register h.code (5 * d)) d

    abbrev tests : List FlatInstruction
    tests = status_code (first_free h.code) line (statuses_of f)

    abbrev ended_by : List FlatInstruction
    ended_by = unpack (signature f).gives (c.layout.expansion.entries u next d) (temporary_register h.code d)
        (first_free h.code + 1)

    abbrev number : ℕ
    number = runtime_number c.layout.expansion.code (library_place f)

    abbrev at_call : ℕ
    at_call = c.layout.address u n + length (pack h.code (signature f).takes (moved_register h.code (5 * d)) d)

    has : HasAt body pc (packed ++ (Call number first into ∷ (tests ++ ended_by)))
    has = subst (HasAt body pc)
        (code_is c.layout.expansion.inline c.layout.expansion.code h.code f line d with_entry) nd.put.has

    leads : Leads body (pc + length (packed ++ (Call number first into ∷ (tests ++ ended_by)))) (c.layout.address u next)
    leads = subst (λ (l : List FlatInstruction). Leads body (pc + length l) (c.layout.address u next))
        (code_is c.layout.expansion.inline c.layout.expansion.code h.code f line d with_entry) nd.put.leads

    has_call : HasAt body at_call (Call number first into ∷ (tests ++ ended_by))
    has_call = has_back body pc packed (Call number first into ∷ (tests ++ ended_by)) has

    low : d < most_temporaries h.code.code
    low = let most = nd.temporaries_low in omega arith

    -- ---- the call

    held_at : (x : ℕ) → d ≤ x → x < d + count
        → IsHeldAt (world c h.keys s v) (c.layout.expansion.entries u n x) (temps x).value (temporary_register h.code x)
        v.values
    held_at x from to =
        let most = nd.temporaries_low in
        operand c IsGood right u n temps ws s v xs h words.0 label nd x
        (and_from (nat_le d x) (nat_lt x (d + count)) (le-leb d x from) (lt-ltb x (d + count) to)) (omega arith)

    entry_at : (x : ℕ) → x < count → is_moved_with_entry (get_or kinds x Void) ≡ true
        → c.layout.expansion.entries u n (d + x) ≡ true
    entry_at x lt moved =
        let same : d + x - d ≡ x = omega arith in
        nd.closed.read n (d + x) label at
        (and_from (is_among d count (d + x)) (is_moved_with_entry (get_or kinds (d + x - d) Void))
        (and_from (nat_le d (d + x)) (nat_lt (d + x) (d + count)) (le-leb d (d + x) (omega arith))
        (lt-ltb (d + x) (d + count) (omega arith)))
        (ap (λ z. is_moved_with_entry (get_or kinds z Void)) same ∙ moved))

    abbrev site_at : flat.State → CallSite
    site_at y = site c IsGood right u n temps ws s v xs h
        (runtime_number c.layout.expansion.code (library_place f))
        (c.layout.address u n + length (pack h.code (signature f).takes (moved_register h.code (5 * d)) d))
        (moved_register h.code (5 * d)) (first_free h.code) y

    -- the call of the function, with the arguments packed
    record IsCalled : Type 0 where
      between : flat.State
      come : Reached (map_of c) c.layout.program u (c.layout.address u n) v xs at_call between (2 * parameters_of f)
      acted : HasActed c IsGood right u n temps ws s v xs h (behind_action s (spent 12 s)) h.keys between
      same : (y : ℕ) → y < moved_register h.code 0 → between.values y ≡ v.values y
      serves : ServesCall (map_of c) c.layout.program (views c) h.keys IsGood (library_interface f) (site_at between)
          (parameters_of f) (results_of f) line (spent 12 s)
          (routine_run c.setting (routine_of f) (values_of (gathered temps d count)) line)

    called : IsCalled
    called =
        let m = map_of c in
        let p = c.layout.program in
        let most = nd.temporaries_low in
        let many = count_passed kinds temps d count fits in
        let takes : length (signature f).takes ≡ length kinds =
        ap length (sym (kinds_are f)) ∙ length-map kinds passed_as in
        let size = pack_length h.code (signature f).takes first d in
        let a = assigns m p u xs packed (pack_assigns h.code (signature f).takes first d).0 pc v
        (has_front body pc packed (Call number first into ∷ (tests ++ ended_by)) has) in
        let y : flat.State = record v { values = assigned packed v.values; work = v.work + a.work } in
        let r = reached_by m p u xs pc at_call v (record v { values = assigned packed v.values }) (2 * length packed) a in
        let come : Reached m p u pc v xs at_call y (2 * parameters_of f) =
        record { steps = r.steps; comes = r.comes; few = omega (arith, r.few, size) } in
        let laid = are_packed h.code (signature f).takes first d v.values v.values (λ z lt. refl)
        (omega (arith, takes, many, most)) (omega arith) in
        let begun = acted_as c IsGood right u n temps ws s v xs h (behind_action s paid) h.keys v y.values y.work
        (acted_worked c IsGood right u n temps ws s v xs h s h.keys v paid.work
        (nothing_done c IsGood right u n temps ws s v xs h)) in
        let rc = runtime_call c IsGood right u n temps ws s v xs h (library_place f) (Library f) (listed f) at_call first into y
        has_call.0 in
        let from : first ≡ first + 0 = omega arith in
        let held = arguments_held (world c h.keys s v) h.code (c.layout.expansion.entries u n) temps v.values y.values first
        kinds 0 d count (scalars f) fits held_at entry_at
        (subst (λ ps. AreMoved h.code ps (first + 0) d v.values y.values) (sym (kinds_are f))
        (subst (λ z. AreMoved h.code (signature f).takes z d v.values y.values) from laid.moved)) in
        let ready : IsReady (views c) h.keys IsGood (library_interface f) (site_at y) paid vs = record {
          words = reached_words m p u xs pc at_call v y (2 * parameters_of f) words come;
          stands = begun.stands.for;
          held = subst (λ ps. AreHeldBy (views c) h.keys s.objects
              (map (over_registers (λ q. first + q)) (holders_from 0 ps)) vs y.values) (kinds_are f) held;
        } in
        let standing : AreStanding m paid = record {
          placed = (good_now (names c) u ws s h.steady.good).separate.placed;
          bytes = h.steady.bytes;
        } in
        record {
          between = y;
          come = come;
          acted = begun;
          same = λ z lt. laid.below z (omega arith);
          serves = library_served m c.entry IsGood c.setting right.sizes p (site_at y) f rc.function rc.of rc.calls
              (length c.setting.functions) c.layout.expansion.types h.keys paid vs line
              (lines_routine 1 line c.setting (routine_of f) vs) ready standing;
        }

    -- ---- what it leaves

    arguments_given : AreGiven (function_count (context_at (names c) u ws)) kinds vs s.objects
    arguments_given = (
      λ x. arguments_sound (function_count (context_at (names c) u ws)) s.objects temps d count x
          (λ y from to. tagged_in c IsGood right u n temps ws s v xs h s.objects (temps y).value (held_at y from to).sound),
      λ x. arguments_kinds (function_count (context_at (names c) u ws)) temps kinds d count x (scalars f) fits,
    )

    -- good states, and values of their kinds
    left : (o : Outcome Value) → does paid ≡ o
        → After (context_at (names c) u ws) paid
        (IsGiven (function_count (context_at (names c) u ws)) (routine_signature (routine_of f)).result) o
    left o e =
        subst (After (context_at (names c) u ws) paid
        (IsGiven (function_count (context_at (names c) u ws)) (routine_signature (routine_of f)).result)) e
        ((sure_routine c.setting (subst AreMapped (sym right.sizes) right.mapped) right.sizes (routine_of f) vs line).by paid
        (good_now (names c) u ws s h.steady.good) arguments_given)

    served_by : (o : Outcome Value) → does paid ≡ o
        → ServesBy c.setting.sizes.budgets.keys line (statuses_of f) paid o
    served_by o e = subst (ServesBy c.setting.sizes.budgets.keys line (statuses_of f) paid) e
        ((routine_serves c.setting f vs line).by paid)

    abbrev bound : ℕ
    bound = work_of_call (parameters_of f) (results_of f) 2
        (routine_steps (library_interface f)
        (routine_run c.setting (routine_of f) (values_of (gathered temps d count)) line) (spent 12 s))

    -- what it counts
    abbrev counted : State → ℕ
    counted x' = x'.work - paid.work

    bound_is : (o : Outcome Value) → does paid ≡ o
        → 2 * parameters_of f + bound ≡ call_work f ((state_of o).work - (s.work + 12))
    bound_is o e = ap (λ z. call_work f ((state_of z).work - (s.work + 12))) e

    -- ---- it went on

    module _ (q : IsCalled) (value : Value) (x' : State) (e : does paid ≡ Gives value x') where
      abbrev extra : ℕ
      extra = 3 * (x'.work - (s.work + 12))

      kept : KeepsCaller c.setting.sizes.budgets.keys (spent 12 s) x'
      kept = served_by (Gives value x') e

      same_state : x' ≡ behind_action s x'
      same_state = as_behind c.setting.sizes.budgets.keys s x' kept

      done : HasCompleted (views c) h.keys IsGood (library_interface f).result (site_at q.between) (parameters_of f)
          (results_of f) bound (spent 12 s) value x' q.serves.stage
      done = subst (λ o. IsServed (views c) h.keys IsGood (library_interface f).result (site_at q.between)
          (parameters_of f) (results_of f) bound line (spent 12 s) o q.serves.stage) e q.serves.holds

      -- the state that it leaves behind the call
      behind : flat.State
      behind = done.behind.state

      come_behind : Reached (map_of c) c.layout.program u (c.layout.address u n) v xs (at_call + 1) done.behind.state
          (2 * parameters_of f + bound)
      come_behind =
          reached_then (map_of c) c.layout.program u xs pc at_call (at_call + 1) v q.between done.behind.state
          (2 * parameters_of f) bound q.come
          (record { steps = q.serves.steps; comes = q.serves.comes ∙ done.behind.at; few = done.behind.work })

      leaves : Leaves (context_at (names c) u ws) (spent 12 s) (behind_action s x')
      leaves = subst (Leaves (context_at (names c) u ws) paid) same_state (left (Gives value x') e).0

      acted_behind : HasActed c IsGood right u n temps ws s v xs h (behind_action s x') done.keys_after done.behind.state
      acted_behind =
          acted_then c IsGood right u n temps ws s v xs h Nowhere into paid.work value paid x' h.keys q.between
          done.behind.state q.acted
          (record {
            keys = done.keys_after;
            held = done.kept;
            stands = subst (λ z. IsFor (views c) done.keys_after IsGood z done.behind.state) same_state done.stands;
            given = tt;
            turns = done.behind.turns;
            elsewhere = done.elsewhere;
            others = λ y lt none. done.behind.others y (inl lt);
          }) leaves (subst (λ z. x'.keys ≤ z.budgets.keys) right.sizes
          (kept.keys (subst (λ z. s.keys ≤ z.budgets.keys) (sym right.sizes) h.steady.keys)))

      result_sound : IsSoundTag (views c).functions x'.objects value.tag
      result_sound =
          subst (λ z. IsSoundTag z x'.objects value.tag)
          (functions_same (names c) u ∙ sym (length-map c.typed.functions header_of) ∙ ap length right.functions)
          (left (Gives value x') e).1.0

      placed : IsPlacedIn (world c done.keys_after (behind_action s x') done.behind.state) with_entry value T
          done.behind.state.values (assigned ended_by done.behind.state.values)
      placed =
          let room = temporary_free h.code d low in
          unpacked (world c done.keys_after (behind_action s x') done.behind.state) (signature f).gives with_entry value
          (parameters_of f) into T done.behind.state.values
          (λ nothing. subst (GivesBy (λ z. z ≡ integer 0)) e (nothing_given f c vs line paid nothing))
          (λ word. word_untagged f (function_count (context_at (names c) u ws)) value word (left (Gives value x') e).1.1)
          result_sound (omega (arith, room)) done.given

      gave : Follows (Stands u next (with_temp temps d (rvalue value)) ws (spent (3 * (x'.work - (s.work + 12))) x'))
      gave =
          let m = map_of c in
          let p = c.layout.program in
          let y = done.behind.state in
          let q1 = at_call + 1 in
          let q2 = at_call + 1 + length tests in
          let rest = has_call.1 in
          let tested = status_passed m p u xs into line q1 (statuses_of f) y (has_front body q1 tests ended_by rest) done.status in
          let passed = reached_next m p u xs pc q1 q2 v y y (2 * parameters_of f + bound) 2 come_behind tested in
          let y2 : flat.State = record y { work = y.work + tested.work } in
          let end = ends_with c IsGood right u n temps ws s v xs h q2 (2 * parameters_of f + bound + 2) 5 next y2 ended_by
          passed (unpacked_few (signature f).gives with_entry T (into + 1)) (has_back body q1 tests ended_by rest)
          (subst (λ z. Leads body z (c.layout.address u next))
          (omega (
            arith,
            length-append packed (Call number first into ∷ (tests ++ ended_by)),
            length-append tests ended_by,
          )) leads) in
          let few = affords f (x'.work - (s.work + 12))
          (let counts = (routine_counts c.setting f vs line).counts paid in
          let more : CountsBy (least_count f) paid (Gives value x') = subst (CountsBy (least_count f) paid) e counts in
          omega arith) in
          let bound_is = bound_is (Gives value x') e in
          let later = kept.work in
          let z : State = spent extra x' in
          subst (λ k. Follows (Stands u next (with_temp temps d (rvalue value)) ws k)) (sym (ap (spent extra) same_state))
          (acts_called c IsGood right u n temps ws s v xs h label nd d next value z done.keys_after
          (record y { values = assigned ended_by y.values; work = end.0 }) (2 * parameters_of f + bound + 2 + 2 * 5 + 2) refl
          (inl refl) low end.1
          (acted_as c IsGood right u n temps ws s v xs h (behind_action s z) done.keys_after y (assigned ended_by y.values)
          end.0 (acted_worked c IsGood right u n temps ws s v xs h (behind_action s x') done.keys_after y z.work acted_behind))
          (λ r lt out. placed.others r out ∙ done.behind.others r (inl (omega arith)) ∙ q.same r lt)
          (record { word = placed.held.word; entry = placed.held.entry; sound = placed.held.sound })
          (omega arith))

    -- ---- it ended the run

    module _ (q : IsCalled) (e : Ending) (x' : State) (is : does paid ≡ Ended e x') where
      told : IsToldBy (statuses_of f) line e × KeepsCaller c.setting.sizes.budgets.keys (spent 12 s) x'
      told = served_by (Ended e x') is

      stopped : Follows (Over e (spent (3 * (x'.work - (s.work + 12))) x'))
      stopped = by (subst (λ o. IsServed (views c) h.keys IsGood (library_interface f).result (site_at q.between)
          (parameters_of f) (results_of f) bound line (spent 12 s) o q.serves.stage) is q.serves.holds)
        where
          by : HasTold (map_of c) e line (site_at q.between) (results_of f) bound x' q.serves.stage
              ⊎ HasExited (map_of c) e (site_at q.between) x' q.serves.stage
              → Follows (Over e (spent (3 * (x'.work - (s.work + 12))) x'))
          by (inr exited) =
              let t = told_status (statuses_of f) line e told.0 in
              let both : None ≡ Some t.0 = sym exited.no_status ∙ t.1 in cc
          by (inl t) =
              let m = map_of c in
              let p = c.layout.program in
              let y = t.behind.state in
              let q1 = at_call + 1 in
              let come = reached_then m p u xs pc at_call q1 v q.between y (2 * parameters_of f) bound q.come
              (record { steps = q.serves.steps; comes = q.serves.comes ∙ t.behind.at; few = t.behind.work }) in
              let end = status_ends m p u xs into line (statuses_of f) t.kind q1 y e
              (has_front body q1 tests ended_by has_call.1) (all_told f line) t.status
              (told_among (statuses_of f) t.kind line e told.0 t.ending_is) t.ending_is in
              let z : State = spent (3 * (x'.work - (s.work + 12))) x' in
              let some = has_report e t.kind (tells t.kind line e t.ending_is) in
              let few = affords_end f (x'.work - (s.work + 12)) (length (report_of e)) some in
              let bound_is = bound_is (Ended e x') is in
              let later = told.1.work in
              let turned = told.1.turns in
              let turns = q.acted.stands.turns in
              let left_turns = t.behind.turns in
              let few_call = come.few in
              let few_end = end.few in
              let before = h.work in
              ends c IsGood (flat.Stands u pc v xs) e z (record y { work = y.work + end.work }) (come.steps + end.steps)
              (code_of e) (report_of e)
              (run_add (step m p) come.steps end.steps (flat.Stands u pc v xs)
              ∙ ap (steps_of (step m p) end.steps) come.comes ∙ end.comes)
              refl refl
              (record {
                input = t.shown.input;
                output = t.shown.output;
                taken = t.shown.taken;
                accesses = t.shown.accesses;
              })
              (omega arith) (omega arith)

    -- ---- the step

    pub library_call : Follows (effect c.setting (expansion_of c).code
        (tac.Library (routine_of f) line d count next) u temps ws (spent 12 s))
    library_call = by (does paid) refl
      where
        by : (o : Outcome Value)
            → routine_run c.setting (routine_of f) (values_of (gathered temps d count)) line (spent 12 s) ≡ o
            → Result c IsGood (came (fourfold (s.work + 12) (on o (λ z. give z))) (given_in u next temps d ws))
            (flat.Stands u (c.layout.address u n) v xs)
        by (Gives value x') e = gave called value x' e
        by (Ended ending x') e = stopped called ending x' e
        by (Paused x') e = absurd (served_by (Paused x') e)

  -- whatever the routine
  pub routine_step : (r : Routine) (line d count next : ℕ)
      → slice_get h.code.code n ≡ Some (tac.Library r line d count next)
      → are_passed (routine_signature r).parameters (gathered temps d count) ≡ true
      → Follows (effect c.setting (expansion_of c).code (tac.Library r line d count next) u temps ws (spent 12 s))
  routine_step routine.Malloc line d count next at fits = library_call library.Malloc line d count next at fits
  routine_step routine.Calloc line d count next at fits = library_call library.Calloc line d count next at fits
  routine_step routine.Free line d count next at fits = library_call library.Free line d count next at fits
  routine_step routine.Realloc line d count next at fits = library_call library.Realloc line d count next at fits
  routine_step routine.Memcpy line d count next at fits = library_call library.Memcpy line d count next at fits
  routine_step routine.Memmove line d count next at fits = library_call library.Memmove line d count next at fits
  routine_step routine.Memset line d count next at fits = library_call library.Memset line d count next at fits
  routine_step routine.Memcmp line d count next at fits = library_call library.Memcmp line d count next at fits
  routine_step routine.Strlen line d count next at fits = library_call library.Strlen line d count next at fits
  routine_step routine.Strcmp line d count next at fits = library_call library.Strcmp line d count next at fits
  routine_step routine.Strcpy line d count next at fits = library_call library.Strcpy line d count next at fits
  routine_step routine.Strncpy line d count next at fits = library_call library.Strncpy line d count next at fits
  routine_step routine.Strcat line d count next at fits = library_call library.Strcat line d count next at fits
  routine_step routine.Strchr line d count next at fits = library_call library.Strchr line d count next at fits
  routine_step routine.Puts line d count next at fits = library_call library.Puts line d count next at fits
  routine_step r line d count next at fits =
      library_step c IsGood right u n temps ws s v xs h words r line d count next refl at fits
