-- Calls by name: the tests, the arguments, and where the function begins.
use Rattle.std.proofs.Common.{◌≡◌, ⊎_elim, inl, ℕ, ◌+◌, ◌-◌, ◌*◌, ◌^◌, ◌<◌, ◌≤◌, Bool, true, false, List}
use Rattle.std.proofs.Common.{[], ◌∷◌, ◌++◌, length, length-append, map, Option, Some, None, refl, sym, ap, ◌∙◌, subst}
use Rattle.std.proofs.Common.{arith}
use Rattle.std.proofs.Common.{get_or, le-leb, mul-le-mul_right}
use Rattle.std.specs.Prelude.{slice_get, nat_le, nat_lt, not, ◌==◌, ◌&&◌, ◌||◌, if◌then◌else◌}
use Rattle.std.proofs.lemmas.Bool.{and_from, and_parts, cases_lt, eq-eqb, lt-leb, lt-ltb}
use Rattle.std.proofs.lemmas.List.{length-map}
use Rattle.addr_map.specs.Places.{MapSizes}
use Rattle.sb_base.specs.declared.ending.Ending.TheVariants.{Abort as AbortAt, BadCall, Stack}
use Rattle.sb_base.specs.Endings.{code_of, report_of}
use Rattle.c_tree.specs.declared.expression.Kind.{Kind}
use Rattle.c_tree.specs.declared.expression.Kind.TheVariants.{Void}
use Rattle.c_tree.specs.declared.program.Variable.{Variable}
use Rattle.c_tree.specs.Room.{structure_bytes}
use Rattle.source_meaning.specs.State.{State, Rvalue}
use Rattle.source_meaning.specs.Blocks.{has_objects, objects_end}
use Rattle.source_meaning.specs.Calls.{caller}
use Rattle.source_meaning.specs.Places.{stack_end}
use Rattle.tac_ir.specs.declared.instruction.Instruction.{Instruction}
use Rattle.tac_ir.specs.declared.instruction.Instruction.TheVariants as tac
use Rattle.tac_ir.specs.declared.function.CodeFunction.{CodeFunction}
use Rattle.tac_ir.specs.declared.function.Tac.{Tac}
use Rattle.tac_ir.specs.Fitting.{are_passed, taken_by}
use Rattle.tac_ir.specs.Stage.{Temps, no_temps, gathered, Waiting, Frame, Waits, Stage, Stands, Over, came}
use Rattle.tac_ir.specs.Costs.{spent, fourfold}
use Rattle.tac_ir.specs.Structures.{result_of as result_in}
use Rattle.tac_ir.specs.Meaning.{function_in as code_in, header_of_code, begun, called_at, effect, fit_call}
use Rattle.flat_code.specs.declared.instruction.FlatInstruction.{FlatInstruction}
use Rattle.flat_code.specs.declared.instruction.FlatInstruction.TheVariants as flat_code
use Rattle.flat_code.specs.declared.function.FlatProgram.{FlatProgram}
use Rattle.flat_code.specs.Memory.{Bytes}
use Rattle.flat_code.specs.State as flat
use Rattle.flat_code.specs.Calls.{function_in, charged}
use Rattle.flat_code.specs.Meaning.{body_of, weight_of}
use Rattle.flat_code.specs.Words.{HasWords}
use Rattle.flat_code.proofs.Stored.{put_other}
use Rattle.flat_code.specs.Routines.Routine.{HasAt}
use Rattle.flat_code.proofs.Routines.Steps.{has_front, has_back}
use Rattle.metadata_plan.specs.Blocks.{call_tests}
use Rattle.metadata_plan.specs.Registers.{most_temporaries}
use Rattle.metadata_plan.specs.Entries.{is_among, is_moved_with_entry, is_argument_with_entry, parameter_kinds}
use Rattle.metadata_plan.specs.Expanded.{Leads}
use Rattle.metadata_plan.specs.Operators.{OperatorCode}
use Rattle.metadata_plan.proofs.Calling.{tested, tests_pass, tests_end}
use Rattle.metadata_plan.proofs.Flat.{at_place, weight_small, Comes, end_step, one}
use Rattle.metadata_plan.proofs.SetUp.{exhausted}
use Rattle.metadata_relation.specs.Blocks.{await_result, objects_of_body, result_of, result_code, pack, call_code}
use Rattle.metadata_relation.specs.Blocks.{call_of, object_tests}
use Rattle.metadata_relation.specs.Registers.{temporary_register}
use Rattle.metadata_relation.specs.Registers.{moved_register, first_free}
use Rattle.metadata_relation.specs.Stages.{Compiled, map_of, expansion_of}
use Rattle.metadata_relation.specs.Stages.{IsAt}
use Rattle.metadata_relation.specs.Steps.{comes_to, IsCompiled, is_covered_call, result_comes_to}
use Rattle.metadata_relation.proofs.Assigning.{assigned}
use Rattle.metadata_relation.proofs.AwaitedResults.{awaits_result, result_fits}
use Rattle.metadata_relation.proofs.Handing as handing
use Rattle.metadata_relation.proofs.Packing.{ways_of}
use Rattle.metadata_relation.proofs.Packing.{count_passed}
use Rattle.metadata_relation.proofs.ObjectTests.{IsTestedHere, no_key_stops, no_room_stops, tested_here}
use Rattle.metadata_relation.proofs.Standing.{IsNode, node, ends, Result}
use Rattle.metadata_relation.proofs.Entering.{IsCoveredCall, covered_call, call_stage}

-- where there are objects there is a key
pub spare_or : (some key : Bool) → (some ≡ true → key ≡ true) → (not some || key) ≡ true
spare_or true key h = h refl
spare_or false key h = refl

-- ---- a call at a node

module _ (c : Compiled) (IsGood : Bytes → Type 0) (right : IsCompiled c IsGood) (u n : ℕ) (temps : Temps)
    (ws : List Frame) (s : State) (v : flat.State) (xs : List flat.Frame)
    (h : IsAt c IsGood u n temps ws s u (c.layout.address u n) v xs)
    (words : HasWords (flat.Stands u (c.layout.address u n) v xs)) where
  abbrev pc : ℕ
  pc = c.layout.address u n

  abbrev T : (temporary : ℕ) → ℕ
  T i = temporary_register h.code i

  abbrev free : ℕ
  free = first_free h.code

  abbrev map_now : MapSizes
  map_now = map_of c

  abbrev program : FlatProgram
  program = c.layout.program

  abbrev code : Tac
  code = c.layout.expansion.code

  abbrev ops : OperatorCode
  ops = c.layout.expansion.inline.operators

  abbrev Gives : Stage → Type 0
  Gives a = Result c IsGood a (flat.Stands u (c.layout.address u n) v xs)

  abbrev body : List FlatInstruction
  body = body_of (function_in c.layout.program u)

  module _ (f line d count next : ℕ) (at : slice_get h.code.code n ≡ Some (tac.Call f line d count next)) where
    abbrev i : Instruction
    i = tac.Call f line d count next

    label : IsNode c u n h.code (tac.Call f line d count next)
    label = node c IsGood right u n temps ws s v xs h (tac.Call f line d count next) at

    lows : (d < most_temporaries h.code.code) × (d + count ≤ most_temporaries h.code.code)
    lows = let a = label.temporaries_low in (omega arith, omega arith)

    abbrev with_entry : Bool
    with_entry = c.layout.expansion.entries u next d

    abbrev waits : Waiting
    waits = record { function = u; node = next; place = d; caller = caller s; temps = temps }

    abbrev packed_at : ℕ
    packed_at = moved_register h.code (5 * d)

    -- of a function that is not there
    missing : code_in c.layout.expansion.code f ≡ None → Gives (Over (BadCall line) (spent 6 s))
    missing none =
        let has = subst (λ o. HasAt body pc (call_of ops map_now code h.code o f line d count with_entry)) none label.put.has in
        let shown = h.stands.for.shown in
        let before = h.work in
        let bytes = mul-le-mul_right (1 + length (report_of (BadCall line))) (weight_small (function_in program u)) in
        ends c IsGood (flat.Stands u pc v xs) (BadCall line) (spent 6 s)
        (record v { work = v.work + weight_of (function_in program u) * (1 + length (report_of (BadCall line))) }) 1
        (code_of (BadCall line)) (report_of (BadCall line)) (end_step map_now program u pc v xs (BadCall line) has.0) refl
        refl
        (record { input = shown.input; output = shown.output; taken = shown.taken; accesses = shown.accesses })
        h.stands.turns (omega (arith, before, bytes))

    module _ (k : CodeFunction) (found : code_in c.layout.expansion.code f ≡ Some k)
        (passed : are_passed (taken_by (header_of_code k)) (gathered temps d count) ≡ true)
        (plain : IsCoveredCall c IsGood right k)
        (comes_there : comes_to (result_of c.layout.expansion.code k) (c.layout.expansion.contents u next d) ≡ true)
      where
        count_is : count ≡ length k.parameters
        count_is = count_passed (taken_by (header_of_code k)) temps d count passed ∙ length-map k.parameters _

        abbrev tests : List FlatInstruction
        tests = call_tests (map_of c) k.room line (first_free h.code)

        abbrev moves : List FlatInstruction
        moves = pack h.code (ways_of k.parameters) (moved_register h.code (5 * d)) d

        abbrev kind : Kind
        kind = result_of c.layout.expansion.code k

        abbrev behind : List FlatInstruction
        behind = result_code c.layout.expansion.code h.code (result_of c.layout.expansion.code k)
            (c.layout.expansion.entries u next d) d

        abbrev waiting : List FlatInstruction
        waiting = await_result c.layout.expansion.inline.operators (map_of c) c.layout.expansion.code h.code
            (result_of c.layout.expansion.code k) d

        abbrev calls : List FlatInstruction
        calls = flat_code.Call f (moved_register h.code (5 * d)) (temporary_register h.code d) ∷ behind

        abbrev spaces : List FlatInstruction
        spaces = object_tests (map_of c) (objects_of_body k) line (first_free h.code)

        abbrev Stood : List FlatInstruction → Type 0
        Stood list = HasAt body (c.layout.address u n) list
            × Leads body (c.layout.address u n + length list) (c.layout.address u next)

        stood : HasAt (body_of (function_in c.layout.program u)) (c.layout.address u n)
            (tests ++ (spaces ++ (waiting ++ (moves ++ calls))))
            × Leads (body_of (function_in c.layout.program u))
            (c.layout.address u n + length (tests ++ (spaces ++ (waiting ++ (moves ++ calls))))) (c.layout.address u next)
        stood =
            subst (λ b. Stood (if b then call_code ops map_now code h.code k f line d with_entry
            else flat_code.End (AbortAt line) ∷ [])) (eq-eqb (length k.parameters) count (sym count_is))
            (subst (λ o. Stood (call_of ops map_now code h.code o f line d count with_entry)) found
            (label.put.has, label.put.leads))

        abbrev at_wait : ℕ
        at_wait = c.layout.address u n + 4 + length spaces

        abbrev at_moves : ℕ
        at_moves = at_wait + length waiting

        abbrev q : ℕ
        q = at_moves + length moves

        has_tests : HasAt body pc tests
        has_tests = has_front body pc tests (spaces ++ (waiting ++ (moves ++ calls))) stood.0

        has_more : HasAt body (pc + 4) (spaces ++ (waiting ++ (moves ++ calls)))
        has_more = has_back body pc tests (spaces ++ (waiting ++ (moves ++ calls))) stood.0

        has_wait : HasAt body at_wait (waiting ++ (moves ++ calls))
        has_wait = has_back body (pc + 4) spaces (waiting ++ (moves ++ calls)) has_more

        has_rest : HasAt body at_moves (moves ++ calls)
        has_rest = has_back body at_wait waiting (moves ++ calls) has_wait

        has_call : HasAt body q calls
        has_call = has_back body at_moves moves calls has_rest

        leads_behind : Leads body (q + 1 + length behind) (c.layout.address u next)
        leads_behind = subst (λ z. Leads body z (c.layout.address u next))
            (omega (
              arith,
              length-append tests (spaces ++ (waiting ++ (moves ++ calls))),
              length-append spaces (waiting ++ (moves ++ calls)),
              length-append waiting (moves ++ calls),
              length-append moves calls,
            )) stood.1

        low_calls : (map_of c).budgets.calls < 2 ^ 63
        low_calls = let z = right.mapped.budgets.calls.greatest in omega (arith, z)

        abbrev vs : List Rvalue
        vs = gathered temps d count

        -- no bytes are left for it
        exhausts : (map_of c).budgets.calls < s.charged + k.room
            → Gives (call_stage c IsGood right u pc q v xs f k found plain line packed_at (T d) vs (Waits waits ∷ ws)
            (spent 6 s))
        exhausts more =
            let budget = ap (λ (z : MapSizes). z.budgets.calls) right.sizes in
            let charge = h.charge in
            let fits = h.fits in
            let none = exhausted c.setting (header_of_code k) vs line (begun (spent 6 s))
            (lt-leb (s.charged + k.room) c.setting.sizes.budgets.calls (omega (arith, more, budget))) in
            let r = tests_end map_now program u pc v xs k.room line free has_tests low_calls (omega (arith, more, charge))
            (omega (arith, charge, fits)) in
            let stopped : State = (let z : State = record (begun (spent 6 s)) { work = s.work + 6 + 1 } in
            spent (3 * (z.work - (s.work + 6))) z) in
            let shown = h.stands.for.shown in
            let before = h.work in
            let few = r.few in
            let turned = h.stands.turns in
            let result : Gives (Over (Stack line) stopped) =
            ends c IsGood (flat.Stands u pc v xs) (Stack line) stopped
            (record (tested map_now program u pc v xs k.room line free has_tests low_calls) { work = v.work + r.work })
            r.steps (code_of (Stack line)) (report_of (Stack line)) r.comes refl refl
            (record { input = shown.input; output = shown.output; taken = shown.taken; accesses = shown.accesses })
            (omega (arith, turned)) (omega (arith, few, before)) in
            subst (λ z. Gives (came (fourfold (s.work + 6) z) (λ _ y. Stands f k.entry no_temps (Waits waits ∷ ws) y)))
            (sym none) result

        -- ---- the function is entered

        module _ (fits : s.charged + k.room ≤ (map_of c).budgets.calls) where
          inside : charged c.layout.program u xs + k.room ≤ (map_of c).budgets.calls
          inside = let charge = h.charge in omega (arith, fits, charge)

          first_part : Comes (map_of c) c.layout.program u (c.layout.address u n) v xs (c.layout.address u n + 4)
              (tested (map_of c) c.layout.program u (c.layout.address u n) v xs k.room line (first_free h.code) has_tests
              low_calls) 6
          first_part = tests_pass map_now program u pc v xs k.room line free has_tests low_calls inside

          abbrev first_values : flat.Values
          first_values = (tested (map_of c) c.layout.program u (c.layout.address u n) v xs k.room line (first_free h.code)
              has_tests low_calls).values

          fits_charge : nat_le (s.charged + k.room) c.setting.sizes.budgets.calls ≡ true
          fits_charge = (let budget = ap (λ (z : MapSizes). z.budgets.calls) right.sizes in
              le-leb (s.charged + k.room) c.setting.sizes.budgets.calls (omega (arith, fits, budget)))

          abbrev has_room : Bool
          has_room = nat_le (objects_end (objects_of_body k) s.stacked) (stack_end c.setting)

          abbrev has_key : Bool
          has_key = nat_lt s.keys c.setting.sizes.budgets.keys

          abbrev go_on : Unit {0} → State → Stage
          go_on _ z = Stands f k.entry no_temps (Waits waits ∷ ws) z

          has_spaces : HasAt body (pc + 4) spaces
          has_spaces = has_front body (pc + 4) spaces (waiting ++ (moves ++ calls)) has_more

          passed_tests : IsTestedHere c IsGood right u n temps ws s v xs h (header_of_code k) (gathered temps d count) line 6
              go_on (c.layout.address u n + 4) 6 first_values first_part has_spaces fits_charge (omega arith) has_room
              (not (has_objects (objects_of_body k)) || has_key)
          passed_tests = tested_here c IsGood right u n temps ws s v xs h (header_of_code k) (gathered temps d count) line 6
              go_on (pc + 4) 6 first_values first_part has_spaces fits_charge (omega arith)

          handed : (x : ℕ) → x < count
              → is_moved_with_entry (get_or (map (λ (z : Variable). z.kind) k.parameters) x Void) ≡ true
              → c.layout.expansion.entries u n (d + x) ≡ true
          handed x low moves =
              label.closed.read n (d + x) i at
              (ap (λ o. is_argument_with_entry (parameter_kinds o) d count (d + x)) found
              ∙ and_from (is_among d count (d + x)) (is_moved_with_entry
              (get_or (map (λ (z : Variable). z.kind) k.parameters) (d + x - d) Void))
              (and_from (nat_le d (d + x)) (nat_lt (d + x) (d + count)) (le-leb d (d + x) (omega arith))
              (lt-ltb (d + x) (d + count) (omega (arith, low))))
              (ap (λ z. is_moved_with_entry (get_or (map (λ (z : Variable). z.kind) k.parameters) z Void))
              (omega arith) ∙ moves))

          abbrev Entered : Type 0
          Entered = Gives (call_stage c IsGood right u pc q v xs f k found plain line packed_at (T d) vs
              (Waits waits ∷ ws) (spent 6 s))

          enters_it : has_room ≡ true → (has_objects (objects_of_body k) ≡ true → has_key ≡ true) → Entered
          enters_it space spare =
              let t = passed_tests in
              let keyed : (not (has_objects (objects_of_body k)) || has_key) ≡ true =
              spare_or (has_objects (objects_of_body k)) has_key spare in
              let part : Comes (map_of c) c.layout.program u pc v xs at_wait
              (record v { turns = v.turns + 1; values = t.values }) 40 =
              at_place (map_of c) c.layout.program u pc v xs t.place at_wait
              (record v { turns = v.turns + 1; values = t.values }) 40 t.comes (t.behind space keyed) in
              let w = awaits_result c IsGood right u n temps ws s v xs h words d next kind at_wait 40 t.values
              (result_fits c IsGood right u n temps ws s v xs h words d next i at kind
              (ap (λ o. if d == d then structure_bytes (result_in code.results o) else 0) found)) comes_there
              (has_front body at_wait waiting (moves ++ calls) has_wait) part in
              handing.enters_it c IsGood right u n temps ws s v xs h words i label d d count next 6 refl (inl refl) lows.0
              lows.1 f line k found passed plain handed (flat_code.Call f packed_at (T d)) at_moves 110 w.values
              has_rest leads_behind w.comes (omega arith) w.awaits
              (λ y lt. w.others y lt ∙ t.others y lt ∙ put_other v.values free _ y (λ e. omega (arith, lt, e))) fits space
              spare
              (λ z. one map_now program u q
              (record v { turns = v.turns + 1; values = assigned moves w.values; work = z }) xs
              (flat_code.Call f packed_at (T d)) has_call.0)

          -- the tests of its objects
          by_keys : has_room ≡ true → (a b : Bool) → has_objects (objects_of_body k) ≡ a → has_key ≡ b → Entered
          by_keys space true true some spare = enters_it space (λ e. spare)
          by_keys space true false some none =
              no_key_stops c IsGood right u n temps ws s v xs h (header_of_code k) vs line 6 go_on (pc + 4) 6 first_values
              first_part has_spaces fits_charge (omega arith) space some none
          by_keys space false b none e = enters_it space (λ some. (let both : true ≡ false = sym some ∙ none in cc))

          by_space : (a : Bool) → has_room ≡ a → Entered
          by_space true e = by_keys e (has_objects (objects_of_body k)) has_key refl refl
          by_space false e =
              no_room_stops c IsGood right u n temps ws s v xs h (header_of_code k) vs line 6 go_on (pc + 4) 6 first_values
              first_part has_spaces fits_charge (omega arith) e

        called : Gives (called_at c.setting (Some k) f vs line (Waits waits ∷ ws) (spent 6 s))
        called =
            ⊎_elim (λ more. exhausts more)
            (λ fits. by_space fits (nat_le (objects_end (objects_of_body k) s.stacked) (stack_end c.setting)) refl)
            (cases_lt (map_of c).budgets.calls (s.charged + k.room))

    pub call_step : fit_call (code_in c.layout.expansion.code f) (gathered temps d count) ≡ true
        → (is_covered_call c.layout.expansion.code (code_in c.layout.expansion.code f)
        && result_comes_to c.layout.expansion.code (code_in c.layout.expansion.code f) (c.layout.expansion.contents u next d))
        ≡ true
        → Gives (effect c.setting (expansion_of c).code (tac.Call f line d count next) u temps ws (spent 6 s))
    call_step = by (code_in c.layout.expansion.code f) refl
      where
        by : (o : Option CodeFunction) → code_in c.layout.expansion.code f ≡ o
            → fit_call o (gathered temps d count) ≡ true
            → (is_covered_call c.layout.expansion.code o
            && result_comes_to c.layout.expansion.code o (c.layout.expansion.contents u next d)) ≡ true
            → Gives (called_at c.setting o f (gathered temps d count) line (Waits waits ∷ ws) (spent 6 s))
        by None found passed plain = missing found
        by (Some k) found passed plain =
            let parts = and_parts (is_covered_call c.layout.expansion.code (Some k))
            (comes_to (result_of c.layout.expansion.code k) (c.layout.expansion.contents u next d)) plain in
            called k found passed (covered_call c IsGood right k parts.0) parts.1
