-- Calls through pointers: the callee is tested, and called as by name.
use Rattle.std.proofs.Common.{◌≡◌, ⊎_elim, inl, ℕ, ◌+◌, ◌-◌, ◌*◌, ◌^◌, ◌<◌, ◌≤◌, Bool, true, false, List}
use Rattle.std.proofs.Common.{[], ◌∷◌, ◌++◌, length, length-append, map, Option, Some, None, refl, sym, ap, ◌∙◌, subst}
use Rattle.std.proofs.Common.{arith}
use Rattle.std.proofs.Common.{get_or, le-leb}
use Rattle.std.specs.Prelude.{slice_get, nat_le, nat_lt, not, ◌||◌, min, ◌==◌, ◌&&◌, ◌/◌, ◌%◌, if◌then◌else◌}
use Rattle.std.proofs.Math.Nat.{le-min, min-le_left}
use Rattle.std.proofs.Common.{ap₂, ◌⊎◌, inr, le-ltb}
use Rattle.std.proofs.lemmas.Bool.{and_from, and_parts, cases_lt, eq-eqb, eqb-true, lt-leb, lt-ltb, ne_eqb}
use Rattle.std.proofs.lemmas.List.{length-map}
use Rattle.addr_map.specs.declared.region.Region.TheVariants.{Stack as StackRegion}
use Rattle.addr_map.specs.Places.{MapSizes, region_end}
use Rattle.sb_base.specs.declared.ending.Ending.TheVariants.{Abort as AbortAt, BadCall, Keys, Stack}
use Rattle.obj_memory.specs.Sound.{IsSoundTag}
use Rattle.c_tree.specs.declared.expression.Kind.{Kind}
use Rattle.c_tree.specs.declared.expression.Kind.TheVariants.{Void}
use Rattle.c_tree.specs.declared.program.Variable.{Variable}
use Rattle.c_tree.specs.Room.{structure_bytes}
use Rattle.source_meaning.specs.State.{State, Rvalue}
use Rattle.source_meaning.specs.Blocks.{has_objects, objects_end}
use Rattle.source_meaning.specs.Calls.{caller}
use Rattle.source_meaning.specs.Keeping.{AreSeparate}
use Rattle.source_meaning.specs.Places.{stack_end}
use Rattle.tac_ir.specs.declared.instruction.Instruction.{Instruction}
use Rattle.tac_ir.specs.declared.instruction.Instruction.TheVariants as tac
use Rattle.tac_ir.specs.declared.function.CodeFunction.{CodeFunction}
use Rattle.tac_ir.specs.declared.function.Tac.{Tac}
use Rattle.tac_ir.specs.Fitting.{are_passed, taken_by}
use Rattle.tac_ir.specs.Stage.{Temps, no_temps, gathered, Waiting, Frame, Waits, Stage, Stands, Over, came}
use Rattle.tac_ir.specs.Costs.{spent, fourfold}
use Rattle.tac_ir.specs.Structures.{result_of_type}
use Rattle.tac_ir.specs.Meaning.{function_in as code_in, header_of_code, begun, called_at, effect}
use Rattle.flat_code.specs.declared.instruction.FlatInstruction.{FlatInstruction}
use Rattle.flat_code.specs.declared.instruction.FlatInstruction.TheVariants as flat_code
use Rattle.flat_code.specs.declared.function.FlatProgram.{FlatProgram}
use Rattle.flat_code.specs.Memory.{Bytes}
use Rattle.flat_code.specs.State as flat
use Rattle.flat_code.specs.Calls.{function_in, charged}
use Rattle.flat_code.specs.Meaning.{body_of}
use Rattle.flat_code.specs.Words.{HasWords}
use Rattle.flat_code.specs.Routines.Routine.{HasAt}
use Rattle.flat_code.proofs.Routines.Steps.{has_front, has_back}
use Rattle.lib_wrappers.specs.AllocatingRoutines.Entering.{block_bytes}
use Rattle.lib_wrappers.proofs.AllocatingRoutines.SourceEntries.{some_bytes}
use Rattle.metadata_plan.specs.Registers.{most_temporaries}
use Rattle.metadata_plan.specs.Entries.{is_among, is_moved_with_entry}
use Rattle.metadata_plan.specs.Expanded.{Leads}
use Rattle.metadata_plan.specs.Operators.{OperatorCode}
use Rattle.metadata_plan.proofs.Flat.{Comes, then_comes, at_place, weaker, one}
use Rattle.metadata_plan.proofs.SetUp.{exhausted}
use Rattle.metadata_relation.specs.Blocks.{await_result, objects_of_body, result_of, result_code, pack}
use Rattle.metadata_relation.specs.Holding.{IsHeldAt}
use Rattle.metadata_relation.specs.Registers.{parameters_end}
use Rattle.metadata_relation.specs.Registers.{temporary_register}
use Rattle.metadata_relation.specs.Registers.{moved_register, first_free}
use Rattle.metadata_relation.specs.Stages.{Compiled, map_of, names, views, world, expansion_of}
use Rattle.metadata_relation.specs.Stages.{IsAt}
use Rattle.metadata_relation.specs.Steps.{IsCompiled}
use Rattle.metadata_relation.proofs.Assigning.{assigned}
use Rattle.metadata_relation.proofs.AwaitedResults.{awaits_result, IsAwaited, result_fits}
use Rattle.metadata_relation.proofs.Packing.{ways_of}
use Rattle.metadata_relation.proofs.Packing.{count_passed}
use Rattle.metadata_relation.proofs.Registers.{temporary_free}
use Rattle.metadata_relation.proofs.Standing.{good_now, IsNode, node, Result}
use Rattle.metadata_relation.proofs.Entering.{there, IsCoveredCall, covered_call, call_stage}
use Rattle.addr_map.specs.Places.{functions_begin, function_address}
use Rattle.obj_memory.specs.declared.object.Storage.{Storage}
use Rattle.obj_memory.specs.declared.object.Storage.TheVariants.{Static, Automatic, Allocated}
use Rattle.obj_memory.specs.declared.value.Tag.{Tag}
use Rattle.obj_memory.specs.declared.value.Tag.TheVariants.{OfFunction}
use Rattle.obj_memory.specs.Objects.{object_at}
use Rattle.obj_memory.specs.Heap.{rounded_up}
use Rattle.flat_code.specs.declared.function.FlatFunction.{FlatFunction}
use Rattle.source_meaning.specs.Expressions.{callee_by, has_type, header_at}
use Rattle.source_meaning.specs.State.{Ended}
use Rattle.tac_ir.specs.Fitting.{fit_type}
use Rattle.tac_ir.specs.Meaning.{called}
use Rattle.flat_code.specs.Calls.{function_at, is_of_program}
use Rattle.flat_code.specs.Meaning.{at_instruction, enters as enters_flat, enters_at, instruction_at, parameters_of}
use Rattle.flat_code.specs.Meaning.{results_of, step}
use Rattle.flat_code.specs.Routines.Objects.StandsFor.{Spells, spell}
use Rattle.runtime_functions.specs.Library.{Passed, held_from}
use Rattle.metadata_plan.specs.Entries.{given}
use Rattle.metadata_relation.specs.Blocks.{Expansion, callee_tests, room_tests, unknown_object_tests, through_code}
use Rattle.metadata_relation.specs.Blocks.{through_of}
use Rattle.metadata_relation.specs.Expanded.{ExpandsAt}
use Rattle.metadata_relation.specs.FunctionTypes.{first_of_type, object_units, room_told, type_key_of}
use Rattle.metadata_relation.specs.Registers.{result_words}
use Rattle.metadata_relation.specs.Steps.{are_covered_calls, are_sized, comes_to}
use Rattle.metadata_relation.proofs.CalleeTests as callee_run
use Rattle.metadata_relation.proofs.Handing as handing
use Rattle.metadata_relation.proofs.Handing.{held_at}
use Rattle.metadata_relation.proofs.FunctionTypes.{is_callee, FindsBy, finds, none_found, first_typed, none_typed}
use Rattle.metadata_relation.proofs.FunctionTypes.{type_at}
use Rattle.metadata_relation.proofs.FunctionTypes.{units_told, room_told_by}
use Rattle.metadata_relation.proofs.FunctionsOfType.{there_at, plain_at, passed_to, take_alike, headers_are, kind_low}
use Rattle.metadata_relation.proofs.FunctionsOfType.{inside_list}
use Rattle.metadata_relation.proofs.FunctionsOfType.{units_low, room_low, key_is, kind_tells, code_count}
use Rattle.metadata_relation.proofs.BlockHomes.{sized_by}
use Rattle.metadata_relation.proofs.Calls.{spare_or}
use Rattle.metadata_relation.proofs.ObjectTests.{counted_is, ends_at, key_same, keys_spent, none_fit, room_same}
use Rattle.metadata_relation.proofs.ObjectTests.{some_units_tested, space_spent, stops_at, top_is, units_fit}
use Rattle.metadata_relation.proofs.RoomTests.{IsRoomTested, room_tested, no_units}

-- ---- the address of a function

address_of : (f : ℕ) → (function_address f - functions_begin) / 16 ≡ f
unfolding function_address
address_of f = omega arith

-- it names the function
names_function : (p : FlatProgram) (f : ℕ) → is_of_program (function_in p f) ≡ true
    → function_at p (function_address f) ≡ Some f
unfolding function_at
names_function p f e =
    ap (λ k. if (function_address k == function_address f) && is_of_program (function_in p k) then Some k else None)
    (address_of f)
    ∙ ap (λ b. if b then Some f else None)
    (and_from (function_address f == function_address f) (is_of_program (function_in p f))
    (eq-eqb (function_address f) (function_address f) refl) e)

of_program : (e : Expansion) (u : ℕ) (c : CodeFunction) (address : ℕ → ℕ) (q : Option FlatFunction)
    → ExpandsAt e u c address q → is_of_program q ≡ true
of_program e u c address None h = absurd h
of_program e u c address (Some f) h = ap (λ b. if b then false else true) h.of_program

-- a call by an address does what one by name does
by_name : (m : MapSizes) (p : FlatProgram) (u q : ℕ) (v : flat.State) (xs : List flat.Frame) (f y first count into r : ℕ)
    → instruction_at p u q ≡ Some (flat_code.CallAddress y first count into r)
    → function_at p (v.values y) ≡ Some f → count ≡ parameters_of (function_in p f)
    → r ≡ results_of (function_in p f)
    → step m p (flat.Stands u q v xs) ≡ at_instruction m p (Some (flat_code.Call f first into)) u q v xs
by_name m p u q v xs f y first count into r at found counted given =
    let frames : List flat.Frame = record { function = u; next = q + 1; into = into; values = v.values } ∷ xs in
    one m p u q v xs (flat_code.CallAddress y first count into r) at
    ∙ ap (λ o. enters_at m p o first count r frames (record v { work = v.work + (8 + 2 * count) })) found
    ∙ ap₂ (λ a b. enters_flat m p f first a b (function_in p f) frames (record v { work = v.work + (8 + 2 * a) }))
    counted given

-- ---- the room of a callee

told_fits : (charge room calls : ℕ) → charge + room ≤ calls
    → nat_lt (charge + min room (2 ^ 24 + 1)) (calls + 1) ≡ true
told_fits charge room calls fits =
    lt-ltb (charge + min room (2 ^ 24 + 1)) (calls + 1) (omega (arith, fits, min-le_left room (2 ^ 24 + 1)))

told_exceeds : (charge room calls : ℕ) → calls ≤ 2 ^ 24 → charge ≤ calls → calls < charge + room
    → nat_lt (charge + min room (2 ^ 24 + 1)) (calls + 1) ≡ false
told_exceeds charge room calls low inside more =
    let least : calls + 1 - charge ≤ min room (2 ^ 24 + 1) = le-min (omega (arith, more)) (omega (arith, low)) in
    le-ltb (charge + min room (2 ^ 24 + 1)) (calls + 1) (omega (arith, least, inside))

-- a storage that is static, or not
static_or : (st : Storage) → (st ≡ Static) ⊎ (st ≡ Static → ⊥)
static_or Static = inl refl
static_or Automatic = inr (λ e. cc)
static_or Allocated = inr (λ e. cc)

module _ (c : Compiled) (IsGood : Bytes → Type 0) (right : IsCompiled c IsGood) (u n : ℕ) (temps : Temps)
    (ws : List Frame) (s : State) (v : flat.State) (xs : List flat.Frame)
    (h : IsAt c IsGood u n temps ws s u (c.layout.address u n) v xs)
    (words : HasWords (flat.Stands u (c.layout.address u n) v xs)) where
  abbrev pc : ℕ
  pc = c.layout.address u n

  abbrev T : (temporary : ℕ) → ℕ
  T i = temporary_register h.code i

  abbrev free : ℕ
  free = first_free h.code

  abbrev map_now : MapSizes
  map_now = map_of c

  abbrev program : FlatProgram
  program = c.layout.program

  abbrev code : Tac
  code = c.layout.expansion.code

  abbrev ops : OperatorCode
  ops = c.layout.expansion.inline.operators

  abbrev fs : List CodeFunction
  fs = c.layout.expansion.code.functions

  abbrev Gives : Stage → Type 0
  Gives a = Result c IsGood a (flat.Stands u (c.layout.address u n) v xs)

  abbrev body : List FlatInstruction
  body = body_of (function_in c.layout.program u)

  abbrev ComesTo : (place : ℕ) → (after : flat.State) → (most : ℕ) → Type 0
  ComesTo = Comes (map_of c) c.layout.program u (c.layout.address u n) v xs

  -- objects have keys below those of functions
  keys_low : (o : ℕ) → o < length s.objects → (h.keys.held o).key < 2 ^ 63
  keys_low o low =
      let keyed = h.stands.for.objects.keyed.each o low in
      let made = h.stands.for.keys in
      let few = h.steady.keys in
      let budget = right.mapped.budgets.keys in
      ⊎_elim (λ e. (let key = (keyed.static e).0 in omega (arith, key)))
      (λ e. (let q = keyed.other e in
      let key = q.0 in
      let own = q.1 in
      omega (arith, key, own, made, few, budget))) (static_or (object_at s.objects o).storage)

  module _ (type line d count next : ℕ)
      (at : slice_get h.code.code n ≡ Some (tac.CallThrough type line d count next)) where
    abbrev i : Instruction
    i = tac.CallThrough type line d count next

    label : IsNode c u n h.code (tac.CallThrough type line d count next)
    label = node c IsGood right u n temps ws s v xs h (tac.CallThrough type line d count next) at

    lows : (d < most_temporaries h.code.code) × (d + 1 + count ≤ most_temporaries h.code.code)
    lows = let a = label.temporaries_low in (omega (arith, a), omega (arith, a))

    abbrev with_entry : Bool
    with_entry = c.layout.expansion.entries u next d

    abbrev waits : Waiting
    waits = record { function = u; node = next; place = d; caller = caller s; temps = temps }

    abbrev kind : ℕ
    kind = first_of_type c.layout.expansion.code.functions type

    abbrev packed_at : ℕ
    packed_at = moved_register h.code (5 * (d + 1))

    abbrev vs : List Rvalue
    vs = gathered temps (d + 1) count

    -- ---- the pointer

    no_contents : (temps d).contents ≡ None
    no_contents = (h.holds.temporaries d lows.0 refl).none
        (label.kept.words n d i at (eq-eqb d d refl))

    pointer : IsHeldAt (world c h.keys s v) (c.layout.expansion.entries u n d) (temps d).value (temporary_register h.code d)
        v.values
    pointer = held_at c IsGood right u n temps ws s v xs h d lows.0 no_contents

    among : is_among d (count + 1) d ≡ true
    among = and_from (nat_le d d) (nat_lt d (d + (count + 1))) (le-leb d d (omega arith))
        (lt-ltb d (d + (count + 1)) (omega arith))

    entry : Spells (views c) h.keys (temps d).value (held_from (temporary_register h.code d)) v.values
    entry = pointer.entry (label.closed.read n d i at among)

    abbrev tag : Tag
    tag = (temps d).value.tag

    key_here : v.values (temporary_register h.code d + 3) ≡ (spell (views c) h.keys (temps d).value.tag).key
    key_here = ap (λ m. m.key) entry.tag

    base_here : v.values (temporary_register h.code d + 1) ≡ (spell (views c) h.keys (temps d).value.tag).base
    base_here = ap (λ m. m.base) entry.tag

    abbrev passes : Bool
    passes = is_callee (v.values (temporary_register h.code d + 3)) (v.values (temporary_register h.code d + 1))
        (v.values (temporary_register h.code d)) (first_of_type c.layout.expansion.code.functions type)

    passes_same : is_callee (spell (views c) h.keys (temps d).value.tag).key
        (spell (views c) h.keys (temps d).value.tag).base (temps d).value.word
        (first_of_type c.layout.expansion.code.functions type) ≡ passes
    passes_same =
        ap (λ z. is_callee z (spell (views c) h.keys tag).base (temps d).value.word kind) (sym key_here)
        ∙ ap (λ z. is_callee (v.values (T d + 3)) z (temps d).value.word kind) (sym base_here)
        ∙ ap (λ z. is_callee (v.values (T d + 3)) (v.values (T d + 1)) z kind) (sym entry.word)

    abbrev Effect : Type 0
    Effect = Gives (effect c.setting (expansion_of c).code (tac.CallThrough type line d count next) u temps ws
        (spent 8 s))

    -- of no function
    no_callee : callee_by c.setting.functions type (temps d).value.word (temps d).value.tag line (spent 8 s)
        ≡ Ended (BadCall line) (spent 8 s) → (q most : ℕ) (values : flat.Values)
        → ComesTo q (record v { values = values }) most → most ≤ 160
        → instruction_at c.layout.program u q ≡ Some (flat_code.End (BadCall line)) → Effect
    no_callee none q most values k few at =
        subst (λ z. Gives (came z (λ f s'. called c.setting (expansion_of c).code f vs line (Waits waits ∷ ws) s')))
        (sym none)
        (ends_at c IsGood u n temps ws s v xs h (BadCall line) (spent 8 s) q most v.turns values k at (refl, refl, refl, refl) h.stands.turns
        (omega (arith, few)))

    -- no function has the type
    missing : slice_get c.layout.expansion.code.functions kind ≡ None → Effect
    missing none =
        let has = subst (λ o. HasAt body pc (through_of ops map_now code h.code o kind line d count with_entry)) none
        label.put.has in
        let untyped : (f : ℕ) → has_type (header_at c.setting.functions f) type ≡ false =
        λ f. ap (λ z. has_type (header_at z f) type) (headers_are c IsGood right) ∙ none_typed fs type none f in
        no_callee (none_found c.setting.functions type untyped (temps d).value.word tag line (spent 8 s)) pc 0 v.values
        (record {
          steps = 0;
          work = 0;
          few = omega arith;
          comes = (let same : v.work ≡ v.work + 0 = omega arith in
              ap (λ w. flat.Stands u pc (record v { work = w }) xs) same);
        }) (omega arith) has.0

    module _ (like : CodeFunction) (first : slice_get c.layout.expansion.code.functions kind ≡ Some like)
        (fit : fit_type c.setting.functions type (gathered temps (d + 1) count) ≡ true)
        (plains : are_covered_calls c.layout.expansion.code type c.layout.expansion.code.functions ≡ true)
        (comes_there : comes_to (result_of_type c.layout.expansion.code.results type)
        (c.layout.expansion.contents u next d) ≡ true) where
      typed_like : like.type_number ≡ type
      typed_like = first_typed fs type like first

      fits_code : fit_type (map header_of_code c.layout.expansion.code.functions) type (gathered temps (d + 1) count)
          ≡ true
      fits_code = subst (λ z. fit_type z type vs ≡ true) (headers_are c IsGood right) fit

      count_like : count ≡ length like.parameters
      count_like =
          count_passed (taken_by (header_of_code like)) temps (d + 1) count
          (passed_to type vs fs kind like fits_code first typed_like)
          ∙ length-map like.parameters _

      kind_small : first_of_type c.layout.expansion.code.functions type < 2 ^ 12
      kind_small = subst (λ t. first_of_type c.layout.expansion.code.functions t < 2 ^ 12) typed_like
          (kind_low c IsGood right kind like first (inside_list fs kind like first))

      apart : temporary_register h.code d + 5 ≤ first_free h.code
      apart = temporary_free h.code d lows.0

      abbrev Stood : List FlatInstruction → Type 0
      Stood list = HasAt body (c.layout.address u n) list
          × Leads body (c.layout.address u n + length list) (c.layout.address u next)

      abbrev callee_list : List FlatInstruction
      callee_list = callee_tests kind line (temporary_register h.code d) (first_free h.code)

      abbrev room_list : List FlatInstruction
      room_list = room_tests (map_of c) (temporary_register h.code d + 3) line (first_free h.code)

      abbrev object_list : List FlatInstruction
      object_list = unknown_object_tests (map_of c) (temporary_register h.code d + 3) line (first_free h.code)

      abbrev call_with : (words : ℕ) → Kind → FlatInstruction
      call_with words gives =
          flat_code.CallAddress (temporary_register h.code d) (moved_register h.code (5 * (d + 1))) words
          (temporary_register h.code d) (result_words gives)

      abbrev calls_with : (words : ℕ) → Kind → List FlatInstruction
      calls_with words gives =
          call_with words gives ∷ result_code c.layout.expansion.code h.code gives with_entry d

      abbrev waiting_for : Kind → List FlatInstruction
      waiting_for gives = await_result c.layout.expansion.inline.operators (map_of c) c.layout.expansion.code h.code gives d

      abbrev code_with : List Passed → (words : ℕ) → Kind → List FlatInstruction
      code_with ways words gives = callee_list ++ (room_list ++ (object_list ++ (waiting_for gives
          ++ (pack h.code ways (moved_register h.code (5 * (d + 1))) (d + 1) ++ calls_with words gives))))

      stood_like : Stood (code_with (ways_of like.parameters) (parameters_end like) (result_of code like))
      stood_like =
          subst (λ b. Stood (if b then through_code ops map_now code h.code like kind line d with_entry
          else flat_code.End (AbortAt line) ∷ [])) (eq-eqb (length like.parameters) count (sym count_like))
          (subst (λ o. Stood (through_of ops map_now code h.code o kind line d count with_entry)) first
          (label.put.has, label.put.leads))

      has_callee : HasAt body pc callee_list
      has_callee = has_front body pc callee_list (room_list ++ (object_list ++ (waiting_for (result_of code like)
          ++ (pack h.code (ways_of like.parameters) (moved_register h.code (5 * (d + 1))) (d + 1)
          ++ calls_with (parameters_end like) (result_of code like))))) stood_like.0

      abbrev Tested : Bool → Type 0
      Tested = callee_run.IsTested (map_of c) c.layout.program u (c.layout.address u n) v xs kind line
          (temporary_register h.code d) (first_free h.code) apart kind_small has_callee

      tested_callee : Tested passes
      tested_callee = callee_run.tested (map_of c) c.layout.program u (c.layout.address u n) v xs kind line (T d) free apart
          kind_small has_callee

      -- none is found
      refused : callee_by c.setting.functions type (temps d).value.word (temps d).value.tag line (spent 8 s)
          ≡ Ended (BadCall line) (spent 8 s) → passes ≡ false → Effect
      refused none e =
          let A = subst Tested e tested_callee in
          no_callee none A.place 10 A.values A.comes (omega arith) (A.ends refl)

      -- ---- one is found

      module _ (f : ℕ) (k : CodeFunction) (found : code_in c.layout.expansion.code f ≡ Some k)
          (typed : k.type_number ≡ type) (tag_is : (temps d).value.tag ≡ OfFunction f)
          (word_is : (temps d).value.word ≡ function_address f) (passed_all : passes ≡ true) where
        plain : IsCoveredCall c IsGood right k
        plain = covered_call c IsGood right k (plain_at code type fs f k plains found typed)

        passed : are_passed (taken_by (header_of_code k)) (gathered temps (d + 1) count) ≡ true
        passed = passed_to type vs fs f k fits_code found typed

        count_is : count ≡ length k.parameters
        count_is =
            count_passed (taken_by (header_of_code k)) temps (d + 1) count passed ∙ length-map k.parameters _

        same_type : like.type_number ≡ k.type_number
        same_type = typed_like ∙ sym typed

        abbrev moves : List FlatInstruction
        moves = pack h.code (ways_of k.parameters) (moved_register h.code (5 * (d + 1))) (d + 1)

        abbrev behind : List FlatInstruction
        behind = result_code c.layout.expansion.code h.code (result_of c.layout.expansion.code k)
            (c.layout.expansion.entries u next d) d

        abbrev waiting : List FlatInstruction
        waiting = waiting_for (result_of c.layout.expansion.code k)

        abbrev calls : List FlatInstruction
        calls = calls_with (parameters_end k) (result_of c.layout.expansion.code k)

        stood : Stood (code_with (ways_of k.parameters) (parameters_end k) (result_of c.layout.expansion.code k))
        stood =
            let alike = take_alike c IsGood right kind f like k first found same_type in
            subst (λ g. Stood (code_with (ways_of k.parameters) (parameters_end k) g))
            (ap (λ t. get_or code.results t Void) same_type)
            (subst (λ w. Stood (code_with (ways_of k.parameters) w (result_of code like))) alike.words
            (subst (λ w. Stood (code_with w (parameters_end like) (result_of code like))) alike.ways stood_like))

        abbrev at_objects : ℕ
        at_objects = c.layout.address u n + 8 + 7

        abbrev at_wait : ℕ
        at_wait = c.layout.address u n + 8 + 7 + length object_list

        abbrev at_moves : ℕ
        at_moves = at_wait + length waiting

        abbrev q : ℕ
        q = at_moves + length moves

        has_behind : HasAt body (c.layout.address u n + 8) (room_list ++ (object_list ++ (waiting ++ (moves ++ calls))))
        has_behind = has_back body pc callee_list (room_list ++ (object_list ++ (waiting ++ (moves ++ calls)))) stood.0

        has_room : HasAt body (c.layout.address u n + 8) room_list
        has_room = has_front body (c.layout.address u n + 8) room_list (object_list ++ (waiting ++ (moves ++ calls)))
            has_behind

        has_more : HasAt body at_objects (object_list ++ (waiting ++ (moves ++ calls)))
        has_more = has_back body (c.layout.address u n + 8) room_list (object_list ++ (waiting ++ (moves ++ calls)))
            has_behind

        has_wait : HasAt body at_wait (waiting ++ (moves ++ calls))
        has_wait = has_back body at_objects object_list (waiting ++ (moves ++ calls)) has_more

        has_rest : HasAt body at_moves (moves ++ calls)
        has_rest = has_back body at_wait waiting (moves ++ calls) has_wait

        has_call : HasAt body q calls
        has_call = has_back body at_moves moves calls has_rest

        leads_behind : Leads body (q + 1 + length behind) (c.layout.address u next)
        leads_behind = subst (λ z. Leads body z (c.layout.address u next))
            (omega (
              arith,
              length-append object_list (waiting ++ (moves ++ calls)),
              length-append waiting (moves ++ calls),
              length-append moves calls,
            )) stood.1

        low_calls : (map_of c).budgets.calls < 2 ^ 63
        low_calls = let z = right.mapped.budgets.calls.greatest in omega (arith, z)

        fits_charge : charged c.layout.program u xs ≤ (map_of c).budgets.calls
        fits_charge = let a = h.charge in let b = h.fits in omega (arith, a, b)

        key_value : v.values (temporary_register h.code d + 3)
            ≡ 2 ^ 63 + type_key_of (first_of_type c.layout.expansion.code.functions k.type_number) (object_units k)
            (room_told k)
        key_value = key_here ∙ ap (λ t. (spell (views c) h.keys t).key) tag_is
            ∙ ap (λ z. 2 ^ 63 + z) (key_is c IsGood right f k found)

        kind_fits : first_of_type c.layout.expansion.code.functions k.type_number < 2 ^ 12
        kind_fits = kind_low c IsGood right f k found (inside_list fs f k found)

        A : Tested true
        A = subst Tested passed_all tested_callee

        to_room : ComesTo (c.layout.address u n + 8) (record v { values = A.values }) 10
        to_room = at_place (map_of c) c.layout.program u (c.layout.address u n) v xs A.place (c.layout.address u n + 8)
            (record v { values = A.values }) 10 A.comes (A.behind refl)

        abbrev v1 : flat.State
        v1 = record v { values = A.values; work = v.work + to_room.work }

        key_stays : A.values (temporary_register h.code d + 3) ≡ v.values (temporary_register h.code d + 3)
        key_stays = A.others (T d + 3) (omega (arith, apart))

        told : A.values (temporary_register h.code d + 3) / 2 ^ 31 % 2 ^ 25 ≡ min k.room (2 ^ 24 + 1)
        told = ap (λ z. z / 2 ^ 31 % 2 ^ 25) (key_stays ∙ key_value)
            ∙ room_told_by (first_of_type fs k.type_number) (object_units k) (room_told k) kind_fits
            (units_low c IsGood right k) (room_low c IsGood right k)

        abbrev RoomTested : Bool → Type 0
        RoomTested = IsRoomTested (map_of c) c.layout.program u (c.layout.address u n + 8) v1 xs
            (temporary_register h.code d) line (first_free h.code) apart has_room low_calls fits_charge

        room_by : (b : Bool) → nat_lt (charged c.layout.program u xs + min k.room (2 ^ 24 + 1))
            ((map_of c).budgets.calls + 1) ≡ b → RoomTested b
        room_by b e =
            room_tested map_now program u (pc + 8) v1 xs (T d) line free apart has_room low_calls fits_charge b
            (ap (λ z. nat_lt (charged c.layout.program u xs + z) ((map_of c).budgets.calls + 1)) told ∙ e)

        to_place : (b : Bool) → (B : RoomTested b)
            → ComesTo B.place (record v { turns = v.turns + 1; values = B.values }) 22
        to_place b B =
            let j = B.comes in
            then_comes map_now program u pc v xs (pc + 8) B.place (record v { values = A.values })
            (record v { turns = v.turns + 1; values = B.values }) 10 12 to_room
            (record { steps = j.steps; work = j.work; few = j.few; comes = j.comes })

        -- no bytes are left for it
        exhausts : (map_of c).budgets.calls < s.charged + k.room
            → Gives (called_at c.setting (Some k) f vs line (Waits waits ∷ ws) (spent 8 s))
        exhausts more =
            let budget = ap (λ (z : MapSizes). z.budgets.calls) right.sizes in
            let charge = h.charge in
            let fits = h.fits in
            let none = exhausted c.setting (header_of_code k) vs line (begun (spent 8 s))
            (lt-leb (s.charged + k.room) c.setting.sizes.budgets.calls (omega (arith, more, budget))) in
            let B = room_by false (told_exceeds (charged program u xs) k.room map_now.budgets.calls
            (let z = right.mapped.budgets.calls.greatest in omega (arith, z)) fits_charge (omega (arith, more, charge))) in
            let stopped : State = (let z : State = record (begun (spent 8 s)) { work = s.work + 8 + 1 } in
            spent (3 * (z.work - (s.work + 8))) z) in
            let turned = h.stands.turns in
            let result : Gives (Over (Stack line) stopped) =
            ends_at c IsGood u n temps ws s v xs h (Stack line) stopped B.place 22 (v.turns + 1) B.values (to_place false B) (B.ends refl)
            (refl, refl, refl, refl) (omega (arith, turned)) (omega arith) in
            subst (λ z. Gives (came (fourfold (s.work + 8) z) (λ _ y. Stands f k.entry no_temps (Waits waits ∷ ws) y)))
            (sym none) result

        -- ---- the function is entered

        module _ (fits : s.charged + k.room ≤ (map_of c).budgets.calls) where
          B : RoomTested true
          B = room_by true (told_fits (charged program u xs) k.room map_now.budgets.calls
              (let charge = h.charge in omega (arith, fits, charge)))

          to_objects : ComesTo at_objects (record v { turns = v.turns + 1; values = B.values }) 22
          to_objects = at_place map_now program u pc v xs B.place at_objects
              (record v { turns = v.turns + 1; values = B.values }) 22 (to_place true B) (B.behind refl)

          abbrev v2 : flat.State
          v2 = record v { turns = v.turns + 1; values = B.values; work = v.work + to_objects.work }

          has_tests : HasAt body at_objects object_list
          has_tests = has_front body at_objects object_list (waiting ++ (moves ++ calls)) has_more

          units_there : B.values (temporary_register h.code d + 3) / 2 ^ 12 % 2 ^ 19 ≡ object_units k
          units_there =
              ap (λ z. z / 2 ^ 12 % 2 ^ 19) (B.others (T d + 3) (omega (arith, apart)) ∙ key_stays ∙ key_value)
              ∙ units_told (first_of_type fs k.type_number) (object_units k) (room_told k) kind_fits
              (units_low c IsGood right k) (room_low c IsGood right k)

          separate : AreSeparate (map_of c) s.stacked s.objects
          separate = (good_now (names c) u ws s h.steady.good).separate

          top_inside : s.stacked ≤ region_end (map_of c) StackRegion
          top_inside = separate.top

          abbrev has_room_left : Bool
          has_room_left = nat_le (objects_end (objects_of_body k) s.stacked) (stack_end c.setting)

          abbrev has_key : Bool
          has_key = nat_lt s.keys c.setting.sizes.budgets.keys

          -- the run is behind the tests of objects just where those of the source's meaning pass
          record AreTested (room key : Bool) : Type 0 where
            values : flat.Values
            others : (y : ℕ) → y < first_free h.code → values y ≡ B.values y
            place : ℕ
            comes : ComesTo place (record v { turns = v.turns + 1; values = values }) 66
            behind : room ≡ true → key ≡ true → place ≡ at_wait
            no_room : room ≡ false → instruction_at c.layout.program u place ≡ Some (flat_code.End (Stack line))
            no_key : room ≡ true → key ≡ false → instruction_at c.layout.program u place ≡ Some (flat_code.End (Keys line))

          none_tested : has_objects (objects_of_body k) ≡ false → AreTested has_room_left true
          none_tested none =
              let C = no_units map_now program u at_objects v2 xs (T d) line free apart has_tests
              (units_there ∙ ap (λ b. if b then min (rounded_up 16 (block_bytes (objects_of_body k)) / 16) (2 ^ 18 + 1)
              else 0) none) in
              let j = C.comes in
              let space = none_fit c IsGood right u xs h.keys s v h.stands top_inside at_objects v2 refl line free
              (objects_of_body k) none in
              let most : 22 + 6 ≤ 66 = omega arith in
              record {
                values = C.values;
                others = C.others;
                place = at_wait;
                comes = weaker map_now program u pc v xs at_wait (record v { turns = v.turns + 1; values = C.values })
                    (22 + 6) 66
                    (then_comes map_now program u pc v xs at_objects at_wait
                    (record v { turns = v.turns + 1; values = B.values })
                    (record v { turns = v.turns + 1; values = C.values }) 22 6 to_objects
                    (record { steps = j.steps; work = j.work; few = j.few; comes = j.comes })) most;
                behind = λ a b. refl;
                no_room = λ no. (let both : true ≡ false = sym space ∙ no in cc);
                no_key = λ a no. cc;
              }

          some_tested : has_objects (objects_of_body k) ≡ true → AreTested has_room_left has_key
          some_tested some =
              let vs = objects_of_body k in
              let sized = sized_by vs
              (and_parts (are_sized vs) _ (and_parts (has_objects vs) _ (plain.entered some)).1).0 in
              let bytes = some_bytes vs 0 some sized in
              let units_are : object_units k ≡ min (rounded_up 16 (block_bytes vs) / 16) (2 ^ 18 + 1) =
              ap (λ b. if b then min (rounded_up 16 (block_bytes vs) / 16) (2 ^ 18 + 1) else 0) some in
              let least : 1 ≤ min (rounded_up 16 (block_bytes vs) / 16) (2 ^ 18 + 1) =
              le-min (omega (arith, bytes)) (omega arith) in
              let C = some_units_tested map_now right.mapped program u at_objects v2 xs (T d) line free s.stacked s.keys
              (object_units k) apart
              (top_is c IsGood right u xs h.keys s v h.stands top_inside at_objects v2 refl line free) top_inside
              (counted_is c IsGood right u xs h.keys s v h.stands top_inside at_objects v2 refl line free) units_there
              has_tests
              (ne_eqb (object_units k) 0 (λ e. omega (arith, e, units_are, least))) has_room_left has_key
              (units_fit map_now right.mapped s.stacked separate.bottom k some
              ∙ room_same c IsGood right u xs h.keys s v h.stands top_inside at_objects v2 refl line free vs some)
              (key_same c IsGood right u xs h.keys s v h.stands top_inside at_objects v2 refl line free) in
              let j = C.comes in
              let long : at_objects + 24 ≡ at_wait = omega (arith, tests_long) in
              record {
                values = C.values;
                others = C.others;
                place = C.place;
                comes = then_comes map_now program u pc v xs at_objects C.place
                    (record v { turns = v.turns + 1; values = B.values })
                    (record v { turns = v.turns + 1; values = C.values }) 22 44 to_objects
                    (record { steps = j.steps; work = j.work; few = j.few; comes = j.comes });
                behind = λ a b. C.behind a b ∙ long;
                no_room = C.no_room;
                no_key = C.no_key;
              }
            where
              tests_long : length object_list ≡ 24
              tests_long = refl

          objects_tested_here : (b : Bool) → has_objects (objects_of_body k) ≡ b → AreTested has_room_left (not b || has_key)
          objects_tested_here true some = some_tested some
          objects_tested_here false none = none_tested none

          D : AreTested has_room_left (not (has_objects (objects_of_body k)) || has_key)
          D = objects_tested_here (has_objects (objects_of_body k)) refl

          tests_stay : (y : ℕ) → y < first_free h.code → D.values y ≡ v.values y
          tests_stay y lt = D.others y lt ∙ B.others y lt ∙ A.others y lt

          reads : (x : ℕ) → x < count
              → is_moved_with_entry (get_or (map (λ (z : Variable). z.kind) k.parameters) x Void) ≡ true
              → c.layout.expansion.entries u n (d + 1 + x) ≡ true
          reads x low kind =
              label.closed.read n (d + 1 + x) i at
              (and_from (nat_le d (d + 1 + x)) (nat_lt (d + 1 + x) (d + (count + 1)))
              (le-leb d (d + 1 + x) (omega arith)) (lt-ltb (d + 1 + x) (d + (count + 1)) (omega (arith, low))))

          abbrev Entered : Type 0
          Entered = Gives (call_stage c IsGood right u pc q v xs f k found plain line packed_at (T d) vs
              (Waits waits ∷ ws) (spent 8 s))

          abbrev go_on : Unit {0} → State → Stage
          go_on _ z = Stands f k.entry no_temps (Waits waits ∷ ws) z

          fits_budget : nat_le (s.charged + k.room) c.setting.sizes.budgets.calls ≡ true
          fits_budget = (let budget = ap (λ (z : MapSizes). z.budgets.calls) right.sizes in
              le-leb (s.charged + k.room) c.setting.sizes.budgets.calls (omega (arith, fits, budget)))

          module _ (space : has_room_left ≡ true) (spare : has_objects (objects_of_body k) ≡ true → has_key ≡ true) where
            to_wait : ComesTo at_wait (record v { turns = v.turns + 1; values = D.values }) 66
            to_wait = at_place map_now program u pc v xs D.place at_wait
                (record v { turns = v.turns + 1; values = D.values }) 66 D.comes
                (D.behind space (spare_or (has_objects (objects_of_body k)) has_key spare))

            -- what the result needs is put into registers
            W : IsAwaited c IsGood right u n temps ws s v xs h words d next (result_of c.layout.expansion.code k) at_wait 66
                D.values
            W = awaits_result c IsGood right u n temps ws s v xs h words d next (result_of code k) at_wait 66 D.values
                (result_fits c IsGood right u n temps ws s v xs h words d next i at (result_of code k)
                (ap (λ t. if d == d then structure_bytes (result_of_type code.results t) else 0) (sym typed)))
                (ap (λ t. comes_to (result_of_type code.results t) (c.layout.expansion.contents u next d)) typed
                ∙ comes_there)
                (has_front body at_wait waiting (moves ++ calls) has_wait) to_wait

            abbrev packed : flat.Values
            packed = assigned moves W.values

            between_stays : (y : ℕ) → y < first_free h.code → W.values y ≡ v.values y
            between_stays y lt = W.others y lt ∙ tests_stay y lt

            -- the address is still there
            address_there : packed (temporary_register h.code d) ≡ function_address f
            address_there =
                handing.stay c IsGood right u n temps ws s v xs h words i label d (d + 1) count next 8 refl (inl refl) lows.0
                lows.1 f line k found passed plain reads (call_with (parameters_end k) (result_of code k))
                at_moves 136 W.values has_rest leads_behind W.comes (omega arith) W.awaits between_stays fits space spare
                (T d)
                (omega (arith, apart, lows.0))
                ∙ entry.word ∙ word_is

            enters_it : Entered
            enters_it =
                let callee = there c IsGood right f k found in
                handing.enters_it c IsGood right u n temps ws s v xs h words i label d (d + 1) count next 8 refl (inl refl)
                lows.0 lows.1 f line k found passed plain reads
                (call_with (parameters_end k) (result_of code k)) at_moves 136 W.values has_rest leads_behind W.comes
                (omega arith) W.awaits between_stays fits space spare
                (λ w. by_name map_now program u q (record v { turns = v.turns + 1; values = packed; work = w }) xs f (T d)
                packed_at (parameters_end k) (T d) (result_words (result_of code k))
                has_call.0
                (ap (function_at program) address_there
                ∙ names_function program f (of_program c.layout.expansion f k (c.layout.address f)
                (function_in program f) (right.expanded.functions f k found)))
                (sym callee.parameters) (sym callee.results))

          -- the tests of its objects
          by_keys : has_room_left ≡ true → (a b : Bool) → has_objects (objects_of_body k) ≡ a → has_key ≡ b → Entered
          by_keys space true true some spare = enters_it space (λ e. spare)
          by_keys space true false some none =
              stops_at c IsGood right u n temps ws s v xs h (header_of_code k) vs line 8 go_on (Keys line)
              (keys_spent c.setting (header_of_code k) vs line (begun (spent 8 s)) fits_budget space some none) D.place 66
              D.values D.comes (D.no_key space (ap (λ b. not b || has_key) some ∙ none)) (omega arith)
          by_keys space false b none e = enters_it space (λ some. (let both : true ≡ false = sym some ∙ none in cc))

          by_space : (a : Bool) → has_room_left ≡ a → Entered
          by_space true e = by_keys e (has_objects (objects_of_body k)) has_key refl refl
          by_space false e =
              stops_at c IsGood right u n temps ws s v xs h (header_of_code k) vs line 8 go_on (Stack line)
              (space_spent c.setting (header_of_code k) vs line (begun (spent 8 s)) fits_budget e) D.place 66 D.values
              D.comes (D.no_room e) (omega arith)

          called_so : Entered
          called_so = by_space has_room_left refl

        called_one : Gives (called_at c.setting (Some k) f vs line (Waits waits ∷ ws) (spent 8 s))
        called_one = ⊎_elim (λ more. exhausts more) (λ fits. called_so fits)
            (cases_lt (map_of c).budgets.calls (s.charged + k.room))

      -- the callee is as the tests say
      by_tests : (b : Bool) → passes ≡ b
          → FindsBy c.setting.functions type (temps d).value.word (temps d).value.tag line (spent 8 s) b → Effect
      by_tests false e none = refused none e
      by_tests true e (f, is, gives) =
          let sound = subst (IsSoundTag (views c).functions s.objects) is.tag_is pointer.sound in
          let inside = subst (λ z. f < z) (code_count fs)
          (subst (λ z. f < length z) (headers_are c IsGood right) sound) in
          let there_is = there_at fs f inside in
          let k = there_is.0 in
          let found = there_is.1 in
          let typed = eqb-true k.type_number type (sym (type_at fs f type k found)
          ∙ ap (λ z. has_type (header_at z f) type) (sym (headers_are c IsGood right)) ∙ is.typed) in
          subst (λ z. Gives (came z (λ g s'. called c.setting (expansion_of c).code g vs line (Waits waits ∷ ws) s')))
          (sym gives)
          (subst (λ o. Gives (called_at c.setting o f vs line (Waits waits ∷ ws) (spent 8 s))) (sym found)
          (called_one f k found typed is.tag_is is.word_is e))

      goes : Effect
      goes = by_tests passes refl
          (finds c.setting.functions (views c) h.keys s.objects type kind keys_low
          (kind_tells c IsGood right type like first) line (spent 8 s) (temps d).value.word tag pointer.sound passes
          passes_same)

    pub call_through_step : fit_type c.setting.functions type (gathered temps (d + 1) count) ≡ true
        → (are_covered_calls c.layout.expansion.code type c.layout.expansion.code.functions
        && comes_to (result_of_type c.layout.expansion.code.results type) (c.layout.expansion.contents u next d)) ≡ true
        → Gives (effect c.setting (expansion_of c).code (tac.CallThrough type line d count next) u temps ws (spent 8 s))
    call_through_step fit plains = by (slice_get c.layout.expansion.code.functions kind) refl
      where
        by : (o : Option CodeFunction)
            → slice_get c.layout.expansion.code.functions (first_of_type c.layout.expansion.code.functions type) ≡ o
            → Gives (effect c.setting (expansion_of c).code (tac.CallThrough type line d count next) u temps ws
            (spent 8 s))
        by None none = missing none
        by (Some like) first =
            let parts = and_parts (are_covered_calls c.layout.expansion.code type c.layout.expansion.code.functions)
            (comes_to (result_of_type c.layout.expansion.code.results type) (c.layout.expansion.contents u next d)) plains
            in
            goes like first fit parts.0 parts.1
