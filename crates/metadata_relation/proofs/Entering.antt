-- A function is called: from where its arguments stand packed the run comes to where its variables are set, and, if its
-- body has no objects, to its first node.
use Rattle.std.proofs.Common.{◌≡◌, ℕ, ◌+◌, ◌-◌, ◌*◌, ◌<◌, ◌≤◌, Bool, true, false, List}
use Rattle.std.proofs.Common.{[], ◌∷◌, ◌++◌, length, length-append, Option, Some, None, refl, sym, ap, ◌∙◌, subst}
use Rattle.std.proofs.Common.{arith}
use Rattle.std.proofs.Common.{get_or, le-leb, map}
use Rattle.std.specs.Prelude.{slice_get, nat_le, nat_lt, ◌&&◌, ◌||◌, not, ◌==◌, if◌then◌else◌}
use Rattle.std.proofs.lemmas.Bool.{and_parts, and_from, eq-eqb}
use Rattle.behaviours.specs.Steps.{run}
use Rattle.behaviours.proofs.Running.{run_add}
use Rattle.addr_map.specs.declared.region.Region.TheVariants.{RuntimeCalls}
use Rattle.addr_map.specs.Places.{MapSizes, region_size}
use Rattle.obj_memory.specs.declared.value.Scalar.TheVariants.{Integer, Pointer}
use Rattle.c_tree.specs.declared.expression.Kind.{Kind}
use Rattle.c_tree.specs.declared.expression.Kind.TheVariants.{Void, Scalar as OfScalar, Structure, Array}
use Rattle.c_tree.specs.declared.program.Variable.{Variable}
use Rattle.source_meaning.specs.State.{State, Rvalue}
use Rattle.source_meaning.specs.Actions.{integer}
use Rattle.source_meaning.specs.Blocks.{has_objects}
use Rattle.source_meaning.specs.Calls.{body_objects, plain_count, set_up}
use Rattle.source_meaning.specs.Places.{stack_first, stack_end}
use Rattle.source_meaning.specs.Structures.{rvalue}
use Rattle.tac_ir.specs.declared.function.CodeFunction.{CodeFunction}
use Rattle.tac_ir.specs.Stage.{no_temps, Frame, Stage, Stands, came}
use Rattle.tac_ir.specs.Costs.{spent, fourfold, heavier}
use Rattle.tac_ir.specs.Meaning.{header_of_code, begun}
use Rattle.flat_code.specs.declared.instruction.FlatInstruction.{FlatInstruction}
use Rattle.flat_code.specs.declared.instruction.FlatInstruction.TheVariants as flat_code
use Rattle.flat_code.specs.declared.function.FlatFunction.{FlatFunction}
use Rattle.flat_code.specs.declared.function.FlatProgram.{FlatProgram}
use Rattle.flat_code.specs.Memory.{Bytes}
use Rattle.flat_code.specs.State as flat
use Rattle.flat_code.specs.Calls.{function_in, room_if, rooms, charged, arguments}
use Rattle.flat_code.specs.Meaning.{at_instruction, body_of, enters as enters_flat, has_room, parameters_of}
use Rattle.flat_code.specs.Meaning.{results_of, step}
use Rattle.flat_code.specs.Routines.Objects.StandsFor.{Keys}
use Rattle.flat_code.specs.Routines.Routine.{HasAt}
use Rattle.flat_code.proofs.Routines.Steps.{has_front, has_self}
use Rattle.runtime_functions.specs.Library.{Passed, NoValue, OneWord, WithEntry, register_count}
use Rattle.metadata_plan.specs.Registers.{words_of}
use Rattle.metadata_plan.specs.Expanded.{Leads}
use Rattle.metadata_plan.proofs.Calling.{counted}
use Rattle.metadata_plan.proofs.Calling.{argument_out}
use Rattle.metadata_plan.proofs.Entering.{room_behind}
use Rattle.metadata_plan.proofs.Flat.{Comes, leads_comes}
use Rattle.metadata_plan.proofs.SetUp.{laid_out, set_up_gives, homes_of}
use Rattle.metadata_relation.specs.Blocks.{Expansion, objects_of_body, result_of}
use Rattle.metadata_relation.specs.Blocks.{enter_body, entry_code, prologue, zero_variables}
use Rattle.metadata_relation.specs.Expanded.{EntersAt}
use Rattle.metadata_relation.specs.Registers.{passed_as, parameters_end, variable_words, parameter_words, total}
use Rattle.metadata_relation.specs.Registers.{variable_register}
use Rattle.metadata_relation.specs.Stages.{factor, Compiled, map_of, views, world}
use Rattle.metadata_relation.specs.Stages.{StandsIn, MatchesBy}
use Rattle.metadata_relation.specs.Steps.{IsCompiled, are_handed_over, is_handed_over, is_covered_call}
use Rattle.metadata_relation.proofs.Arguments.{IsArgument, plain_argument}
use Rattle.metadata_relation.proofs.Assigning.{assigned, assigns}
use Rattle.metadata_relation.proofs.CallHolds.{none_has, callee_holds}
use Rattle.metadata_relation.proofs.Holding.{same_world, plain_on}
use Rattle.metadata_relation.proofs.Packing.{zeros_leave, zeros_assign}
use Rattle.metadata_relation.proofs.Standing.{there_by, IsThere, Result}
use Rattle.metadata_relation.specs.Scopes.{AreGood, context_at}
use Rattle.source_meaning.specs.Keeping.{AreSeparate}
use Rattle.metadata_relation.specs.Waiting.{BodyBy, IsBodyAs}
use Rattle.metadata_relation.proofs.Waiting.{body_waits, CallerWaits, waits_same}
use Rattle.obj_memory.specs.Sound.{Continues}
use Rattle.flat_code.specs.Words.{HasWords}
use Rattle.lib_wrappers.specs.AllocatingRoutines.Premises.{HaveBytes}
use Rattle.source_meaning.specs.Good.{IsSetUp}
use Rattle.metadata_relation.proofs.RuntimeCalls.{caller_rooms}
use Rattle.metadata_relation.specs.Steps.{can_be_entered, can_enter_body}
use Rattle.metadata_relation.proofs.ObjectTests.{end_same}
use Rattle.metadata_relation.specs.Stages.{expansion_of, level, names}
use Rattle.std.proofs.lemmas.Bool.{leb-true}
use Rattle.metadata_relation.proofs.CallHolds.{no_homes, no_homes_held, none_between}
use Rattle.obj_memory.specs.Objects.{object_at}
use Rattle.tac_ir.specs.Meaning.{objects_before}
use Rattle.source_meaning.specs.Blocks.{objects_end}
use Rattle.source_meaning.specs.State.{Gives as GivesRun}
use Rattle.metadata_relation.proofs.Packing.{plain_parameter}

-- ---- a call that has room

-- what does what a call by name does enters its function
enters_as : (m : MapSizes) (p : FlatProgram) (u q : ℕ) (v : flat.State) (xs : List flat.Frame) (f first into : ℕ)
    (fn : FlatFunction)
    → step m p (flat.Stands u q v xs) ≡ at_instruction m p (Some (flat_code.Call f first into)) u q v xs
    → function_in p f ≡ Some fn
    → has_room m p (record { function = u; next = q + 1; into = into; values = v.values } ∷ xs) fn ≡ true
    → step m p (flat.Stands u q v xs) ≡ flat.Stands f 0
    (record v {
      values = arguments first (parameters_of (function_in p f)) v.values;
      work = v.work + (8 + 2 * parameters_of (function_in p f));
    })
    (record { function = u; next = q + 1; into = into; values = v.values } ∷ xs)
enters_as m p u q v xs f first into fn same found room =
    let state : flat.State = record v { work = v.work + (8 + 2 * parameters_of (function_in p f)) } in
    let frames : List flat.Frame = record { function = u; next = q + 1; into = into; values = v.values } ∷ xs in
    let test = and_from (fn.parameters == fn.parameters)
    ((fn.results == fn.results) && has_room m p frames fn) (eq-eqb fn.parameters fn.parameters refl)
    (and_from (fn.results == fn.results) (has_room m p frames fn) (eq-eqb fn.results fn.results refl) room) in
    same
    ∙ ap (λ o. enters_flat m p f first (parameters_of o) (results_of o) o frames state) found
    ∙ ap (λ b. if b then flat.Stands f 0 (record state { values = arguments first fn.parameters v.values }) frames else
    flat.Stuck) test
    ∙ ap (λ o. flat.Stands f 0 (record state { values = arguments first (parameters_of o) v.values }) frames)
    (sym found)

-- ---- rooms

-- the function with which the run begins
pub record EntryIsThere (e : Expansion) (q : Option FlatFunction) : Type 0 where
  pub has : HasAt (body_of q) 0 (entry_code e.map e.code)
  pub no_room : room_if false q ≡ 0

pub entry_there : (e : Expansion) (q : Option FlatFunction) → EntersAt e q → EntryIsThere e q
entry_there e None h = absurd h
entry_there e (Some f) h = record {
  has = subst (λ z. HasAt z 0 (entry_code e.map e.code)) (sym h.body) (has_self (entry_code e.map e.code));
  no_room = ap (λ b. if b then 0 else f.room) h.of_runtime;
}

module _ (c : Compiled) (IsGood : Bytes → Type 0) (right : IsCompiled c IsGood) where
  abbrev p : FlatProgram
  p = c.layout.program

  abbrev map_here : MapSizes
  map_here = map_of c

  -- a function of the program, and its expansion
  pub there : (f : ℕ) (k : CodeFunction) → slice_get c.layout.expansion.code.functions f ≡ Some k
      → IsThere c.layout.expansion f k (c.layout.address f) (function_in c.layout.program f)
  there f k found = there_by c.layout.expansion f k (c.layout.address f) (function_in p f)
      (right.expanded.functions f k found)

  -- a match further on
  pub earlier : (a : Stage) (n : ℕ) (x y : flat.Stage) → run (step (map_of c) c.layout.program) n x ≡ y
      → Result c IsGood a y → Result c IsGood a x
  earlier a n x y e r = record {
    steps = n + r.steps;
    matches = subst (MatchesBy c IsGood a)
        (sym (run_add (step map_here p) n r.steps x ∙ ap (run (step map_here p) r.steps) e)) r.matches;
  }

  -- what is tested of a call
  pub record IsCoveredCall (k : CodeFunction) : Type 0 where
    pub entered : has_objects (objects_of_body k) ≡ true → can_be_entered (objects_of_body k) ≡ true
    pub taken : are_handed_over k.parameters ≡ true
    pub result : is_handed_over (result_of c.layout.expansion.code k) ≡ true

  pub covered_call : (k : CodeFunction) → is_covered_call c.layout.expansion.code (Some k) ≡ true → IsCoveredCall k
  covered_call k e =
      let t = c.layout.expansion.code in
      let vs = objects_of_body k in
      let all = and_parts (can_enter_body vs && are_handed_over k.parameters) (is_handed_over (result_of t k)) e in
      let first = and_parts (can_enter_body vs) (are_handed_over k.parameters) all.0 in
      record {
        entered = λ some. ap (λ z. not z || can_be_entered vs) (sym some) ∙ first.0;
        taken = first.1;
        result = all.1;
      }

  -- the words of plain variables
  few_words : (vs : List Variable) → total variable_words vs ≤ 5 * plain_count vs
  few_words [] = omega arith
  few_words (v ∷ vs) = by v.is_object (few_words vs)
    where
      few_kind : (kind : Kind) → words_of kind ≤ 5
      few_kind Void = omega arith
      few_kind (OfScalar (Integer t)) = omega arith
      few_kind (OfScalar Pointer) = omega arith
      few_kind (Structure n) = omega arith
      few_kind (Array n) = omega arith

      by : (b : Bool) → total variable_words vs ≤ 5 * plain_count vs
          → (if b then 0 else words_of v.kind) + total variable_words vs ≤ 5 * ((if b then 0 else 1) + plain_count vs)
      by true rest = omega (arith, rest)
      by false rest = omega (arith, rest, few_kind v.kind)

  pub few_parameters : (ps : List Variable) → total parameter_words ps ≤ 5 * length ps
  few_parameters [] = omega arith
  few_parameters (v ∷ vs) = omega (arith, few_passed (passed_as v.kind), few_parameters vs)
    where
      few_passed : (way : Passed) → register_count way ≤ 5
      few_passed NoValue = omega arith
      few_passed OneWord = omega arith
      few_passed WithEntry = omega arith

  -- ---- a function is called

  -- From where the arguments stand packed and the call does, the run comes to where the function's variables are set.
  module _ (u pc q : ℕ) (v : flat.State) (xs : List flat.Frame) (f : ℕ) (k : CodeFunction)
      (found : slice_get c.layout.expansion.code.functions f ≡ Some k) (plain : IsCoveredCall k) (line first into : ℕ)
      (vs : List Rvalue) (ws : List Frame) (s : State) where
    abbrev pub GivesCall : Stage → Type 0
    GivesCall a = Result c IsGood a (flat.Stands u pc v xs)

    -- what three-address code does
    abbrev pub call_stage : Stage
    call_stage = came (heavier (set_up c.setting (header_of_code k) vs line) (begun s))
        (λ _ z. Stands f k.entry no_temps ws z)

    abbrev pub frame_of : (values : flat.Values) → flat.Frame
    frame_of values = record { function = u; next = q + 1; into = into; values = values }

    -- what is known where the call stands
    pub record IsAtCall (values : flat.Values) (most : ℕ) (keys : Keys) : Type 0 where
      pub words : HasWords (flat.Stands u pc v xs)
      pub comes : Comes (map_of c) c.layout.program u pc v xs q (record v { turns = v.turns + 1; values = values }) most
      pub at : (w : ℕ) → step (map_of c) c.layout.program
          (flat.Stands u q (record v { turns = v.turns + 1; values = values; work = w }) xs)
          ≡ at_instruction (map_of c) c.layout.program (Some (flat_code.Call f first into)) u q
          (record v { turns = v.turns + 1; values = values; work = w }) xs
      pub arguments_are : (x : ℕ) → x < length k.parameters → IsArgument (world c keys s v)
          (get_or (map (λ (p : Variable). p.kind) k.parameters) x Void) (get_or vs x (rvalue (integer 0)))
          (variable_register k x) (arguments first (parameters_end k) values)
      pub charge : s.charged ≡ charged c.layout.program u xs
      pub fits : s.charged + k.room ≤ (map_of c).budgets.calls
      pub space : nat_le (objects_end (objects_of_body k) s.stacked) (stack_end c.setting) ≡ true
      pub spare : has_objects (objects_of_body k) ≡ true → nat_lt s.keys c.setting.sizes.budgets.keys ≡ true
      pub work : v.work + most + 91 + 2 * parameters_end k + 60 * length k.parameters
          ≤ factor * (s.work + 4 + 4 * length k.parameters)
      pub stands : StandsIn c IsGood keys s v
      pub separate : AreSeparate (map_of c) s.stacked s.objects
      pub bytes : HaveBytes s.objects
      pub few_keys : s.keys ≤ (map_of c).budgets.keys
      pub statics : Continues (objects_before (expansion_of c).code c.setting) s.objects
      pub statics_live : (n : ℕ) → n < length (expansion_of c).code.statics → (object_at s.objects n).is_live ≡ true
      pub set_up_good : (z : State) → set_up c.setting (header_of_code k) vs line (begun s) ≡ GivesRun tt z
          → IsSetUp (context_at (names c) f []) s.objects z
      pub good : (z : State) → IsSetUp (context_at (names c) f []) s.objects z → AreGood (names c) f ws z
      pub wait : CallerWaits (world c keys s v) s c.layout (stack_first c.setting) k s.stacked (length s.objects) ws
          (frame_of values ∷ xs)

    pub calls_same : c.setting.sizes.budgets.calls ≡ (map_of c).budgets.calls
    calls_same = ap (λ z. z.budgets.calls) right.sizes

    -- the registers of the function, once its plain variables are 0
    abbrev pub begun_values : (values : flat.Values) → flat.Values
    begun_values values = assigned (zero_variables k) (arguments first (parameters_end k) values)

    -- the run is there
    pub record IsBegun (values : flat.Values) (most : ℕ) : Type 0 where
      pub steps : ℕ
      pub work : ℕ
      pub comes : run (step (map_of c) c.layout.program) steps (flat.Stands u pc v xs)
          ≡ flat.Stands f (length (zero_variables k))
          (record v { turns = v.turns + 1; values = begun_values values; work = work }) (frame_of values ∷ xs)
      pub few : work ≤ v.work + most + 8 + 2 * parameters_end k + 10 * plain_count k.variables
      pub same : (y : ℕ) → begun_values values y ≡ arguments first (parameters_end k) values y

    pub begins : (values : flat.Values) (most : ℕ) (keys : Keys) → IsAtCall values most keys → IsBegun values most
    begins values most keys h =
        let m = map_here in
        let th = there f k found in
        let fn = th.function in
        let K = h.comes in
        let charge = h.charge in
        let fits = h.fits in
        let frame = frame_of values in
        let in_room : room_if false (Some fn) ≡ k.room = ap (room_if false) (sym th.function_is) ∙ th.room in
        let in_runtime : room_if true (Some fn) ≡ 0 = ap (room_if true) (sym th.function_is) ∙ th.no_room in
        let behind = room_behind false p frame xs in
        let top = caller_rooms c IsGood right (world c keys s v) s (stack_first c.setting) k s.stacked (length s.objects) ws
        (frame ∷ xs) h.wait in
        let room = and_from (nat_le (room_if false (Some fn) + rooms false p (frame ∷ xs)) m.budgets.calls)
        (nat_le (room_if true (Some fn) + rooms true p (frame ∷ xs)) (region_size m RuntimeCalls))
        (le-leb (room_if false (Some fn) + rooms false p (frame ∷ xs)) m.budgets.calls
        (omega (arith, in_room, behind, charge, fits)))
        (le-leb (room_if true (Some fn) + rooms true p (frame ∷ xs)) (region_size m RuntimeCalls)
        (omega (arith, in_runtime, top))) in
        let called : flat.State = record v { turns = v.turns + 1; values = values; work = v.work + K.work } in
        let n : parameters_of (function_in p f) ≡ parameters_end k = th.parameters in
        let regs = arguments first (parameters_end k) values in
        let in_callee : flat.State = record called {
          values = regs;
          work = v.work + K.work + (8 + 2 * parameters_end k);
        } in
        let e : step m p (flat.Stands u q called xs) ≡ flat.Stands f 0 in_callee (frame ∷ xs) =
        enters_as m p u q called xs f first into fn (h.at (v.work + K.work)) th.function_is room
        ∙ ap (λ z. flat.Stands f 0 (record called {
          values = arguments first z values;
          work = v.work + K.work + (8 + 2 * z);
        }) (frame ∷ xs)) n in
        let zero_list = zero_variables k in
        let parts = zeros_assign (parameters_end k + 1) (total variable_words k.variables) in
        let z = assigns m p f (frame ∷ xs) zero_list parts.0 0 in_callee
        (has_front (body_of (function_in p f)) 0 zero_list
        (if has_objects (objects_of_body k) then enter_body c.layout.expansion k else []) th.begun) in
        let place : 0 + length zero_list ≡ length zero_list = omega arith in
        let K_few = K.few in
        let z_few = z.few in
        let few = few_words k.variables in
        let count = parts.1 in
        record {
          steps = K.steps + (1 + z.steps);
          work = in_callee.work + z.work;
          comes = run_add (step m p) K.steps (1 + z.steps) (flat.Stands u pc v xs)
              ∙ ap (run (step m p) (1 + z.steps)) K.comes
              ∙ run_add (step m p) 1 z.steps (flat.Stands u q called xs)
              ∙ ap (run (step m p) z.steps) e ∙ z.comes
              ∙ ap (λ y. flat.Stands f y (record v {
                turns = v.turns + 1;
                values = begun_values values;
                work = in_callee.work + z.work;
              }) (frame ∷ xs)) place;
          few = omega (arith, K_few, z_few, few, count);
          same = zeros_leave (parameters_end k + 1) (total variable_words k.variables) regs
              (λ y le. argument_out first (parameters_end k) y values (omega (arith, le)));
        }

    -- ---- one without objects

    -- the state behind the set-up of a function without objects
    abbrev callee_state : State
    callee_state =
        let z = laid_out (header_of_code k) vs (begun s) in spent (3 * (z.work - (begun s).work)) z

    pub enters_without : has_objects (objects_of_body k) ≡ false → (values : flat.Values) (most : ℕ) (keys : Keys)
        → IsAtCall values most keys → GivesCall call_stage
    enters_without none values most keys h =
        let m = map_here in
        let header = header_of_code k in
        let th = there f k found in
        let b = begins values most keys h in
        let budget = calls_same in
        let charge = h.charge in
        let fits = h.fits in
        let no_objects = none_has (objects_of_body k) none in
        let set = set_up_gives c.setting header vs line (begun s) no_objects
        (leb-true s.stacked (stack_end c.setting)
        (ap (λ z. nat_le z (stack_end c.setting)) (sym (end_same (objects_of_body k) s.stacked none)) ∙ h.space))
        (le-leb (s.charged + k.room) c.setting.sizes.budgets.calls (omega (arith, fits, budget))) in
        let up = h.set_up_good (laid_out header vs (begun s)) set in
        let frame = frame_of values in
        let behind = room_behind false p frame xs in
        let after = begun_values values in
        let regs = arguments first (parameters_end k) values in
        let zeroed : flat.State = record v { turns = v.turns + 1; values = after; work = b.work } in
        let zero_list = zero_variables k in
        let begun_list : prologue c.layout.expansion k ≡ zero_list ++ [] =
        ap (λ b. zero_list ++ (if b then enter_body c.layout.expansion k else [])) none in
        let long : length (prologue c.layout.expansion k) ≡ length zero_list =
        (let x = ap length begun_list in omega (arith, x, length-append {A = FlatInstruction} zero_list [])) in
        let l = leads_comes m p f (length zero_list) zeroed (frame ∷ xs) (c.layout.address f k.entry)
        (subst (λ y. Leads (body_of (function_in p f)) y (c.layout.address f k.entry)) long th.begins) in
        let last : flat.State = record zeroed { work = b.work + l.work } in
        let comes : run (step m p) (b.steps + l.steps) (flat.Stands u pc v xs)
        ≡ flat.Stands f (c.layout.address f k.entry) last (frame ∷ xs) =
        run_add (step m p) b.steps l.steps (flat.Stands u pc v xs) ∙ ap (run (step m p) l.steps) b.comes ∙ l.comes in
        let many = counted k.parameters in
        let b_few = b.few in
        let l_few = l.few in
        let work = h.work in
        let turned = h.stands.turns in
        let shown = h.stands.for.shown in
        let set_up_is : IsSetUp (context_at (names c) f []) s.objects callee_state =
        record { good = up.good; lives = up.lives; new = up.new; ends = up.ends } in
        let body : IsBodyAs (world c keys s v) s k s.stacked s.stacked (length s.objects)
        (homes_of (body_objects header)) after = record {
          by = subst (BodyBy (world c keys s v) s k s.stacked s.stacked (homes_of (body_objects header)) after) (sym none)
              (refl, no_homes (body_objects header));
          mark = length s.objects;
          within = omega arith;
          own = none_between (body_objects header) (length s.objects) (length s.objects);
        } in
        let result : GivesCall (Stands f k.entry no_temps ws callee_state) = record {
          steps = b.steps + l.steps;
          matches = subst (MatchesBy c IsGood (Stands f k.entry no_temps ws callee_state)) (sym comes) (record {
            function = refl;
            place = refl;
            code = k;
            there = found;
            work = omega (arith, b_few, l_few, work, many);
            charge = omega (arith, behind, th.room, charge);
            fits = omega (arith, fits);
            keys = keys;
            stands = record {
              for = record {
                objects = h.stands.for.objects;
                spaces = h.stands.for.spaces;
                keys = h.stands.for.keys;
                shown = record {
                  input = shown.input;
                  output = shown.output;
                  taken = shown.taken;
                  accesses = shown.accesses;
                };
              };
              top = h.stands.top;
              turns = omega (arith, turned);
            };
            steady = record {
              good = h.good callee_state set_up_is;
              bytes = h.bytes;
              keys = h.few_keys;
              statics = h.statics;
              statics_live = h.statics_live;
            };
            holds = callee_holds (world c keys s v) c.layout.expansion.code k callee_state.charged
                (c.layout.expansion.entries f k.entry) (c.layout.expansion.contents f k.entry) vs
                (homes_of (body_objects header)) after
                (λ x t typed inside. plain_on (views c) keys keys s.objects s.objects v.memory v.memory
                (same_world (views c) keys s.objects v.memory) t (get_or vs x (rvalue (integer 0))).value
                (variable_register k x) regs after (λ j lt. b.same (variable_register k x + j))
                (plain_argument (world c keys s v) (get_or (map (λ (q : Variable). q.kind) k.parameters) x Void) t
                (get_or vs x (rvalue (integer 0))) (variable_register k x) regs
                (plain_parameter k.parameters k.variables x t typed inside).kind (h.arguments_are x inside)))
                (λ y le lt. b.same y ∙ argument_out first (parameters_end k) y values le)
                (λ y le lt. b.same y ∙ argument_out first (parameters_end k) y values (omega (arith, le)))
                (no_homes_held (world c keys s v) k after);
            wait = record {
              by = waits_same (views c) keys s callee_state v.memory c.layout (stack_first c.setting) refl
                  (level k callee_state last) ws (frame ∷ xs)
                  (body_waits (world c keys s v) s c.layout (stack_first c.setting) k after s.stacked s.stacked
                  (length s.objects) (homes_of (body_objects header)) body ws (frame ∷ xs) h.wait);
            };
          });
        } in
        subst (λ z. GivesCall (came (fourfold (begun s).work z) (λ _ y. Stands f k.entry no_temps ws y))) (sym set) result
