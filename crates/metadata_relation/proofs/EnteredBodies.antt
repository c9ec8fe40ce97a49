-- A function is entered whose body has objects: they are made, parameters that are objects are stored, and the run comes
-- to the function's first node.
use Rattle.std.proofs.Common.{◌≡◌, ℕ, zero, suc, ◌+◌, ◌-◌, ◌*◌, ◌^◌, ◌<◌, ◌≤◌, Bool, true, false}
use Rattle.std.proofs.Common.{List, [], ◌∷◌, ◌++◌, length, length-append, map, get_or, Some, refl, sym, ap, ◌∙◌, subst}
use Rattle.std.proofs.Common.{arith}
use Rattle.std.specs.Prelude.{slice_get, nat_le, nat_lt, if◌then◌else◌}
use Rattle.std.proofs.lemmas.Bool.{and_parts, le-leb, ltb-true}
use Rattle.behaviours.specs.Steps.{run}
use Rattle.behaviours.proofs.Running.{run_add}
use Rattle.addr_map.specs.Places.{MapSizes}
use Rattle.obj_memory.specs.Objects.{object_at}
use Rattle.obj_memory.proofs.Continuing.{continues_then}
use Rattle.c_tree.specs.declared.expression.Kind.TheVariants.{Void}
use Rattle.c_tree.specs.declared.program.Variable.{Variable}
use Rattle.c_tree.specs.Valid.{at_number}
use Rattle.c_tree.specs.Blocks.{block_variables, closed, opened}
use Rattle.source_meaning.specs.State.{Gives as GivesRun, Header, InObject, NoObject, on, Rvalue, Setting, State}
use Rattle.source_meaning.specs.Actions.{integer}
use Rattle.source_meaning.specs.Blocks.{has_objects, objects_end}
use Rattle.source_meaning.specs.Calls.{body_objects, parameter_count, plain_count, plain_values, set_up}
use Rattle.source_meaning.specs.Calls.{write_parameters}
use Rattle.source_meaning.specs.Good.{EndsMade, IsSetUp}
use Rattle.source_meaning.specs.Places.{stack_end, stack_first}
use Rattle.source_meaning.specs.Structures.{rvalue}
use Rattle.source_meaning.proofs.Holding.{live_made}
use Rattle.tac_ir.specs.declared.function.CodeFunction.{CodeFunction}
use Rattle.tac_ir.specs.Costs.{fourfold, spent}
use Rattle.tac_ir.specs.Meaning.{begun, header_of_code, objects_before}
use Rattle.tac_ir.specs.Stage.{came, Frame, no_temps, Stage, Stands}
use Rattle.flat_code.specs.declared.instruction.FlatInstruction.{FlatInstruction}
use Rattle.flat_code.specs.declared.function.FlatProgram.{FlatProgram}
use Rattle.flat_code.specs.Calls.{arguments, function_in}
use Rattle.flat_code.specs.Meaning.{body_of, step}
use Rattle.flat_code.specs.Memory.{Bytes}
use Rattle.flat_code.specs.State as flat
use Rattle.flat_code.specs.Words.{HasWords, WaitWithWords}
use Rattle.flat_code.specs.Routines.Objects.StandsFor.{Keys}
use Rattle.flat_code.specs.Routines.Routine.{HasAt}
use Rattle.flat_code.proofs.Routines.Steps.{has_back, has_front}
use Rattle.flat_actions.proofs.Standing.{for_worked}
use Rattle.lib_wrappers.specs.AllocatingRoutines.Entering.{AreSized, block_bytes}
use Rattle.lib_wrappers.proofs.AllocatingRoutines.SourceEntries.{entered_in, home_between, homes_from, object_count}
use Rattle.lib_wrappers.proofs.AllocatingRoutines.SourceEntries.{placed_count, placing_work, variables_placed}
use Rattle.runtime_functions.specs.Actions.{work_of_call}
use Rattle.metadata_plan.specs.Expanded.{Leads}
use Rattle.metadata_plan.specs.Registers.{all_variables}
use Rattle.metadata_plan.proofs.Calling.{argument_out, counted}
use Rattle.metadata_plan.proofs.Entering.{room_behind}
use Rattle.metadata_plan.proofs.Flat.{leads_comes, words_kept}
use Rattle.metadata_relation.specs.Blocks.{enter_body, enter_code, objects_of_body, prologue, store_parameters}
use Rattle.metadata_relation.specs.Blocks.{zero_variables}
use Rattle.metadata_relation.specs.Holding.{Holds, is_object_in}
use Rattle.metadata_relation.specs.Registers.{first_free, first_object, homes_end}
use Rattle.metadata_relation.specs.Registers.{parameters_end, variable_register, variables_end}
use Rattle.metadata_relation.specs.Scopes.{context_at}
use Rattle.metadata_relation.specs.Stages.{activation, Compiled, expansion_of, level, map_of, MatchesBy, names}
use Rattle.metadata_relation.specs.Stages.{views, world}
use Rattle.metadata_relation.specs.Steps.{are_sized, IsCompiled}
use Rattle.metadata_relation.specs.Waiting.{AllWait, BodyBy, IsBodyAs}
use Rattle.metadata_relation.proofs.Arguments.{argument_on, IsArgument, plain_argument, words_by_kind}
use Rattle.metadata_relation.proofs.Packing.{words_at}
use Rattle.metadata_relation.proofs.Acting.{bytes_on, reached_words, statics_live_on, stands_as, stands_on}
use Rattle.metadata_relation.proofs.Acting.{waits_below}
use Rattle.metadata_relation.proofs.BlockHomes.{bytes_placed, count_work, has_home_in, sized_by, some_counted}
use Rattle.metadata_relation.proofs.BlockVariables.{body_declares, first_is_object}
use Rattle.metadata_relation.proofs.CallHolds.{callee_holds}
use Rattle.metadata_relation.proofs.CallStates.{function_of}
use Rattle.metadata_relation.proofs.Entering.{begun_values, begins, call_stage, calls_same, enters_without}
use Rattle.metadata_relation.proofs.Entering.{frame_of, GivesCall, IsAtCall, IsBegun, IsCoveredCall, there}
use Rattle.metadata_relation.proofs.Holding.{holds_on, plain_on}
use Rattle.metadata_relation.proofs.MadeObjects.{HaveMade, IsToMake, objects_made, placed_lives}
use Rattle.metadata_relation.proofs.Packing.{plain_parameter, words_within}
use Rattle.metadata_relation.proofs.Registers.{home_low, variable_low}
use Rattle.metadata_relation.proofs.RuntimeCalls.{caller_rooms}
use Rattle.metadata_relation.proofs.StoredParameters.{AreStored, AreToStore, parameters_stored}
use Rattle.metadata_relation.proofs.Waiting.{body_waits, caller_by, lock_same, waits_at, waits_on, waits_same}

-- ---- what a call lays out

-- the state in which the objects of a body are made
abbrev pub before_objects : Header → List Rvalue → State → State
before_objects f vs s = record s {
  work = s.work + 1 + (parameter_count f.parameters + plain_count f.variables);
  charged = s.charged + f.room;
  plain = plain_values f vs;
  frame = [];
}

-- once they are made, the parameters among them are written
pub set_up_made : (g : Setting) (f : Header) (vs : List Rvalue) (line : ℕ) (s : State)
    → nat_le (s.charged + f.room) g.sizes.budgets.calls ≡ true
    → nat_le (objects_end (body_objects f) s.stacked) (stack_end g) ≡ true → has_objects (body_objects f) ≡ true
    → nat_lt s.keys g.sizes.budgets.keys ≡ true
    → set_up g f vs line s ≡ write_parameters f.parameters (homes_from (body_objects f) (length s.objects)) line vs
    (entered_in (body_objects f) (before_objects f vs s))
set_up_made g f vs line s fits space some spare =
    let a : State = record s {
      work = s.work + 1 + (parameter_count f.parameters + plain_count f.variables);
      charged = s.charged + f.room;
      plain = plain_values f vs;
      keys = s.keys + 1;
    } in
    rw (fits, space, some, spare)
    (ap (λ r. on r (λ homes (z : State). write_parameters f.parameters homes line vs (record z { frame = homes })))
    (variables_placed (body_objects f) a))

-- a number among some variables is the same among these and more
at_front : (ps vs : List Variable) (j : ℕ) → j < length ps → at_number (ps ++ vs) j ≡ at_number ps j
at_front [] vs j lt = absurd (omega arith)
at_front (p ∷ ps) vs zero lt = refl
at_front (p ∷ ps) vs (suc j) lt = at_front ps vs j (omega arith)

sized_front : (ps vs : List Variable) → AreSized (ps ++ vs) → AreSized ps
sized_front [] vs h = tt
sized_front (p ∷ ps) vs h = (h.0, sized_front ps vs h.1)

module _ (c : Compiled) (IsGood : Bytes → Type 0) (right : IsCompiled c IsGood) (f : ℕ) (k : CodeFunction)
    (found : slice_get c.layout.expansion.code.functions f ≡ Some k) where
  -- the objects of a body are the function's
  body_objects_are : (q : ℕ) → is_object_in (objects_of_body k) q ≡ true
      → (is_object_in (all_variables k) q ≡ true) × (at_number (objects_of_body k) q ≡ at_number (all_variables k) q)
  body_objects_are =
      let t = function_of c IsGood right f k found in
      let numbers = block_variables t.function.body in
      let n = length t.function.parameters in
      let entered : opened numbers n k.variables (map closed k.variables) ≡ k.entered =
      ap (λ (h : Header). opened numbers n h.variables (map closed h.variables)) (sym t.header)
      ∙ ap (λ (h : Header). h.entered) t.header in
      subst (λ os. (q : ℕ) → is_object_in (k.parameters ++ os) q ≡ true
      → (is_object_in (all_variables k) q ≡ true)
      × (at_number (k.parameters ++ os) q ≡ at_number (all_variables k) q)) entered
      (body_declares numbers n k.parameters k.variables)

module _ (c : Compiled) (IsGood : Bytes → Type 0) (right : IsCompiled c IsGood) (u pc q : ℕ) (v : flat.State)
    (xs : List flat.Frame) (f : ℕ) (k : CodeFunction)
    (found : slice_get c.layout.expansion.code.functions f ≡ Some k) (plain : IsCoveredCall c IsGood right k)
    (line first into : ℕ) (vs : List Rvalue) (ws : List Frame) (s : State) where
  abbrev Gives : Stage → Type 0
  Gives = GivesCall c IsGood right u pc q v xs f k found plain line first into vs ws s

  abbrev stage : Stage
  stage = call_stage c IsGood right u pc q v xs f k found plain line first into vs ws s

  abbrev AtCall : (values : flat.Values) → (most : ℕ) → Keys → Type 0
  AtCall = IsAtCall c IsGood right u pc q v xs f k found plain line first into vs ws s

  abbrev p : FlatProgram
  p = c.layout.program

  module _ (some : has_objects (objects_of_body k) ≡ true) (values : flat.Values) (most : ℕ) (keys : Keys)
      (h : IsAtCall c IsGood right u pc q v xs f k found plain line first into vs ws s values most keys) where
    abbrev header : Header
    header = header_of_code k

    abbrev objects : List Variable
    objects = objects_of_body k

    abbrev frame : flat.Frame
    frame = frame_of c IsGood right u pc q v xs f k found plain line first into vs ws s values

    abbrev regs : flat.Values
    regs = arguments first (parameters_end k) values

    b : IsBegun c IsGood right u pc q v xs f k found plain line first into vs ws s values most
    b = begins c IsGood right u pc q v xs f k found plain line first into vs ws s values most keys h

    abbrev mid : State
    mid = before_objects (header_of_code k) vs (begun s)

    abbrev v1 : flat.State
    v1 = record v {
      turns = v.turns + 1;
      values = begun_values c IsGood right u pc q v xs f k found plain line first into vs ws s values;
      work = b.work;
    }

    abbrev at_objects : ℕ
    at_objects = length (zero_variables k)

    abbrev make_list : List FlatInstruction
    make_list = enter_code c.layout.expansion.inline.operators (map_of c) c.layout.expansion.code k (objects_of_body k) k.line

    abbrev store_list : List FlatInstruction
    store_list = store_parameters c.layout.expansion.inline c.layout.expansion.code k 0 k.parameters

    abbrev body : List FlatInstruction
    body = body_of (function_in c.layout.program f)

    begun_list : prologue c.layout.expansion k ≡ zero_variables k ++ (make_list ++ store_list)
    begun_list = ap (λ b. zero_variables k ++ (if b then enter_body c.layout.expansion k else [])) some

    has_body : HasAt body at_objects (make_list ++ store_list)
    has_body = (let place : 0 + length (zero_variables k) ≡ length (zero_variables k) = omega arith in
        subst (λ y. HasAt body y (make_list ++ store_list)) place
        (has_back body 0 (zero_variables k) (make_list ++ store_list)
        (subst (HasAt body 0) begun_list (there c IsGood right f k found).begun)))

    sized : AreSized objects
    sized = sized_by objects
        (and_parts (are_sized objects) _ (and_parts (has_objects objects) _ (plain.entered some)).1).0

    to_make : IsToMake c IsGood f k at_objects v1 (frame ∷ xs) keys mid objects k.line
    to_make =
        let th = there c IsGood right f k found in
        let behind = room_behind false p frame xs in
        let charge = h.charge in
        let fits = h.fits in
        let room = th.room in
        let shown = h.stands.for.shown in
        let turned = h.stands.turns in
        let declared = body_objects_are c IsGood right f k found in
        record {
          there = found;
          words = subst HasWords b.comes (words_kept (map_of c) p b.steps (flat.Stands u pc v xs) h.words);
          stands = record {
            for = record {
              objects = h.stands.for.objects;
              spaces = h.stands.for.spaces;
              keys = h.stands.for.keys;
              shown = record {
                input = shown.input;
                output = shown.output;
                taken = shown.taken;
                accesses = shown.accesses;
              };
            };
            top = h.stands.top;
            turns = omega (arith, turned);
          };
          separate = h.separate;
          bytes = h.bytes;
          fits = omega (arith, behind, room, charge, fits);
          room = caller_rooms c IsGood right (world c keys s v) s (stack_first c.setting) k s.stacked (length s.objects) ws
              (frame ∷ xs) h.wait;
          some = some;
          sized = sized;
          word = ltb-true (block_bytes objects) (2 ^ 64)
              (and_parts (are_sized objects) _ (and_parts (has_objects objects) _ (plain.entered some)).1).1;
          has = has_front body at_objects make_list store_list has_body;
          declared = λ y e. (declared y e).0;
          kinds = λ y e. (declared y e).1;
        }

    words_wait : WaitWithWords (frame ∷ xs)
    words_wait = to_make.words.1

    all_made : (y : flat.State) × HaveMade c IsGood f k at_objects v1 (frame ∷ xs) keys mid objects
        (at_objects + length make_list) y
    all_made = objects_made c IsGood right f k at_objects v1 (frame ∷ xs) keys mid objects k.line
        to_make h.space (h.spare some)

    module _ (y : flat.State) (d : HaveMade c IsGood f k at_objects v1 (frame ∷ xs) keys mid objects
        (at_objects + length make_list) y) where
      abbrev made : State
      made = entered_in (objects_of_body k) (before_objects (header_of_code k) vs (begun s))

      -- ---- registers

      -- those of variables are as the call leaves them
      low_same : (r : ℕ) → r < variables_end k → y.values r ≡ regs r
      low_same r lt = d.low r lt ∙ b.same r

      high_none : (r : ℕ) → homes_end k ≤ r → r < first_free k → y.values r ≡ 0
      high_none r le lt =
          d.high r le lt ∙ b.same r
          ∙ argument_out first (parameters_end k) r values (omega arith)

      holds : Holds (world c d.keys_after made y) (activation c k f k.entry made) no_temps made.plain made.frame y.values
      holds =
          callee_holds (world c d.keys_after made y) c.layout.expansion.code k made.charged
          (c.layout.expansion.entries f k.entry) (c.layout.expansion.contents f k.entry) vs made.frame y.values
          (λ x t typed inside. plain_on (views c) keys d.keys_after s.objects made.objects v.memory y.memory d.goes t
          (get_or vs x (rvalue (integer 0))).value (variable_register k x) regs y.values
          (λ j lt. low_same (variable_register k x + j) (let z = variable_low k x t typed in omega arith))
          (plain_argument (world c keys s v) (get_or (map (λ (q : Variable). q.kind) k.parameters) x Void) t
          (get_or vs x (rvalue (integer 0))) (variable_register k x) regs
          (plain_parameter k.parameters k.variables x t typed inside).kind (h.arguments_are x inside)))
          (λ r le lt. low_same r lt ∙ argument_out first (parameters_end k) r values le) high_none d.homes

      -- ---- what waits

      waits : AllWait (world c d.keys_after made y) made c.layout (stack_first c.setting) (level k made y) ws (frame ∷ xs)
      waits =
          let first_one = first_object objects in
          let object = (body_objects_are c IsGood right f k found first_one (first_is_object objects some)).0 in
          let low = home_low k first_one object in
          let count = placed_count objects s.stacked s.objects in
          let body_is : IsBodyAs (world c d.keys_after made y) made k made.stacked s.stacked (length made.objects) made.frame
          y.values = record {
            by = subst (BodyBy (world c d.keys_after made y) made k made.stacked s.stacked made.frame y.values) (sym some)
                (record {
                  of_lock = d.of_lock;
                  placed = λ no.
                      (let t = has_home_in objects (length s.objects) first_one (first_is_object objects some) in
                      let both : NoObject ≡ InObject t.0 = sym no ∙ t.1 in
                      cc);
                  lock_is = record { first = omega arith; last = omega arith };
                  top_is = d.top_is;
                  top_is_one = record { first = omega arith; last = omega arith };
                });
            mark = length s.objects;
            within = omega arith;
            own = λ o i.
                (let z = home_between objects (length s.objects) o i in
                let lo = z.0 in
                let hi = z.1 in
                (lo, omega arith));
          } in
          body_waits (world c d.keys_after made y) made c.layout (stack_first c.setting) k y.values made.stacked s.stacked
          (length made.objects) made.frame body_is ws (frame ∷ xs)
          (caller_by (views c) keys d.keys_after s made v.memory y.memory c.layout (stack_first c.setting)
          (length s.objects) d.goes (λ o lt live held. (placed_lives objects s.stacked s.objects).live o lt held live)
          (λ homes lock below of. d.locks homes lock (lock_same keys s mid refl homes lock of)) k s.stacked
          (length s.objects) ws (frame ∷ xs) (omega arith) h.wait)

      -- ---- parameters that are objects

      to_store : AreToStore c IsGood right f k found (frame ∷ xs) to_make.fits to_make.room words_wait line made.frame
          k.entered k.parameters 0 (length s.objects) vs d.keys_after made y
      to_store = record {
        words = (reached_words (map_of c) p f (frame ∷ xs) at_objects (at_objects + length make_list) v1 y
            (22 + work_of_call 2 4 1 (100 + 40 * placing_work objects) + 8 * object_count objects) to_make.words
            d.reached);
        stands = d.stands.for;
        homes = d.homes;
        taken = plain.taken;
        sized = sized_front k.parameters k.entered sized;
        placed = λ j o is. (let place : j ≡ 0 + j = omega arith in
            ap (λ i. get_or made.frame i NoObject) (sym place) ∙ is);
        numbers = λ j lt. (let place : 0 + j ≡ j = omega arith in
            ap (at_number (all_variables k)) place ∙ at_front k.parameters k.variables j lt);
        low = λ j lt.
            (let place : j ≡ 0 + j = omega arith in
            let within = words_within k.parameters k.variables j lt in
            subst (λ i. variable_register k i + words_at k.parameters j ≤ variables_end k) place (omega arith));
        held = λ j lt.
            (let place : j ≡ 0 + j = omega arith in
            let within = words_within k.parameters k.variables j lt in
            let words = words_by_kind k.parameters j lt in
            let kind = get_or (map (λ (q : Variable). q.kind) k.parameters) j Void in
            subst (λ i. IsArgument (world c d.keys_after made y) kind (get_or vs j (rvalue (integer 0)))
            (variable_register k i) y.values) place
            (argument_on (views c) keys d.keys_after s.objects made.objects v.memory y.memory d.goes kind
            (get_or vs j (rvalue (integer 0))) (variable_register k j) regs y.values
            (λ i few. low_same (variable_register k j + i) (omega (arith, few, words, within))) (h.arguments_are j lt)));
      }

      stored : AreStored c IsGood right f k found (frame ∷ xs) to_make.fits to_make.room words_wait line made.frame k.entered
          k.parameters (length s.objects) vs (at_objects + length make_list) d.keys_after made y
          (at_objects + length make_list + length store_list)
      stored = parameters_stored c IsGood right f k found (frame ∷ xs) to_make.fits to_make.room words_wait line made.frame
          k.entered k.parameters 0 (length s.objects) vs (at_objects + length make_list) d.keys_after made y
          (has_back body at_objects make_list store_list has_body) to_store

      abbrev laid : State
      laid = record made { objects = stored.objects; accesses = stored.accesses; work = stored.work }

      abbrev z : State
      z = spent (3 * (laid.work - s.work)) laid

      set : set_up c.setting header vs line (begun s) ≡ GivesRun tt laid
      set =
          let budget = calls_same c IsGood right u pc q v xs f k found plain line first into vs ws s in
          let fits = h.fits in
          set_up_made c.setting header vs line (begun s)
          (le-leb (s.charged + k.room) c.setting.sizes.budgets.calls (omega (arith, fits, budget))) h.space some
          (h.spare some) ∙ stored.is

      up : IsSetUp (context_at (names c) f []) s.objects z
      up = (let i = h.set_up_good laid set in record { good = i.good; lives = i.lives; new = i.new; ends = i.ends })

      none_made : EndsMade made.objects laid.objects
      none_made o le live =
          let there = live_made laid.objects o live in
          let count = stored.count in
          absurd (omega arith)

      -- ---- the first node

      stands : Gives (Stands f k.entry no_temps ws z)
      stands =
          let m = map_of c in
          let th = there c IsGood right f k found in
          let x = stored.after in
          let long : at_objects + length make_list + length store_list ≡ length (prologue c.layout.expansion k) =
          (let a = ap length begun_list in
          let e = length-append (zero_variables k) (make_list ++ store_list) in
          let g = length-append make_list store_list in
          omega arith) in
          let place = at_objects + length make_list + length store_list in
          let l = leads_comes m p f place x (frame ∷ xs) (c.layout.address f k.entry)
          (subst (λ i. Leads body i (c.layout.address f k.entry)) (sym long) th.begins) in
          let last : flat.State = record x { work = x.work + l.work } in
          let n1 = d.reached.steps in
          let n2 = stored.reached.steps in
          let comes : run (step m p) (b.steps + (n1 + (n2 + l.steps))) (flat.Stands u pc v xs)
          ≡ flat.Stands f (c.layout.address f k.entry) last (frame ∷ xs) =
          run_add (step m p) b.steps (n1 + (n2 + l.steps)) (flat.Stands u pc v xs)
          ∙ ap (run (step m p) (n1 + (n2 + l.steps))) b.comes
          ∙ run_add (step m p) n1 (n2 + l.steps) (flat.Stands f at_objects v1 (frame ∷ xs))
          ∙ ap (run (step m p) (n2 + l.steps)) d.reached.comes
          ∙ run_add (step m p) n2 l.steps (flat.Stands f (at_objects + length make_list) y (frame ∷ xs))
          ∙ ap (run (step m p) l.steps) stored.reached.comes ∙ l.comes in
          let behind = room_behind false p frame xs in
          let charge = h.charge in
          let room = th.room in
          let fits = h.fits in
          let b_few = b.few in
          let d_few = d.reached.few in
          let s_few = stored.reached.few in
          let more = stored.more in
          let l_few = l.few in
          let work = h.work in
          let many = counted k.parameters in
          let placing = count_work objects sized in
          let one = some_counted objects some in
          let turned = d.stands.turns in
          let same_turns = stored.turns in
          let spare = ltb-true s.keys c.setting.sizes.budgets.keys (h.spare some) in
          let budget = ap (λ (i : MapSizes). i.budgets.keys) right.sizes in
          let in_made = d.stands in
          let stands = stands_on c IsGood d.keys_after stored.keys_after made laid y x d.stands stored.stands refl
          stored.behind (omega arith) in
          let lives = λ (o : ℕ) (live : (object_at made.objects o).is_live ≡ true). stored.live o ∙ live in
          let on_wait = waits_on (views c) d.keys_after stored.keys_after made laid y.memory x.memory c.layout
          (stack_first c.setting) d.stands.for.objects stored.stands.objects stored.goes
          (record { continues = stored.goes.continues; live = λ o lt held live. stored.live o ∙ live }) none_made
          (level k made y) ws (frame ∷ xs) waits in
          let at_wait = waits_at (world c stored.keys_after laid x) laid c.layout (stack_first c.setting) k y.values x.values
          (λ r from to. stored.others r (omega arith)) made.stacked (length made.objects) made.frame ws (frame ∷ xs)
          on_wait in
          let longer = waits_below (world c stored.keys_after laid x) laid c.layout (stack_first c.setting) k x.values
          (length made.objects) (length laid.objects) stored.goes.continues.longer made.stacked made.frame ws (frame ∷ xs)
          at_wait in
          record {
            steps = b.steps + (n1 + (n2 + l.steps));
            matches = subst (MatchesBy c IsGood (Stands f k.entry no_temps ws z)) (sym comes) (record {
              function = refl;
              place = refl;
              code = k;
              there = found;
              work = omega arith;
              charge = omega (arith, behind, room, charge);
              fits = omega (arith, fits);
              keys = stored.keys_after;
              stands = record {
                for = for_worked (views c) stored.keys_after IsGood laid z.work last
                    (stands_as c IsGood stored.keys_after laid x x.values last.work stands).for;
                top = stands.top;
                turns = stands.turns;
              };
              steady = record {
                good = h.good z up;
                bytes = bytes_on made.objects laid.objects stored.goes.continues none_made
                    (bytes_placed objects s.stacked s.objects sized h.bytes);
                keys = omega (arith, spare, budget);
                statics = continues_then (objects_before (expansion_of c).code c.setting) s.objects laid.objects h.statics
                    up.lives.continues;
                statics_live = statics_live_on c s.objects laid.objects up.lives h.statics h.statics_live;
              };
              holds = holds_on (views c) d.keys_after stored.keys_after made.objects laid.objects y.memory x.memory
                  stored.goes (activation c k f k.entry made) (c.layout.expansion.entries f k.entry)
                  (c.layout.expansion.contents f k.entry) no_temps made.plain made.frame y.values x.values
                  (λ i e. e) (λ i e. e) (λ i o home live held. lives o live) stored.others holds;
              wait = record {
                by = waits_same (views c) stored.keys_after laid z x.memory c.layout (stack_first c.setting) refl
                    (level k z last) ws (frame ∷ xs) longer;
              };
            });
          }

    enters_some : Gives stage
    enters_some =
        let d = all_made in
        subst (λ i. Gives (came (fourfold (begun s).work i) (λ _ y. Stands f k.entry no_temps ws y)))
        (sym (set d.0 d.1)) (stands d.0 d.1)

  -- A function is entered, whatever its body has.
  pub enters : (values : flat.Values) (most : ℕ) (keys : Keys) → AtCall values most keys → Gives stage
  enters values most keys h = by (has_objects (objects_of_body k)) refl
    where
      by : (b : Bool) → has_objects (objects_of_body k) ≡ b → Gives stage
      by true some = enters_some some values most keys h
      by false none =
          enters_without c IsGood right u pc q v xs f k found plain line first into vs ws s none values most keys h
