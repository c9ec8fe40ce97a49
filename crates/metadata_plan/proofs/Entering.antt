-- Calls and returns.
use Rattle.std.proofs.Common.{◌≡◌, ◌≢◌, ℕ, ◌+◌, ◌-◌, ◌*◌, ◌^◌, ◌<◌, ◌≤◌, refl, sym, ap, ◌∙◌, subst}
use Rattle.std.proofs.Common.{arith, Bool, true, false, ◌&&◌, List, [], ◌∷◌, ◌++◌, Option, Some, None, length, get_or}
use Rattle.std.proofs.Common.{le-leb, leb-true, eq-eqb, lt-ltb}
use Rattle.std.specs.Prelude.{slice_get, nat_lt, nat_le, ◌==◌, if◌then◌else◌}
use Rattle.std.proofs.lemmas.Bool.{and_parts, and_from, ltb-true, lt-leb}
use Rattle.behaviours.specs.Steps.{run}
use Rattle.behaviours.proofs.Running.{run_add}
use Rattle.addr_map.specs.Places.{MapSizes, region_size}
use Rattle.addr_map.specs.declared.region.Region.TheVariants.{RuntimeCalls}
use Rattle.sb_base.specs.declared.ending.Ending.TheVariants.{Stack}
use Rattle.sb_base.specs.Endings.{code_of, report_of}
use Rattle.c_tree.specs.declared.program.Variable.{Variable}
use Rattle.source_meaning.specs.State.{State, Rvalue, Setting}
use Rattle.source_meaning.specs.Actions.{integer}
use Rattle.source_meaning.specs.Structures.{rvalue}
use Rattle.source_meaning.specs.Places.{stack_first, stack_end}
use Rattle.source_meaning.specs.Calls.{set_up}
use Rattle.tac_ir.specs.declared.function.CodeFunction.{CodeFunction}
use Rattle.tac_ir.specs.declared.function.Tac.{Tac}
use Rattle.tac_ir.specs.Stage.{no_temps, Frame, Waits, Entered, Stage, Stands, Over, came}
use Rattle.tac_ir.specs.Costs.{spent, fourfold, heavier}
use Rattle.tac_ir.specs.Meaning.{header_of_code, begun}
use Rattle.flat_code.specs.declared.instruction.FlatInstruction.TheVariants as flat_code
use Rattle.flat_code.specs.declared.function.FlatFunction.{FlatFunction}
use Rattle.flat_code.specs.declared.function.FlatProgram.{FlatProgram}
use Rattle.flat_code.specs.State as flat
use Rattle.flat_code.specs.Calls.{function_in, room_if, rooms, charged, arguments, with_results}
use Rattle.flat_code.specs.Meaning.{body_of, step, parameters_of, results_of, has_room, enters, instruction_at}
use Rattle.flat_code.specs.Routines.Routine.{HasAt}
use Rattle.flat_code.proofs.Routines.Steps.{has_self}
use Rattle.flat_code.specs.Routines.Objects.StandsFor.{Views, Keys, StandsFor}
use Rattle.metadata_plan.specs.Operators.{OperatorCode, AreOperators}
use Rattle.metadata_plan.specs.Blocks.{prologue, call_tests, entry_code}
use Rattle.metadata_plan.specs.Expanded.{IsExpanded, EntersAt}
use Rattle.metadata_plan.specs.Part.{are_integers, have_no_objects, IsIntegerCode}
use Rattle.metadata_plan.specs.Matching.{factor, IsAlike, AllWait, Wait, MatchesBy}
use Rattle.metadata_plan.proofs.Numbers.{integers_back, integers_words, integers_front, is_integer_variable}
use Rattle.metadata_plan.proofs.Flat.{Comes, leads_comes, one}
use Rattle.metadata_plan.proofs.Holding.{IsSet, holds_free}
use Rattle.metadata_plan.specs.Registers.{words_in}
use Rattle.metadata_plan.proofs.SetUp.{laid_out, laid_out_homes, exhausted, set_up_gives}
use Rattle.metadata_plan.proofs.Standing.{there, integer_function, Result, ends}
use Rattle.metadata_plan.proofs.Calling.{tested, tests_end, counted, callee_holds}
use Rattle.metadata_plan.proofs.Calling.{variables_zeroed, plain_counted, argument_out}

pub room_behind : (b : Bool) (p : FlatProgram) (x : flat.Frame) (xs : List flat.Frame)
    → rooms b p (x ∷ xs) ≡ room_if b (function_in p x.function) + rooms b p xs
unfolding rooms
room_behind b p x xs = refl

pub no_rooms : (b : Bool) (p : FlatProgram) → rooms b p [] ≡ 0
unfolding rooms
no_rooms b p = refl

no_objects_of : (ps es : List Variable) → are_integers ps ≡ true → have_no_objects es ≡ true
    → have_no_objects (ps ++ es) ≡ true
no_objects_of [] es e f = f
no_objects_of (q ∷ ps) es e f =
    let h = is_integer_variable q ps e in
    rw h.0 (no_objects_of ps es h.2 f)

-- the function with which a run begins
pub record EntryIsThere (m : MapSizes) (t : Tac) (q : Option FlatFunction) : Type 0 where
  pub has : HasAt (body_of q) 0 (entry_code m t)
  pub no_room : room_if false q ≡ 0
  pub room : room_if true q ≤ region_size m RuntimeCalls

pub entry_there : (m : MapSizes) (t : Tac) (q : Option FlatFunction) → EntersAt m t q → EntryIsThere m t q
entry_there m t None h = absurd h
entry_there m t (Some f) h = record {
  has = subst (λ z. HasAt z 0 (entry_code m t)) (sym h.body) (has_self (entry_code m t));
  no_room = ap (λ b. if b then 0 else f.room) h.of_runtime;
  room =
      let same : room_if true (Some f) ≡ f.room = ap (λ b. if b then f.room else 0) h.of_runtime in
      omega (arith, h.room);
}

-- where what a call's set-up counts counts four times
abbrev heavier_state : (from : ℕ) → State → State
heavier_state from s = spent (3 * (s.work - from)) s

-- a call that has room
pub enters_step : (m : MapSizes) (p : FlatProgram) (u q : ℕ) (v : flat.State) (xs : List flat.Frame) (f first into : ℕ)
    (fn : FlatFunction) → instruction_at p u q ≡ Some (flat_code.Call f first into) → function_in p f ≡ Some fn
    → has_room m p (record { function = u; next = q + 1; into = into; values = v.values } ∷ xs) fn ≡ true
    → step m p (flat.Stands u q v xs) ≡ flat.Stands f 0
    (record v {
      values = arguments first (parameters_of (function_in p f)) v.values;
      work = v.work
          + (8 + 2 * parameters_of (function_in p f));
    })
    (record { function = u; next = q + 1; into = into; values = v.values } ∷ xs)
enters_step m p u q v xs f first into fn at found room =
    let n = parameters_of (function_in p f) in
    let state : flat.State = record v { work = v.work + (8 + 2 * n) } in
    let frames : List flat.Frame = record { function = u; next = q + 1; into = into; values = v.values } ∷ xs in
    let test = and_from (fn.parameters == fn.parameters)
    ((fn.results == fn.results) && has_room m p frames fn) (eq-eqb fn.parameters fn.parameters refl)
    (and_from (fn.results == fn.results) (has_room m p frames fn) (eq-eqb fn.results fn.results refl) room) in
    one m p u q v xs (flat_code.Call f first into) at
    ∙ ap (λ o. enters m p f first (parameters_of o) (results_of o) o frames state) found
    ∙ ap (λ b. if b then flat.Stands f 0 (record state { values = arguments first fn.parameters v.values }) frames else
    flat.Stuck) test
    ∙ ap (λ o. flat.Stands f 0 (record state { values = arguments first (parameters_of o) v.values }) frames)
    (sym found)

pub returns_step : (m : MapSizes) (p : FlatProgram) (u q : ℕ) (v : flat.State) (x : flat.Frame) (xs : List flat.Frame)
    (y : ℕ) → instruction_at p u q ≡ Some (flat_code.Return y) → results_of (function_in p u) ≡ 1
    → step m p (flat.Stands u q v (x ∷ xs)) ≡ flat.Stands x.function x.next
    (record v { values = with_results x.into 1 v.values y x.values; work = v.work + 10 }) xs
returns_step m p u q v x xs y at results =
    one m p u q v (x ∷ xs) (flat_code.Return y) at
    ∙ ap (λ n. flat.Stands x.function x.next
    (record v { values = with_results x.into n v.values y x.values; work = v.work + (8 + 2 * n) }) xs) results

pub result_set : (free into y : ℕ) (results values : flat.Values)
    → IsSet free into (results y) values (with_results into 1 results y values)
result_set free into y results values = record {
  gives =
      let e : y + (into - into) ≡ y = omega arith in
      ap (λ b. if b then results (y + (into - into)) else values into)
      (and_from (nat_le into into) (nat_lt into (into + 1)) (le-leb into into (omega arith))
      (lt-ltb into (into + 1) (omega arith)))
      ∙ ap results e;
  others = λ z lt ne. by z ne (nat_le into z && nat_lt z (into + 1)) refl;
}
  where
    by : (z : ℕ) → z ≢ into → (b : Bool) → (nat_le into z && nat_lt z (into + 1)) ≡ b
        → (if b then results (y + (z - into)) else values z) ≡ values z
    by z ne true e =
        let a = and_parts (nat_le into z) (nat_lt z (into + 1)) e in
        let lower = leb-true into z a.0 in
        let upper = ltb-true z (into + 1) a.1 in
        absurd (ne (omega arith))
    by z ne false e = refl

module _ (o : OperatorCode) (views : Views) (g : Setting) (t : Tac) (address : (function node : ℕ) → ℕ)
    (p : FlatProgram) (ops : AreOperators o) (ex : IsExpanded o g.sizes t address p)
    (part : IsIntegerCode t) (low : g.sizes.budgets.calls < 2 ^ 63) (stack : stack_first g ≤ stack_end g) where
  abbrev m : MapSizes
  m = g.sizes

  pub runtime_rooms : (ws : List Frame) (xs : List flat.Frame) → AllWait g t address p ws xs
      → rooms true p xs ≤ region_size m RuntimeCalls
  runtime_rooms ws [] h = absurd h
  runtime_rooms [] (x ∷ []) h =
      let entry = entry_there m t (function_in p p.entry) ex.entry in
      let same : room_if true (function_in p x.function) ≡ room_if true (function_in p p.entry) =
      ap (λ z. room_if true (function_in p z)) h.0 in
      omega (arith, room_behind true p x [], no_rooms true p, entry.room)
  runtime_rooms [] (x ∷ y ∷ xs) h = absurd h
  runtime_rooms (Waits w ∷ ws) (x ∷ xs) h =
      let th = there o views g t address p ops ex part w.function h.0.code h.0.there in
      let same : room_if true (function_in p x.function) ≡ room_if true (function_in p w.function) =
      ap (λ z. room_if true (function_in p z)) h.0.function in
      omega (arith, room_behind true p x xs, th.no_room, runtime_rooms ws xs h.1)
  runtime_rooms (Entered n b ∷ ws) (x ∷ xs) h = absurd h

  -- ---- a call

  module _ (u pc q : ℕ) (v : flat.State) (xs : List flat.Frame) (f : ℕ) (c : CodeFunction)
      (found : slice_get t.functions f ≡ Some c) (line first into : ℕ) (vs : List Rvalue) (frames : List Frame)
      (s : State) (charge : s.charged ≡ charged p u xs) (alike : IsAlike s v) where
    abbrev Gives : Stage → Type 0
    Gives a = Result o views g t address p ops ex part a (flat.Stands u pc v xs)

    -- what three-address code does
    abbrev call_stage : Stage
    call_stage = came (heavier (set_up g (header_of_code c) vs line) (begun s))
        (λ _ z. Stands f c.entry no_temps frames z)

    pub enters_matches : (values : flat.Values) (most : ℕ) (keys : Keys)
        → Comes m p u pc v xs q (record v { turns = v.turns + 1; values = values }) most
        → instruction_at p u q ≡ Some (flat_code.Call f first into)
        → ((j : ℕ) → j < length c.parameters
        → get_or vs j (rvalue (integer 0)) ≡ rvalue (integer (values (first + j))))
        → s.charged + c.room ≤ g.sizes.budgets.calls → s.stacked ≡ stack_first g
        → v.work + most + 10 + 2 * length c.parameters ≤ factor * (s.work + 1 + length c.parameters)
        → StandsFor views keys s.objects v.memory
        → Wait g t address p frames (record { function = u; next = q + 1; into = into; values = values } ∷ xs)
        → Gives call_stage
    enters_matches values most keys K at args fits stacked work stands wait =
        let th = there o views g t address p ops ex part f c found in
        let parts = integer_function o views g t address p ops ex part f c found in
        let none = no_objects_of c.parameters c.entered (integers_front c.parameters c.variables parts.variables)
        parts.entered in
        let header = header_of_code c in
        let set = set_up_gives g header vs line (begun s) none (omega (arith, stacked, stack))
        (le-leb (s.charged + c.room) g.sizes.budgets.calls fits) in
        let frame : flat.Frame = record { function = u; next = q + 1; into = into; values = values } in
        let fn = th.function in
        let in_room : room_if false (Some fn) ≡ c.room = ap (room_if false) (sym th.function_is) ∙ th.room in
        let in_runtime : room_if true (Some fn) ≡ 0 = ap (room_if true) (sym th.function_is) ∙ th.no_room in
        let behind = room_behind false p frame xs in
        let top = runtime_rooms frames (frame ∷ xs) wait.by in
        let room = and_from (nat_le (room_if false (Some fn) + rooms false p (frame ∷ xs)) m.budgets.calls)
        (nat_le (room_if true (Some fn) + rooms true p (frame ∷ xs)) (region_size m RuntimeCalls))
        (le-leb (room_if false (Some fn) + rooms false p (frame ∷ xs)) m.budgets.calls (omega arith))
        (le-leb (room_if true (Some fn) + rooms true p (frame ∷ xs)) (region_size m RuntimeCalls) (omega arith)) in
        let called : flat.State =
        record v { turns = v.turns + 1; values = values; work = v.work + K.work } in
        let n : parameters_of (function_in p f) ≡ length c.parameters =
        th.parameters ∙ integers_words c.parameters (integers_front c.parameters c.variables parts.variables) in
        let in_callee : flat.State = record called {
          values = arguments first (length c.parameters) values;
          work = v.work + K.work + (8 + 2 * length c.parameters);
        } in
        let e : step m p (flat.Stands u q called xs) ≡ flat.Stands f 0 in_callee (frame ∷ xs) =
        enters_step m p u q called xs f first into fn at th.function_is room
        ∙ ap (λ z. flat.Stands f 0 (record called {
          values = arguments first z values;
          work = v.work + K.work
              + (8 + 2 * z);
        }) (frame ∷ xs)) n in
        let words = integers_words c.parameters (integers_front c.parameters c.variables parts.variables) in
        let others = integers_back c.parameters c.variables parts.variables in
        let z = variables_zeroed m p f (frame ∷ xs) c.variables others 0 in_callee (words_in c.parameters)
        (λ y le. argument_out first (length c.parameters) y values (omega arith)) th.zeroed in
        let zeroed : flat.State = record in_callee {
          values = z.values;
          work = v.work + K.work + (8 + 2 * length c.parameters) + z.comes.work;
        } in
        let at : 0 + length (prologue c) ≡ length (prologue c) = omega arith in
        let begun_at : run (step m p) z.comes.steps (flat.Stands f 0 in_callee (frame ∷ xs))
        ≡ flat.Stands f (length (prologue c)) zeroed (frame ∷ xs) =
        z.comes.comes ∙ ap (λ y. flat.Stands f y zeroed (frame ∷ xs)) at in
        let l = leads_comes m p f (length (prologue c)) zeroed (frame ∷ xs) (address f c.entry) th.begins in
        let last : flat.State = record zeroed {
          work = v.work + K.work + (8 + 2 * length c.parameters) + z.comes.work + l.work;
        } in
        let comes : run (step m p) (K.steps + (1 + (z.comes.steps + l.steps))) (flat.Stands u pc v xs)
        ≡ flat.Stands f (address f c.entry) last (frame ∷ xs) =
        run_add (step m p) K.steps (1 + (z.comes.steps + l.steps)) (flat.Stands u pc v xs)
        ∙ ap (run (step m p) (1 + (z.comes.steps + l.steps))) K.comes
        ∙ run_add (step m p) 1 (z.comes.steps + l.steps) (flat.Stands u q called xs)
        ∙ ap (run (step m p) (z.comes.steps + l.steps)) e
        ∙ run_add (step m p) z.comes.steps l.steps (flat.Stands f 0 in_callee (frame ∷ xs))
        ∙ ap (run (step m p) l.steps) begun_at ∙ l.comes in
        let t' : State = heavier_state s.work (laid_out header vs (begun s)) in
        let many = counted c.parameters in
        let result : Gives (Stands f c.entry no_temps frames t') = record {
          steps = K.steps + (1 + (z.comes.steps + l.steps));
          matches = subst (MatchesBy views g t address p (Stands f c.entry no_temps frames t')) (sym comes) (record {
            function = refl;
            place = refl;
            code = c;
            there = found;
            holds = holds_free c parts.variables no_temps t'.plain
                (arguments first (length c.parameters) values) z.values
                (callee_holds c vs first values parts.variables args) (λ y lt. z.same y);
            safe = parts.safe;
            alike = record {
              input = alike.input;
              output = alike.output;
              taken = alike.taken;
              accesses = alike.accesses;
              turns = omega (arith, alike.turns);
            };
            work = omega (arith, K.few, z.comes.few, l.few, work, many, plain_counted c.variables others);
            homes = laid_out_homes header;
            stacked = stacked;
            charge = omega (arith, behind, th.room, charge);
            fits = fits;
            keys = keys;
            stands = stands;
            wait = wait;
          });
        } in
        subst (λ z. Gives (came (fourfold s.work z) (λ _ y. Stands f c.entry no_temps frames y))) (sym set) result

    pub exhausts : HasAt (body_of (function_in p u)) pc (call_tests m c.room line first)
        → g.sizes.budgets.calls < s.charged + c.room → s.charged ≤ g.sizes.budgets.calls
        → v.work ≤ factor * s.work + 4 → Gives call_stage
    exhausts has more fits work =
        let none = exhausted g (header_of_code c) vs line (begun s)
        (not_le (s.charged + c.room) g.sizes.budgets.calls more)
        in
        let r = tests_end m p u pc v xs c.room line first has low (omega arith) (omega arith) in
        let stopped : State = heavier_state s.work (record (begun s) { work = s.work + 1 }) in
        let result : Gives (Over (Stack line) stopped) =
        ends o views g t address p ops ex part (flat.Stands u pc v xs) (Stack line) stopped
        (record (tested m p u pc v xs c.room line first has low) {
          work = v.work
              + r.work;
        }) r.steps (code_of (Stack line)) (report_of (Stack line)) r.comes refl refl
        (record {
          input = alike.input;
          output = alike.output;
          taken = alike.taken;
          accesses = alike.accesses;
          turns = omega (arith, alike.turns);
        })
        (omega (arith, r.few, work)) in
        subst (λ z. Gives (came (fourfold s.work z) (λ _ y. Stands f c.entry no_temps frames y))) (sym none) result
      where
        not_le : (a b : ℕ) → b < a → nat_le a b ≡ false
        not_le a b lt = lt-leb a b lt
