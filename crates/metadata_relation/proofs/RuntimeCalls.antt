-- A function of the runtime is called from a block: there is room for its record, and what its routine does at the line of
-- the call the run does, while registers below those of the results stay.
use Rattle.std.proofs.Common.{◌≡◌, inl, ℕ, ◌+◌, ◌^◌, ◌≤◌, true, if◌then◌else◌, List, [], ◌∷◌}
use Rattle.std.proofs.Common.{Option, Some, None, refl, ap, ◌∙◌, subst, arith}
use Rattle.std.specs.Prelude.{slice_get}
use Rattle.addr_map.specs.declared.region.Region.TheVariants.{RuntimeCalls}
use Rattle.addr_map.specs.Places.{region_size}
use Rattle.obj_memory.specs.declared.value.Value.{Value}
use Rattle.source_meaning.specs.State.{State, Gives, Run}
use Rattle.source_meaning.specs.Places.{stack_first}
use Rattle.tac_ir.specs.declared.function.CodeFunction.{CodeFunction}
use Rattle.tac_ir.specs.Stage.{Frame, Temps, Waits, Entered}
use Rattle.flat_code.specs.declared.instruction.FlatInstruction.TheVariants.{Call}
use Rattle.flat_code.specs.declared.function.FlatFunction.{FlatFunction}
use Rattle.flat_code.specs.Calls.{charged, function_in, room_if, rooms}
use Rattle.flat_code.specs.Meaning.{body_of}
use Rattle.flat_code.specs.Memory.{Bytes}
use Rattle.flat_code.specs.State as flat
use Rattle.flat_code.specs.Routines.Objects.StandsFor.{Keys}
use Rattle.flat_actions.specs.Actions.{HasGiven, Nowhere}
use Rattle.runtime_functions.specs.declared.runtime.RuntimeFunction.{RuntimeFunction}
use Rattle.runtime_functions.specs.Actions.{Interface, IsServed, ServesCall, steps_of, work_of_call}
use Rattle.runtime_functions.specs.Calls.{CallSite, CallsFunction}
use Rattle.runtime_functions.specs.Runtime.{IsOfRuntime, runtime_list}
use Rattle.metadata_relation.specs.Blocks.{Expansion, runtime_number}
use Rattle.metadata_relation.specs.Expanded.{EntersAt, IsRuntimeAt}
use Rattle.metadata_relation.specs.Holding.{World}
use Rattle.metadata_relation.specs.Stages.{Compiled, IsAt, level, map_of, views, world}
use Rattle.metadata_relation.specs.Steps.{IsCompiled}
use Rattle.metadata_relation.specs.Waiting.{AllWait, Level}
use Rattle.metadata_relation.proofs.Acting.{Reached}
use Rattle.metadata_relation.proofs.Standing.{there_by}
use Rattle.metadata_relation.proofs.Waiting.{CallerWaits}

-- ---- room

-- the record of the function with which the run began leaves room for one more
entry_room : (e : Expansion) (q : Option FlatFunction) → EntersAt e q
    → room_if true q + 2 ^ 11 ≤ region_size e.map RuntimeCalls
entry_room e None h = absurd h
entry_room e (Some f) h =
    let is : room_if true (Some f) ≡ f.room = ap (λ b. if b then f.room else 0) h.of_runtime in
    let room = h.room in
    omega arith

module _ (c : Compiled) (IsGood : Bytes → Type 0) (right : IsCompiled c IsGood) where
  -- of records that wait it alone is one of the runtime
  pub rooms_wait : (w : World) (s : State) (first : ℕ) (v : Level) (ws : List Frame) (xs : List flat.Frame)
      → AllWait w s c.layout first v ws xs
      → rooms true c.layout.program xs + 2 ^ 11 ≤ region_size (map_of c) RuntimeCalls
  unfolding rooms
  rooms_wait w s first v [] [] h = absurd h
  rooms_wait w s first v [] (x ∷ []) h =
      let room = entry_room c.layout.expansion (function_in c.layout.program c.layout.program.entry) right.expanded.enters in
      let is = ap (λ z. room_if true (function_in c.layout.program z)) h.1.0 in
      omega arith
  rooms_wait w s first v [] (x ∷ y ∷ xs) h = absurd h
  rooms_wait w s first v (Entered n b ∷ ws) xs h =
      rooms_wait w s first (record v { stacked = b.stacked; frame = b.frame; bound = h.0.mark }) ws xs h.1
  rooms_wait w s first v (Waits a ∷ ws) [] h = absurd h
  rooms_wait w s first v (Waits a ∷ ws) (x ∷ xs) h =
      let none = (there_by c.layout.expansion a.function h.1.code (c.layout.address a.function)
      (function_in c.layout.program a.function) (right.expanded.functions a.function h.1.code h.1.there)).no_room in
      let is = ap (λ z. room_if true (function_in c.layout.program z)) h.1.function in
      let rest = rooms_wait w s first (record {
        code = h.1.code;
        values = x.values;
        stacked = a.caller.stacked;
        frame = a.caller.frame;
        bound = h.0.mark;
      }) ws xs h.2 in
      omega arith

  pub caller_rooms : (w : World) (s : State) (first : ℕ) (k : CodeFunction) (outer mark : ℕ) (ws : List Frame)
      (xs : List flat.Frame) → CallerWaits w s c.layout first k outer mark ws xs
      → rooms true c.layout.program xs + 2 ^ 11 ≤ region_size (map_of c) RuntimeCalls
  unfolding rooms
  caller_rooms w s first k outer mark [] [] h = absurd h
  caller_rooms w s first k outer mark [] (x ∷ []) h =
      let room = entry_room c.layout.expansion (function_in c.layout.program c.layout.program.entry) right.expanded.enters in
      let is = ap (λ z. room_if true (function_in c.layout.program z)) h.1.0 in
      omega arith
  caller_rooms w s first k outer mark [] (x ∷ y ∷ xs) h = absurd h
  caller_rooms w s first k outer mark (Entered n b ∷ ws) xs h = absurd h
  caller_rooms w s first k outer mark (Waits a ∷ ws) [] h = absurd h
  caller_rooms w s first k outer mark (Waits a ∷ ws) (x ∷ xs) h =
      let none = (there_by c.layout.expansion a.function h.1.code (c.layout.address a.function)
      (function_in c.layout.program a.function) (right.expanded.functions a.function h.1.code h.1.there)).no_room in
      let is = ap (λ z. room_if true (function_in c.layout.program z)) h.1.function in
      let rest = rooms_wait w s first (record {
        code = h.1.code;
        values = x.values;
        stacked = a.caller.stacked;
        frame = a.caller.frame;
        bound = mark;
      }) ws xs h.2 in
      omega arith

module _ (c : Compiled) (IsGood : Bytes → Type 0) (u : ℕ) (xs : List flat.Frame) where
  -- a call that stands in a function of the program
  abbrev pub site_in : (function place first into : ℕ) → flat.State → CallSite
  site_in g place first into y = record {
    caller = u;
    place = place;
    state = y;
    frames = xs;
    function = g;
    first = first;
    into = into;
  }

  pub record RuntimeCall (k : ℕ) (f : RuntimeFunction) (place first into : ℕ) (y : flat.State) : Type 0 where
    pub function : FlatFunction
    pub of : IsOfRuntime (map_of c) c.entry IsGood f function
    pub calls : CallsFunction (map_of c) c.layout.program
        (site_in (runtime_number c.layout.expansion.code k) place first into y) function

  module _ (right : IsCompiled c IsGood) (code : CodeFunction)
      (there : slice_get c.layout.expansion.code.functions u ≡ Some code)
      (fits : charged c.layout.program u xs ≤ (map_of c).budgets.calls)
      (room : rooms true c.layout.program xs + 2 ^ 11 ≤ region_size (map_of c) RuntimeCalls) where
    pub runtime_call_in : (k : ℕ) (f : RuntimeFunction) → slice_get runtime_list k ≡ Some f → (place first into : ℕ)
        (y : flat.State)
        → slice_get (body_of (function_in c.layout.program u)) place
        ≡ Some (Call (runtime_number c.layout.expansion.code k) first into)
        → RuntimeCall k f place first into y
    unfolding rooms
    runtime_call_in k f listed place first into y at =
        by (function_in c.layout.program (runtime_number c.layout.expansion.code k)) refl
        (right.expanded.runtime k f listed)
      where
        by : (q : Option FlatFunction)
            → function_in c.layout.program (runtime_number c.layout.expansion.code k) ≡ q
            → IsRuntimeAt (map_of c) c.entry IsGood f q → RuntimeCall k f place first into y
        by None e is = absurd is
        by (Some g) e is =
            let none = (there_by c.layout.expansion u code (c.layout.address u) (function_in c.layout.program u)
            (right.expanded.functions u code there)).no_room in
            let own = is.0.is.room in
            record {
              function = g;
              of = is.0;
              calls = record { at = at; found = e; fits = fits; room = omega (arith, none, room, own) };
            }

module _ (c : Compiled) (IsGood : Bytes → Type 0) (right : IsCompiled c IsGood) (u n : ℕ) (temps : Temps)
    (ws : List Frame) (s : State) (v : flat.State) (xs : List flat.Frame)
    (h : IsAt c IsGood u n temps ws s u (c.layout.address u n) v xs) where
  -- a call that stands in the block
  abbrev pub site : (function place first into : ℕ) → flat.State → CallSite
  site = site_in c IsGood u xs

  pub runtime_call : (k : ℕ) (f : RuntimeFunction) → slice_get runtime_list k ≡ Some f → (place first into : ℕ)
      (y : flat.State)
      → slice_get (body_of (function_in c.layout.program u)) place
      ≡ Some (Call (runtime_number c.layout.expansion.code k) first into)
      → RuntimeCall c IsGood u xs k f place first into y
  runtime_call =
      runtime_call_in c IsGood u xs right h.code h.there
      (subst (λ z. z ≤ (map_of c).budgets.calls) h.charge h.fits)
      (rooms_wait c IsGood right (world c h.keys s v) s (stack_first c.setting) (level h.code s v) ws xs h.wait.by)

-- ---- what was done

module _ (c : Compiled) (IsGood : Bytes → Type 0) where
  -- the call of an action is passed
  pub record Completes (k : Keys) (s : CallSite) (bound : ℕ) (before after : State) (value : Value) : Type 0 where
    pub state : flat.State
    pub reached : Reached (map_of c) c.layout.program s.caller s.place s.state s.frames (s.place + 1) state bound
    pub given : HasGiven (views c) k IsGood Nowhere s.into before s.state value after state

  pub completes : (k : Keys) (face : Interface) (s : CallSite) (parameters results line : ℕ) (x : State)
      (of : Run Value)
      → ServesCall (map_of c) c.layout.program (views c) k IsGood face s parameters results line x of
      → (value : Value) (x' : State) → of x ≡ Gives value x'
      → Completes k s (work_of_call parameters results face.price (steps_of face of x)) x x' value
  completes k face s a r line x of h value x' gives =
      let bound = work_of_call a r face.price (steps_of face of x) in
      let d = subst (λ o. IsServed (views c) k IsGood face.result s a r bound line x o h.stage) gives h.holds in
      record {
        state = d.behind.state;
        reached = record { steps = h.steps; comes = h.comes ∙ d.behind.at; few = d.behind.work };
        given = record {
          keys = d.keys_after;
          held = d.kept;
          stands = d.stands;
          given = tt;
          turns = d.behind.turns;
          elsewhere = d.elsewhere;
          others = λ y lt none. d.behind.others y (inl lt);
        };
      }
