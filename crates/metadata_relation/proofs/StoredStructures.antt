-- Where a function is entered, a parameter that is a structure gets its argument: contents are put to its home.
use Rattle.std.proofs.Common.{◌≡◌, inl, ℕ, ◌+◌, ◌-◌, ◌*◌, ◌<◌, ◌≤◌, false, true, List, [], ◌∷◌, ◌++◌, length, length-append, Some}
use Rattle.std.proofs.Common.{refl, ap, ◌∙◌, subst, arith}
use Rattle.std.specs.Prelude.{slice_get, ◌^◌}
use Rattle.addr_map.specs.declared.region.Region.TheVariants.{RuntimeCalls, StructureValues}
use Rattle.addr_map.specs.Places.{region_size, region_start}
use Rattle.obj_memory.specs.declared.value.Place.{Place}
use Rattle.obj_memory.specs.declared.value.Value.{Value}
use Rattle.obj_memory.specs.Judgement.{place_in}
use Rattle.obj_memory.specs.Objects.{ObjectState, pointer_to}
use Rattle.c_tree.specs.declared.expression.Kind.{Kind}
use Rattle.c_tree.specs.declared.expression.Kind.TheVariants.{Structure}
use Rattle.source_meaning.specs.State.{State, Rvalue, Gives, InObject, on, skip}
use Rattle.source_meaning.specs.Acting.{state_of}
use Rattle.source_meaning.specs.Actions.{integer, place_or_stop}
use Rattle.source_meaning.specs.Calls.{write_parameter}
use Rattle.source_meaning.specs.Keeping.{IsDirect}
use Rattle.source_meaning.specs.Structures.{copy_value, give, put_contents, put_range}
use Rattle.source_meaning.proofs.Holding.{direct_named}
use Rattle.tac_ir.specs.declared.function.CodeFunction.{CodeFunction}
use Rattle.flat_code.specs.declared.instruction.FlatInstruction.{FlatInstruction}
use Rattle.flat_code.specs.declared.instruction.FlatInstruction.TheVariants.{Call}
use Rattle.flat_code.specs.Calls.{charged, function_in, rooms}
use Rattle.flat_code.specs.Meaning.{body_of}
use Rattle.flat_code.specs.Memory.{Bytes, put}
use Rattle.flat_code.specs.State as flat
use Rattle.flat_code.specs.Words.{HasWords}
use Rattle.flat_code.proofs.Stored.{put_other, put_same}
use Rattle.flat_code.specs.Routines.Objects.StandsFor.{Keys}
use Rattle.flat_code.specs.Routines.Routine.{HasAt}
use Rattle.flat_code.proofs.Routines.Steps.{has_back, has_front}
use Rattle.flat_actions.specs.Actions.{IsFor, KeepsHeld, Nowhere, work_of}
use Rattle.lib_wrappers.specs.AreaRoutines.Areas.{HoldsPart}
use Rattle.lib_wrappers.specs.AreaRoutines.Values.{putting}
use Rattle.runtime_functions.specs.declared.runtime.RuntimeFunction.TheVariants.{PutArea}
use Rattle.runtime_functions.specs.Actions.{IsServed, work_of_call}
use Rattle.runtime_functions.specs.Areas.{placing_steps}
use Rattle.runtime_functions.specs.Library.{held_from}
use Rattle.runtime_functions.proofs.AreaCalls.{place_served}
use Rattle.metadata_plan.specs.Operators.{OperatorCode}
use Rattle.metadata_plan.proofs.Flat.{move_comes, words_kept}
use Rattle.metadata_relation.specs.Blocks.{runtime_number}
use Rattle.metadata_relation.specs.Holding.{IsContentsAt}
use Rattle.metadata_relation.specs.Stages.{Compiled, map_of, views, world}
use Rattle.metadata_relation.specs.Steps.{IsCompiled}
use Rattle.metadata_relation.specs.Structures.{move_part, put_area_place, store_structure_code}
use Rattle.metadata_relation.proofs.Acting.{Reached, reached_by, reached_computed, reached_next, reached_then}
use Rattle.metadata_relation.proofs.Assigning.{assigned, assigns}
use Rattle.metadata_relation.proofs.RuntimeCalls.{runtime_call_in, site_in}
use Rattle.metadata_relation.proofs.TakenStructures.{part_moved, part_others}
use Rattle.metadata_relation.proofs.TopCell.{cell_place}

-- ---- the source

-- the state behind it
abbrev pub behind_put : (size : ℕ) → Place → (offset : ℕ) → ObjectState → State → State
behind_put size d offset from z =
    record z { work = z.work + size; objects = put_range size d offset from z.objects }

-- contents are put to the home of a parameter
pub put_written : (kind : Kind) (size o line : ℕ) (v : Rvalue) (from : ObjectState) (z : State)
    → kind ≡ Structure size → v.contents ≡ Some from → (d : IsDirect z.objects (pointer_to o z.objects) size)
    → write_parameter kind (InObject o) line v z
    ≡ Gives tt (behind_put size (place_in z.objects d.object (pointer_to o z.objects).word) v.value.word from z)
put_written kind size o line v from z is contents_are d =
    let p = pointer_to o z.objects in
    ap (λ i. write_parameter i (InObject o) line v z) is
    ∙ ap (λ c. on (on (copy_value c size false p line v.value z) (λ _. give p)) (λ _. skip)) contents_are
    ∙ ap (λ r. on (on (on (place_or_stop r line z) (λ q. put_contents size q v.value.word from)) (λ _. give p)) (λ _. skip))
    (direct_named z.objects p size d)

module _ (c : Compiled) (IsGood : Bytes → Type 0) (right : IsCompiled c IsGood) (u : ℕ) (code : CodeFunction)
    (there : slice_get c.layout.expansion.code.functions u ≡ Some code) (xs : List flat.Frame)
    (fits : charged c.layout.program u xs ≤ (map_of c).budgets.calls)
    (room : rooms true c.layout.program xs + 2 ^ 11 ≤ region_size (map_of c) RuntimeCalls) where
  abbrev body : List FlatInstruction
  body = body_of (function_in c.layout.program u)

  abbrev o : OperatorCode
  o = c.layout.expansion.inline.operators

  abbrev puts_area : ℕ
  puts_area = runtime_number c.layout.expansion.code put_area_place

  -- ---- the routine

  module _ (size : ℕ) (p q : Value) (from : ObjectState) (area home r free pc : ℕ) (keys : Keys) (z : State)
      (v : flat.State) (words : HasWords (flat.Stands u pc v xs)) (stands : IsFor (views c) keys IsGood z v)
      (to_is : v.values home ≡ p.word) (to : IsDirect z.objects p size) (low : r + 5 ≤ free) (home_low : home < free)
      (held : IsContentsAt (world c keys z v) true q from from.size area r v.values) (all : q.word ≡ 0)
      (exact : from.size ≡ size) where
    abbrev behind : State
    behind = behind_put size (place_in z.objects to.object p.word) q.word from z

    -- the contents stand in the object, and nothing else changed
    pub record HasStored (place most : ℕ) : Type 0 where
      pub keys_after : Keys
      pub after : flat.State
      pub reached : Reached (map_of c) c.layout.program u pc v xs place after most
      pub stands_after : IsFor (views c) keys_after IsGood behind after
      pub kept : KeepsHeld z.objects keys keys_after
      pub beside : (b : ℕ) → region_start (map_of c) StructureValues ≤ b → after.memory b ≡ v.memory b
      pub turns : after.turns ≡ v.turns
      pub others : (y : ℕ) → y < free → after.values y ≡ v.values y

    run_is : putting from size false p 1 q z ≡ Gives (integer 0) behind
    run_is = ap (λ w. on (on (place_or_stop w 1 z) (λ d. put_contents size d q.word from)) (λ u y. Gives (integer 0) y))
        (direct_named z.objects p size to)

    work_is : work_of (putting from size false p 1 q) z ≡ size
    work_is = ap (λ w. (state_of w).work - z.work) run_is ∙ omega arith

    area_low : area + from.size < 2 ^ 64
    area_low =
        let last = held.place.last in
        let cell = cell_place (map_of c) right.mapped in
        let end = cell.behind in let small = cell.small in
        omega arith

    abbrev constants : List FlatInstruction
    constants = c.layout.expansion.inline.operators.constant (free + 1) size (free + 2)

    abbrev moves : List FlatInstruction
    moves = move_part (free + 2) r

    abbrev call : List FlatInstruction
    call = Call (runtime_number c.layout.expansion.code put_area_place) free (free + 7) ∷ []

    abbrev list : List FlatInstruction
    list = store_structure_code c.layout.expansion.inline.operators (runtime_number c.layout.expansion.code) size home r
        free

    pub structure_stored : HasAt (body_of (function_in c.layout.program u)) pc list
        → HasStored (pc + length list) (103 + 16 * size)
    structure_stored has =
        let m = map_of c in
        let f = c.layout.program in
        let end = area_low in
        let part = held.entry refl in
        let first = put v.values free (v.values home) in
        let moved = move_comes m f u pc v xs free home has.0 in
        let v0 : flat.State = record v { values = first; work = v.work + moved.work } in
        let zero = reached_by m f u xs pc (pc + 1) v (record v { values = first }) 2 moved in
        let made = right.inline.operators.constant m f
        (record { function = u; place = pc + 1; state = v0; frames = xs }) (free + 1) size (free + 2) (omega arith)
        (omega (arith, exact))
        (record {
          has = has_front body (pc + 1) constants (moves ++ call) has.1;
          words = (subst HasWords zero.comes
              (words_kept m f zero.steps (flat.Stands u pc v xs) words)).0;
        }) in
        let at_moves = pc + 1 + length constants in
        let v1 : flat.State = record v { values = made.after; work = v0.work + made.work } in
        let one = reached_computed m f u xs pc (pc + 1) at_moves (free + 1) size (free + 2) v v0 2 5 zero made in
        let has_moves = has_back body (pc + 1) constants (moves ++ call) has.1 in
        let moving = assigns m f u xs moves refl at_moves v1 (has_front body at_moves moves call has_moves) in
        let last = assigned moves made.after in
        let v2 : flat.State = record v { values = last; work = v1.work + moving.work } in
        let at_call = at_moves + 5 in
        let two = reached_next m f u xs pc at_moves at_call v v1 (record v1 { values = last }) 12 10 one moving in
        let has_call = has_back body at_moves moves call has_moves in
        let words_there = (subst HasWords two.comes
        (words_kept m f two.steps (flat.Stands u pc v xs) words)).0 in
        let before = λ (y : ℕ) (lt : y < free). made.others y (omega arith) (λ e. omega arith)
        ∙ put_other v.values free (v.values home) y (λ e. omega arith) in
        let stay = λ (y : ℕ) (lt : y < free + 1).
        part_others size q.word area (free + 2) r made.after (omega arith) y (omega arith)
        ∙ made.others y (omega arith) (λ e. omega arith) in
        let word = held.word in
        let ready : HoldsPart (held_from r) from.size q.word area made.after = record {
          part = before r (omega arith) ∙ word ∙ omega (arith, end, all);
          base = before (r + 1) (omega arith) ∙ part.base;
          bound = before (r + 2) (omega arith) ∙ part.bound;
          no_lock = before (r + 4) (omega arith) ∙ part.no_lock;
        } in
        let handed = part_moved from.size q.word area (free + 2) r made.after (omega arith) ready in
        let site_is = site_in c IsGood u xs puts_area at_call free (free + 7) v2 in
        let called = runtime_call_in c IsGood u xs right code there fits room put_area_place PutArea refl at_call free
        (free + 7) v2 has_call.0 in
        let shown = stands.shown in
        let served = place_served m c.entry IsGood f site_is called.function called.of.routine called.of.code.1
        (length c.setting.functions) c.layout.expansion.types keys z from size false p 1 q area
        (record { calls = called.calls; is = called.of.is }) called.of.code.0
        (record {
          words = words_there;
          stands = record {
            objects = stands.objects;
            spaces = stands.spaces;
            keys = stands.keys;
            shown = record {
              input = shown.input;
              output = shown.output;
              taken = shown.taken;
              accesses = shown.accesses;
            };
          };
        })
        (record {
          word = stay free (omega arith) ∙ put_same v.values free (v.values home) ∙ to_is;
          size_is = part_others size q.word area (free + 2) r made.after (omega arith) (free + 1) (omega arith)
              ∙ made.gives;
          part = handed;
          room = omega (arith, all, exact);
          place = held.place;
          area = held.area_is;
          sound = held.sound;
          direct = to;
          inside = direct_named z.objects p size to;
        }) in
        let bound = work_of_call 7 0 1 (placing_steps from size false p 1 q z) in
        let d = subst (λ w. IsServed (views c) keys IsGood Nowhere site_is 7 0 bound 1 z w served.stage) run_is
        served.holds in
        let y = d.behind.state in
        let all_steps = reached_then m f u xs pc at_call (at_call + 1) v v2 y (12 + 10) bound two
        (record { steps = served.steps; comes = served.comes ∙ d.behind.at; few = d.behind.work }) in
        let few = all_steps.few in
        let count = work_is in
        let counted = length-append constants (moves ++ call) in
        let at : at_call + 1 ≡ pc + length list = omega (arith, counted) in
        record {
          keys_after = d.keys_after;
          after = y;
          reached = subst (λ r. Reached m f u pc v xs r y (103 + 16 * size)) at
              (record { steps = all_steps.steps; comes = all_steps.comes; few = omega (arith, few, count) });
          stands_after = d.stands;
          kept = d.kept;
          beside = λ b le. d.elsewhere.behind b le;
          turns = d.behind.turns;
          others = λ w lt. d.behind.others w (inl (omega arith)) ∙ stay w (omega arith)
              ∙ put_other v.values free (v.values home) w (λ e. omega arith);
        }
