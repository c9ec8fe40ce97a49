-- A structure is returned (C99 6.8.6.4 paragraph 3): its contents stay where the areas of the callee begin, and behind the
-- call the caller moves them to the area of its temporary.
use Rattle.std.proofs.Common.{◌≡◌, ◌≢◌, ◌⊎◌, inl, inr, ⊎_elim, ℕ, suc, ◌+◌, ◌-◌, ◌*◌, ◌/◌, ◌<◌, ◌≤◌, Bool, true}
use Rattle.std.proofs.Common.{false, List, ◌∷◌, length, Option, Some, None, refl, sym, ap, ◌∙◌, subst, arith}
use Rattle.std.proofs.Common.{true≢false, get_or}
use Rattle.std.specs.Prelude.{slice_get, ◌==◌}
use Rattle.std.proofs.lemmas.Bool.{and_parts, cases_lt, eqb-false, eqb-true, ne_eqb}
use Rattle.std.proofs.lemmas.List.{length-replicate}
use Rattle.behaviours.specs.Steps.{run}
use Rattle.behaviours.proofs.Running.{run_add}
use Rattle.addr_map.specs.declared.region.Region.TheVariants.{StructureValues}
use Rattle.addr_map.specs.Places.{MapSizes, region_start}
use Rattle.obj_memory.specs.declared.object.Storage.TheVariants.{Automatic}
use Rattle.obj_memory.specs.declared.value.Tag.TheVariants.{Untagged}
use Rattle.obj_memory.specs.Objects.{new_object, ObjectState}
use Rattle.obj_memory.specs.Sound.{IsSoundObject, IsSoundTag}
use Rattle.obj_memory.proofs.Soundness.{sound_object_continues, sound_tag_continues}
use Rattle.c_tree.specs.declared.expression.Kind.TheVariants.{Structure}
use Rattle.source_meaning.specs.State.{State}
use Rattle.source_meaning.specs.Calls.{back_to}
use Rattle.source_meaning.specs.Places.{stack_first}
use Rattle.source_meaning.specs.Structures.{contents_of, taken}
use Rattle.tac_ir.specs.declared.function.Tac.{Tac}
use Rattle.tac_ir.specs.declared.instruction.Instruction.TheVariants as tac
use Rattle.tac_ir.specs.Costs.{contents_handing, handing}
use Rattle.tac_ir.specs.Fitting.{is_passed, is_structure_of}
use Rattle.tac_ir.specs.Meaning.{given_to}
use Rattle.tac_ir.specs.Stage.{Frame, Stage, Stands, Temps, Waiting, Waits, with_temp}
use Rattle.tac_ir.specs.Structures.{greatest_structure, structures_below}
use Rattle.flat_code.specs.declared.instruction.FlatInstruction.{FlatInstruction}
use Rattle.flat_code.specs.declared.function.FlatProgram.{FlatProgram}
use Rattle.flat_code.specs.Calls.{function_in, room_if, rooms, with_results}
use Rattle.flat_code.specs.Meaning.{body_of, step}
use Rattle.flat_code.specs.Memory.{Bytes, KeepsBut}
use Rattle.flat_code.specs.State as flat
use Rattle.flat_code.specs.Words.{HasWords, IsOfWords}
use Rattle.flat_code.proofs.Stored.{load_kept}
use Rattle.flat_code.specs.Routines.Metadata.{metadata_at}
use Rattle.flat_code.specs.Routines.Objects.StandsFor.{Keys, spell, Views}
use Rattle.flat_code.specs.Routines.Routine.{HasAt}
use Rattle.flat_actions.specs.Actions.{IsFor}
use Rattle.lib_wrappers.specs.AreaRoutines.Areas.{area_bytes, entries_begin, HoldsPart, IsArea, IsAreaPlace}
use Rattle.lib_wrappers.proofs.AllocatingRoutines.BlockDeaths.{count_without}
use Rattle.lib_wrappers.specs.AreaRoutines.Values.{work_from}
use Rattle.lib_wrappers.proofs.AreaRoutines.Areas.{area_same}
use Rattle.lib_wrappers.proofs.AreaRoutines.Contents.{byte_moved, contents_size, tag_moved}
use Rattle.runtime_functions.specs.declared.runtime.RuntimeFunction.TheVariants.{MoveArea}
use Rattle.runtime_functions.specs.Actions.{work_of_call}
use Rattle.runtime_functions.specs.Calls.{CallSite}
use Rattle.runtime_functions.specs.Library.{held_from}
use Rattle.runtime_functions.proofs.AreaCalls.{move_served}
use Rattle.metadata_plan.specs.Expanded.{Leads}
use Rattle.metadata_plan.proofs.Flat.{leads_comes, words_kept}
use Rattle.metadata_relation.specs.Blocks.{result_code, result_of, runtime_number, top_cell}
use Rattle.metadata_relation.specs.Holding.{Activation, area_of, Holds, IsContentsAt, IsRvalueAt, IsTemporary, world_of}
use Rattle.metadata_relation.specs.Registers.{first_free, result_words, temporary_register}
use Rattle.metadata_relation.specs.Scopes.{AreGoodBy, IsInCall}
use Rattle.metadata_relation.specs.Stages.{Compiled, IsAt, map_of, MatchesBy, names, views, world}
use Rattle.metadata_relation.specs.Steps.{IsCompiled}
use Rattle.metadata_relation.specs.Structures.{hold_area, move_area_place, receive_code}
use Rattle.metadata_relation.specs.Waiting.{AllWait, AwaitsBy, AwaitsContents, IsBodyAs, IsWaitingAs}
use Rattle.metadata_relation.proofs.Acting.{Reached, waits_below}
use Rattle.metadata_relation.proofs.AreaPlaces.{area_first, area_last, area_place, area_within, areas_apart}
use Rattle.metadata_relation.proofs.AreaPlaces.{greatest_whole}
use Rattle.metadata_relation.proofs.AreaRegisters.{calls_end}
use Rattle.metadata_relation.proofs.AreasBeside.{charge_whole, holds_in, room_is, waits_in}
use Rattle.metadata_relation.proofs.AreaSteps.{area_held, charge_is, hold_few, HoldsArea, place_low}
use Rattle.metadata_relation.proofs.Assigning.{assigned, assigns}
use Rattle.metadata_relation.proofs.Holding.{gives_temporary, holds_on, same_world}
use Rattle.metadata_relation.proofs.LeftBodies as bodies
use Rattle.metadata_relation.proofs.LeftBodies.{out_results, returns_by}
use Rattle.metadata_relation.proofs.LeftObjects.{without}
use Rattle.metadata_relation.proofs.Registers.{temporary_free}
use Rattle.metadata_relation.proofs.RuntimeCalls.{rooms_wait, runtime_call_in, site_in}
use Rattle.metadata_relation.proofs.Standing.{Result}
use Rattle.metadata_relation.proofs.TopCell.{cell_place}
use Rattle.metadata_relation.proofs.Waiting.{waits_at, waits_same}

-- ---- contents that were moved whole

fresh_bytes : (size : ℕ) → length (new_object Automatic 0 size).bytes ≡ size
unfolding new_object
fresh_bytes size = length-replicate size 0

fresh_tags : (size : ℕ) → length (new_object Automatic 0 size).tags ≡ size / 8
unfolding new_object
fresh_tags size = length-replicate (size / 8) Untagged

-- an area that holds all of some contents holds these
pub area_of_all : (g : Views) (k : Keys) (c : ObjectState) (functions : ℕ) (objects : List ObjectState) (a : ℕ)
    (m : Bytes) → IsSoundObject functions objects c → IsArea g k (contents_of c.size 0 c) a m → IsArea g k c a m
area_of_all g k c functions objects a m sound h =
    let fresh = new_object Automatic 0 c.size in
    let n = contents_size c.size 0 c in
    let long = fresh_bytes c.size in
    let tags = fresh_tags c.size in
    let own = sound.bytes in
    record {
      bytes = λ j l.
          (let at : j ≡ 0 + j = omega arith in
          h.bytes j (subst (λ z. j < z) (sym n) l) ∙ ap (λ z. get_or (contents_of c.size 0 c).bytes z 0) at
          ∙ byte_moved c.size 0 0 c fresh (omega arith) (omega arith) j l ∙ ap (λ z. get_or c.bytes z 0) (sym at));
      entries = λ w l.
          (let less = subst (λ z. w < z / 8) (sym n) l in
          let at : (8 * w - 0 + 0) / 8 ≡ w = omega arith in
          ap (λ z. metadata_at m (entries_begin a z + 32 * w)) (sym n) ∙ h.entries w less
          ∙ ap (spell g k)
          (tag_moved c.size 0 0 c fresh refl w (omega arith) (omega arith) (omega arith)
          ∙ ap (λ i. get_or c.tags i Untagged) at));
    }

-- ---- the caller

module _ (c : Compiled) (IsGood : Bytes → Type 0) (right : IsCompiled c IsGood) (u n : ℕ) (temps : Temps)
    (ws : List Frame) (s : State) (v : flat.State) (xs : List flat.Frame)
    (h : IsAt c IsGood u n temps ws s u (c.layout.address u n) v xs)
    (as_words : HasWords (flat.Stands u (c.layout.address u n) v xs)) (a : ℕ)
    (at : slice_get h.code.code n ≡ Some (tac.Return a)) (size : ℕ)
    (kind_is : result_of c.layout.expansion.code h.code ≡ Structure size) (from_first : a ≡ 0) (sized : 1 ≤ size) where
  abbrev pc : ℕ
  pc = c.layout.address u n

  abbrev m : MapSizes
  m = map_of c

  abbrev p : FlatProgram
  p = c.layout.program

  abbrev t : Tac
  t = c.layout.expansion.code

  -- where the contents stand
  abbrev A : ℕ
  A = area_of (map_of c) c.layout.expansion.code h.code s.charged a

  module _ (k : ObjectState) (contents_are : (temps a).contents ≡ Some k) (exact : k.size ≡ size)
      (all : (temps a).value.word ≡ 0) (w : Waiting) (others : List Frame) (x : flat.Frame) (rest : List flat.Frame)
      (alike : xs ≡ x ∷ rest)
      (body_is : IsBodyAs (world c h.keys s v) s h.code s.stacked w.caller.stacked (length s.objects) s.frame v.values)
      (q : IsWaitingAs (world c h.keys s v) c.layout h.code body_is.mark w x rest)
      (wait : AllWait (world c h.keys s v) s c.layout (stack_first c.setting) (record {
        code = q.code;
        values = x.values;
        stacked = w.caller.stacked;
        frame = w.caller.frame;
        bound = body_is.mark;
      }) others rest)
      (inside : IsInCall (names c) u w s) (good_rest : AreGoodBy (names c) w.function others inside.before) where
    abbrev out : bodies.IsLeft c IsGood right u n temps ws s v xs h as_words a at w.caller.stacked body_is.mark
    out = bodies.out c IsGood right u n temps ws s v xs h as_words a at w others x rest alike body_is q wait inside
        good_rest

    abbrev left : State
    left = without s.frame w.caller.stacked s

    abbrev handed : State
    handed = bodies.handed c IsGood right u n temps ws s v xs h as_words a at

    abbrev back_there : State
    back_there = back_to w.caller handed

    -- ---- what the caller has waited with

    abbrev d : ℕ
    d = w.place

    abbrev free : ℕ
    free = first_free q.code

    abbrev into : ℕ
    into = temporary_register q.code w.place

    abbrev b : Bool
    b = c.layout.expansion.entries w.function w.node w.place

    -- the area of its temporary
    abbrev own : ℕ
    own = area_of (map_of c) c.layout.expansion.code q.code w.caller.charged w.place

    abbrev greatest : ℕ
    greatest = greatest_structure c.layout.expansion.code q.code.code w.place

    abbrev hold_list : List FlatInstruction
    hold_list = hold_area (c.layout.expansion.entries w.function w.node w.place) (temporary_register q.code w.place)
        (first_free q.code) (first_free q.code + 1)

    abbrev caller_body : List FlatInstruction
    caller_body = body_of (function_in c.layout.program w.function)

    awaits : AwaitsContents c.layout.expansion q.code w size x.values
    awaits = subst (AwaitsBy c.layout.expansion q.code w x.values) kind_is q.awaits.by

    has : HasAt (body_of (function_in c.layout.program w.function)) x.next
        (receive_code (runtime_number c.layout.expansion.code) (c.layout.expansion.entries w.function w.node w.place)
        (temporary_register q.code w.place) (first_free q.code))
    has = subst (λ z. HasAt caller_body x.next (result_code t q.code z b d)) kind_is q.behind

    leads : Leads (body_of (function_in c.layout.program w.function)) (x.next + 1 + length hold_list)
        (c.layout.address w.function w.node)
    leads = subst (λ z. Leads caller_body z (c.layout.address w.function w.node))
        (let e : x.next + suc (length hold_list) ≡ x.next + 1 + length hold_list = omega arith in e)
        (subst (λ z. Leads caller_body (x.next + length (result_code t q.code z b d)) (c.layout.address w.function w.node))
        kind_is q.leads)

    -- ---- where areas lie

    caller_charge : w.caller.charged ≡ q.code.room + rooms false c.layout.program rest
    caller_charge =
        let room = room_is c IsGood right right.areas w.function q.code q.there in let sum = q.charge in omega arith

    area_is : A ≡ region_start (map_of c) StructureValues + w.caller.charged
    unfolding rooms
    area_is =
        let own_charge = charge_is c IsGood right right.areas u n temps ws s v xs h in
        let frames = ap (rooms false p) alike in
        let same = ap (λ z. room_if false (function_in p z)) q.function in
        let sum = q.charge in
        let none = ap (structures_below t h.code.code) from_first in
        omega arith

    place : IsAreaPlace (map_of c) size own
    place =
        let charge = caller_charge in
        let whole = charge_whole c IsGood right right.areas (world c h.keys s v) s (stack_first c.setting) (record {
          code = q.code;
          values = x.values;
          stacked = w.caller.stacked;
          frame = w.caller.frame;
          bound = body_is.mark;
        }) others rest wait in
        let room = (right.areas.each w.function q.code q.there).whole in
        area_place m right.mapped t q.code w.caller.charged d size (right.areas.each w.function q.code q.there)
        (omega arith) (omega arith) q.fits awaits.small

    own_ends : own + 5 * greatest ≤ region_start (map_of c) StructureValues + w.caller.charged
    own_ends =
        let charge = caller_charge in
        area_last m t q.code w.caller.charged d (right.areas.each w.function q.code q.there) (omega arith)

    own_bytes : area_bytes size ≤ 5 * greatest
    own_bytes = area_within size greatest (greatest_whole t q.code.code d) awaits.small

    -- ---- the contents

    held : IsContentsAt (world c h.keys s v) (c.layout.expansion.entries u n a) (temps a).value k
        (greatest_structure c.layout.expansion.code h.code.code a)
        (area_of (map_of c) c.layout.expansion.code h.code s.charged a) (temporary_register h.code a) v.values
    held = subst (λ o. IsRvalueAt (world c h.keys s v) (c.layout.expansion.entries u n a) (temps a).value o
        (greatest_structure t h.code.code a) A (temporary_register h.code a) v.values) contents_are
        (h.holds.temporaries a (bodies.low c IsGood right u n temps ws s v xs h as_words a at) refl).by

    area_there : IsArea (views c) h.keys k (area_of (map_of c) c.layout.expansion.code h.code s.charged a)
        out.state.memory
    area_there =
        let first = held.place.first in
        let last = held.place.last in
        area_same (views c) h.keys k A v.memory out.state.memory
        (λ i lt. out.objects.goes.behind (A + i) (omega arith) (omega arith)) held.area_is

    sound_there : IsSoundObject (views c).functions left.objects k
    sound_there =
        sound_object_continues s.objects left.objects out.objects.goes.continues k held.sound

    tag_there : IsSoundTag (views c).functions left.objects (temps a).value.tag
    tag_there = sound_tag_continues (views c).functions s.objects left.objects out.objects.goes.continues
        (temps a).value.tag held.tagged

    -- ---- back in the caller

    abbrev words : ℕ
    words = result_words (result_of c.layout.expansion.code h.code)

    abbrev given_back : flat.Values
    given_back = with_results (temporary_register q.code w.place)
        (result_words (result_of c.layout.expansion.code h.code)) out.state.values (temporary_register h.code a) x.values

    abbrev first_state : flat.State
    first_state = record out.state { values = given_back; work = out.state.work + (8 + 2 * words) }

    no_words : words ≡ 0
    no_words = ap result_words kind_is

    same : (y : ℕ) → given_back y ≡ x.values y
    same y = out_results into words (temporary_register h.code a) y out.state.values x.values
        (⊎_elim (λ below. inl below) (λ above. inr (let none = no_words in omega arith)) (cases_lt y into))

    returned : step (map_of c) c.layout.program
        (flat.Stands u out.at_return out.state (x ∷ rest)) ≡ flat.Stands w.function x.next first_state rest
    returned =
        let y = out.state in
        returns_by m p u out.at_return y x rest (temporary_register h.code a) words out.here
        (bodies.results c IsGood right u n temps ws s v xs h as_words a at)
        ∙ ap (λ z. flat.Stands x.function x.next (record y {
          values = with_results z words y.values (temporary_register h.code a) x.values;
          work = y.work + (8 + 2 * words);
        }) rest) q.into
        ∙ ap (λ z. flat.Stands z x.next first_state rest) q.function

    reached : Reached (map_of c) c.layout.program u (c.layout.address u n) v (x ∷ rest) out.at_return out.state 26
    reached = subst (λ i. Reached m p u pc v i out.at_return out.state 26) alike out.objects.reached

    to_caller : run (step (map_of c) c.layout.program) (reached.steps + 1)
        (flat.Stands u (c.layout.address u n) v (x ∷ rest)) ≡ flat.Stands w.function x.next first_state rest
    to_caller = run_add (step m p) reached.steps 1 (flat.Stands u pc v (x ∷ rest))
        ∙ ap (run (step m p) 1) reached.comes ∙ returned

    words_there : IsOfWords first_state
    words_there = (subst HasWords to_caller
        (words_kept m p (reached.steps + 1) (flat.Stands u pc v (x ∷ rest))
        (subst (λ i. HasWords (flat.Stands u pc v i)) alike as_words))).0

    -- ---- the contents are moved

    abbrev call_at : (first into : ℕ) → CallSite
    call_at first into = site_in c IsGood w.function rest (runtime_number c.layout.expansion.code move_area_place) x.next
        first into first_state

    part : HoldsPart (held_from (first_free q.code + 2 + 2)) k.size (temps a).value.word
        (area_of (map_of c) c.layout.expansion.code h.code s.charged a) given_back
    part =
        let lies = area_is in
        let e : free + 2 + 2 ≡ free + 4 = omega arith in
        let f : free + 2 + 2 + 1 ≡ free + 4 + 1 = omega arith in
        let g : free + 2 + 2 + 2 ≡ free + 4 + 2 = omega arith in
        let l : free + 2 + 2 + 4 ≡ free + 4 + 4 = omega arith in
        let part_is = awaits.part.part in
        let base_is = awaits.part.base in
        record {
          part = same (free + 2 + 2) ∙ ap x.values e ∙ omega arith;
          base = same (free + 2 + 2 + 1) ∙ ap x.values f ∙ omega arith;
          bound = same (free + 2 + 2 + 2) ∙ ap x.values g ∙ awaits.part.bound
              ∙ ap (λ z. entries_begin z size) (sym lies) ∙ ap (entries_begin A) (sym exact);
          no_lock = same (free + 2 + 2 + 4) ∙ ap x.values l ∙ awaits.part.no_lock;
        }

    to_is : given_back (first_free q.code + 2) ≡ own
    to_is = same (free + 2) ∙ awaits.first

    -- behind the call
    record IsMoved : Type 0 where
      steps : ℕ
      state : flat.State
      comes : run (step (map_of c) c.layout.program) steps (flat.Stands w.function x.next first_state rest)
          ≡ flat.Stands w.function (x.next + 1) state rest
      few : state.work ≤ first_state.work + work_of_call 7 0 1 (40 + 13 * size)
      turns : state.turns ≡ first_state.turns
      registers : (y : ℕ) → y < first_free q.code + 2 + 7 → state.values y ≡ x.values y
      area_is : IsArea (views c) h.keys k own state.memory
      beside : KeepsBut own (area_bytes size) out.state.memory state.memory
      stands : IsFor (views c) h.keys IsGood (record left { work = left.work + size }) state

    moved : IsMoved
    moved =
        let value = (temps a).value in
        let shown = out.objects.stands.for.shown in
        let charge = caller_charge in
        let called = runtime_call_in c IsGood w.function rest right q.code q.there
        (subst (λ z. z ≤ m.budgets.calls) q.charge q.fits)
        (rooms_wait c IsGood right (world c h.keys s v) s (stack_first c.setting) (record {
          code = q.code;
          values = x.values;
          stacked = w.caller.stacked;
          frame = w.caller.frame;
          bound = body_is.mark;
        }) others rest wait) move_area_place MoveArea refl x.next (free + 2) (free + 9) first_state has.0 in
        let site = call_at (free + 2) (free + 9) in
        let served = move_served m c.entry IsGood p site called.function called.of.routine called.of.code.1
        (length c.setting.functions) c.layout.expansion.types h.keys left
        (record { calls = called.calls; is = called.of.is }) called.of.code.0 k value size 0 A
        (record {
          words = words_there;
          stands = record {
            objects = out.objects.stands.for.objects;
            spaces = out.objects.stands.for.spaces;
            keys = out.objects.stands.for.keys;
            shown = record {
              input = shown.input;
              output = shown.output;
              taken = shown.taken;
              accesses = shown.accesses;
            };
          };
        })
        (record {
          ready = record {
            size_is = same (free + 2 + 1)
                ∙ ap x.values (let e : free + 2 + 1 ≡ free + 3 = omega arith in e) ∙ awaits.size_is;
            place = subst (IsAreaPlace m size) (sym to_is) place;
            part = part;
            room = omega (arith, all, exact);
            from_place = held.place;
            apart = inr (inl (let to = to_is in let end = own_ends in let few = own_bytes in let lies = area_is in
                omega arith));
          };
          area = area_there;
          sound = sound_there;
        }) in
        let z = served.holds in
        let y = z.behind.state in
        let count = contents_size size value.word k in
        record {
          steps = served.steps;
          state = y;
          comes = served.comes ∙ z.behind.at;
          few = (let few = z.behind.work in
              let counted : work_from (taken (Some k) size value 0) left ≡ size = omega arith in
              omega (arith, few, counted));
          turns = z.behind.turns;
          registers = λ r lt. z.behind.others r (inl (omega (arith, lt))) ∙ same r;
          area_is = area_of_all (views c) h.keys k (views c).functions left.objects own y.memory sound_there
              (subst (λ r. IsArea (views c) h.keys (contents_of r 0 k) own y.memory) (sym exact)
              (subst (λ r. IsArea (views c) h.keys (contents_of size r k) own y.memory) all
              (subst (λ r. IsArea (views c) h.keys (contents_of size value.word k) r y.memory) to_is z.area)));
          beside = subst (λ r. KeepsBut own (area_bytes r) out.state.memory y.memory) count
              (subst (λ r. KeepsBut r (area_bytes (contents_of size value.word k).size) out.state.memory y.memory) to_is
              z.beside);
          stands = z.stands;
        }

    -- ---- its registers

    M : IsMoved
    M = moved

    abbrev after : flat.Values
    after = assigned hold_list M.state.values

    hold : HoldsArea (c.layout.expansion.entries w.function w.node w.place) (temporary_register q.code w.place) size own
        M.state.values after
    hold =
        let room = temporary_free q.code d q.low in
        area_held b into free (free + 1) size own M.state.values (omega arith) (omega arith)
        (M.registers free (omega arith) ∙ awaits.own) (M.registers (free + 1) (omega arith) ∙ awaits.ends)

    registers_stay : (y : ℕ) → y < first_free q.code → (y < temporary_register q.code w.place)
        ⊎ (temporary_register q.code w.place + 5 ≤ y) → after y ≡ x.values y
    registers_stay y lt out = hold.others y out ∙ M.registers y (omega arith)

    abbrev now : flat.State
    now = record M.state { values = after }

    abbrev activation : (unknown : ℕ → Bool) → Activation
    activation unknown = record {
      tac = c.layout.expansion.code;
      code = q.code;
      charged = w.caller.charged;
      entries = c.layout.expansion.entries w.function w.node;
      contents = c.layout.expansion.contents w.function w.node;
      unknown = unknown;
    }

    -- no other area changed
    areas_stay : (j : ℕ) → j ≢ w.place → (i : ℕ) → i < 5 * greatest_structure c.layout.expansion.code q.code.code j
        → M.state.memory (area_of (map_of c) c.layout.expansion.code q.code w.caller.charged j + i)
        ≡ out.state.memory (area_of (map_of c) c.layout.expansion.code q.code w.caller.charged j + i)
    areas_stay j ne i lt = M.beside (area_of (map_of c) c.layout.expansion.code q.code w.caller.charged j + i)
        (⊎_elim (λ below. inl (omega arith)) (λ above. inr (let few = own_bytes in omega arith))
        (areas_apart m t q.code w.caller.charged j d ne))

    given : IsTemporary (world_of (views c) h.keys left.objects M.state.memory)
        (c.layout.expansion.entries w.function w.node w.place) (c.layout.expansion.contents w.function w.node w.place)
        (temps a) greatest own (temporary_register q.code w.place) after
    given =
        let low = place_low c IsGood right right.areas u n temps ws s v xs h place in
        record {
          by = subst (λ o. IsRvalueAt (world_of (views c) h.keys left.objects M.state.memory) b (temps a).value o greatest
              own into after) (sym contents_are)
              (record {
                word = hold.word ∙ omega (arith, low, all);
                entry = λ e. (let z = hold.entry e in record {
                  base = z.base;
                  bound = z.bound ∙ ap (entries_begin own) (sym exact);
                  no_lock = z.no_lock;
                });
                place = subst (λ z. IsAreaPlace m z own) (sym exact) place;
                small = (let small = awaits.small in omega (arith, exact));
                area_is = M.area_is;
                sound = sound_there;
                tagged = tag_there;
              });
          none = λ e. absurd (true≢false (sym awaits.may ∙ e));
        }

    caller_holds : Holds (world_of (views c) h.keys left.objects M.state.memory) (activation (λ i. false))
        (with_temp w.temps w.place (temps a)) w.caller.plain w.caller.frame after
    caller_holds =
        let e = c.layout.expansion.entries w.function w.node in
        let may = c.layout.expansion.contents w.function w.node in
        let one = holds_on (views c) h.keys h.keys s.objects left.objects v.memory out.state.memory out.objects.goes
        (activation (λ i. i == d)) e may w.temps w.caller.plain w.caller.frame x.values x.values (λ i z. z) (λ i z. z)
        (λ y o home live is. out.objects.live o (q.below y o home) live is) (λ y lt. refl) q.holds in
        let two = holds_in (views c) h.keys left.objects out.state.memory M.state.memory (activation (λ i. i == d))
        (λ i. i == d) w.temps w.caller.plain w.caller.frame x.values (λ i z. z)
        (λ i z. areas_stay i (eqb-false i d z)) one in
        gives_temporary (views c) h.keys h.keys left.objects left.objects M.state.memory M.state.memory
        (same_world (views c) h.keys left.objects M.state.memory) (activation (λ i. i == d)) e may (λ i. false) w.temps
        w.caller.plain w.caller.frame x.values after d (temps a) q.low
        (record { kept = λ i ne z. z; plain = λ i ne z. z; known = λ i ne z. ne_eqb i d ne })
        (λ y o home live is. live) registers_stay given two

    -- what waits behind it
    others_wait : AllWait (world_of (views c) h.keys left.objects M.state.memory) back_there c.layout
        (stack_first c.setting) (record {
          code = q.code;
          values = after;
          stacked = w.caller.stacked;
          frame = w.caller.frame;
          bound = length left.objects;
        }) others rest
    others_wait =
        let first = stack_first c.setting in
        let low = area_first m t q.code w.caller.charged d in
        let charge = caller_charge in
        let z = world_of (views c) h.keys left.objects M.state.memory in
        let count = count_without s.frame s.objects in
        let within = body_is.within in
        let limit = region_start m StructureValues + rooms false p rest in
        let one = waits_in c IsGood right right.areas h.keys left first limit (views c) left.objects out.state.memory
        M.state.memory (λ y le lt. M.beside y (inl (omega arith))) (record {
          code = q.code;
          values = x.values;
          stacked = w.caller.stacked;
          frame = w.caller.frame;
          bound = body_is.mark;
        }) others rest (omega arith)
        (bodies.others_wait c IsGood right u n temps ws s v xs h as_words a at w others x rest alike body_is q wait
        inside good_rest) in
        waits_at z back_there c.layout first q.code x.values after
        (λ y from to. registers_stay y (omega arith) (inl (omega arith))) w.caller.stacked (length left.objects)
        w.caller.frame others rest
        (waits_same (views c) h.keys left back_there M.state.memory c.layout first refl (record {
          code = q.code;
          values = x.values;
          stacked = w.caller.stacked;
          frame = w.caller.frame;
          bound = length left.objects;
        }) others rest
        (waits_below z left c.layout first q.code x.values body_is.mark (length left.objects) (omega arith)
        w.caller.stacked w.caller.frame others rest one))

    -- ---- the step

    abbrev stage : Stage
    stage = Stands w.function w.node (with_temp w.temps w.place (temps a)) others back_there

    backs : Result c IsGood (given_to (Waits w ∷ others) (temps a) handed)
        (flat.Stands u (c.layout.address u n) v (x ∷ rest))
    backs =
        let few_list = hold_few b into free (free + 1) in
        let assigned_all = assigns m p w.function rest hold_list few_list.assign (x.next + 1) M.state has.1 in
        let second : flat.State = record now { work = M.state.work + assigned_all.work } in
        let l = leads_comes m p w.function (x.next + 1 + length hold_list) second rest
        (c.layout.address w.function w.node) leads in
        let last : flat.State = record now { work = second.work + l.work } in
        let tail = assigned_all.steps + l.steps in
        let comes : run (step m p) (reached.steps + 1 + (M.steps + tail)) (flat.Stands u pc v (x ∷ rest))
        ≡ flat.Stands w.function (c.layout.address w.function w.node) last rest =
        run_add (step m p) (reached.steps + 1) (M.steps + tail) (flat.Stands u pc v (x ∷ rest))
        ∙ ap (run (step m p) (M.steps + tail)) to_caller
        ∙ run_add (step m p) M.steps tail (flat.Stands w.function x.next first_state rest)
        ∙ ap (run (step m p) tail) M.comes
        ∙ run_add (step m p) assigned_all.steps l.steps (flat.Stands w.function (x.next + 1) M.state rest)
        ∙ ap (run (step m p) l.steps) assigned_all.comes ∙ l.comes in
        let end = own_ends in
        let bytes = own_bytes in
        let regions = calls_end m in
        let cell = (cell_place m right.mapped).behind in
        let fits = q.fits in
        let turned = out.objects.stands.turns in
        let same_turns = M.turns in
        let before = h.work in
        let less = reached.few in
        let none = no_words in
        let moving = M.few in
        let assigned_few = assigned_all.few in
        let list_few = few_list.few in
        let l_few = l.few in
        let counted : handing (temps a) ≡ 1 + 4 * k.size = ap contents_handing contents_are in
        let some = sized in
        let z = M.stands in
        record {
          steps = reached.steps + 1 + (M.steps + tail);
          matches = subst (MatchesBy c IsGood stage) (sym comes) (record {
            function = refl;
            place = refl;
            code = q.code;
            there = q.there;
            work = omega (arith, before, less, none, moving, assigned_few, list_few, l_few, counted, exact, some);
            charge = q.charge;
            fits = q.fits;
            keys = h.keys;
            stands = record {
              for = record {
                objects = z.objects;
                spaces = z.spaces;
                keys = z.keys;
                shown = record {
                  input = z.shown.input;
                  output = z.shown.output;
                  taken = z.shown.taken;
                  accesses = z.shown.accesses;
                };
              };
              top = load_kept 8 out.state.memory M.state.memory (top_cell m)
                  (λ j lt. M.beside (top_cell m + j) (inr (omega arith))) ∙ out.objects.stands.top;
              turns = omega (arith, turned, same_turns);
            };
            steady = bodies.steady c IsGood right u n temps ws s v xs h as_words a at w others x rest alike body_is q wait
                inside good_rest;
            holds = caller_holds;
            wait = record { by = others_wait };
          });
        }

  -- ---- of any value that a function returning a structure gives

  pub structure_backs : is_passed (Structure size) (temps a) ≡ true → (w : Waiting) (others : List Frame)
      (x : flat.Frame) (rest : List flat.Frame) (alike : xs ≡ x ∷ rest)
      (body_is : IsBodyAs (world c h.keys s v) s h.code s.stacked w.caller.stacked (length s.objects) s.frame v.values)
      (q : IsWaitingAs (world c h.keys s v) c.layout h.code body_is.mark w x rest)
      (wait : AllWait (world c h.keys s v) s c.layout (stack_first c.setting) (record {
        code = q.code;
        values = x.values;
        stacked = w.caller.stacked;
        frame = w.caller.frame;
        bound = body_is.mark;
      }) others rest)
      (inside : IsInCall (names c) u w s) → AreGoodBy (names c) w.function others inside.before
      → Result c IsGood
      (given_to (Waits w ∷ others) (temps a) (bodies.handed c IsGood right u n temps ws s v xs h as_words a at))
      (flat.Stands u (c.layout.address u n) v (x ∷ rest))
  structure_backs passed w others x rest alike body_is q wait inside good_rest = by (temps a).contents refl passed
    where
      by : (o : Option ObjectState) → (temps a).contents ≡ o → is_structure_of o size (temps a).value.word ≡ true
          → Result c IsGood
          (given_to (Waits w ∷ others) (temps a) (bodies.handed c IsGood right u n temps ws s v xs h as_words a at))
          (flat.Stands u (c.layout.address u n) v (x ∷ rest))
      by None e is = absurd (true≢false (sym is))
      by (Some k) e is =
          let parts = and_parts (k.size == size) ((temps a).value.word == 0) is in
          backs k e (eqb-true k.size size parts.0) (eqb-true (temps a).value.word 0 parts.1) w others x rest alike body_is
          q wait inside good_rest
