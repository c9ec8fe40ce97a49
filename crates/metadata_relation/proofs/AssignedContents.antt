-- Contents that are assigned to a place (C99 6.5.16.1): a function of the runtime puts their bytes and entries there.
use Rattle.std.proofs.Common.{◌≡◌, inl, ℕ, ◌+◌, ◌-◌, ◌*◌, ◌^◌, ◌<◌, ◌≤◌, true, false, List, [], ◌∷◌, ◌++◌, refl}
use Rattle.std.proofs.Common.{length, length-append, Some, sym, ap, ◌∙◌, subst, arith}
use Rattle.std.proofs.lemmas.List.{length-map}
use Rattle.obj_memory.specs.declared.value.Place.{Place}
use Rattle.obj_memory.specs.declared.value.Value.{Value}
use Rattle.obj_memory.specs.Judgement.{place_in}
use Rattle.obj_memory.specs.Objects.{ObjectState}
use Rattle.obj_memory.specs.Sound.{IsSoundObject, IsSoundTag}
use Rattle.c_tree.specs.declared.expression.Kind.TheVariants.{Structure}
use Rattle.source_meaning.specs.State.{Gives, on, State}
use Rattle.source_meaning.specs.Acting.{state_of}
use Rattle.source_meaning.specs.Actions.{integer, place_or_stop}
use Rattle.source_meaning.specs.Calls.{header_of}
use Rattle.source_meaning.specs.Good.{After, function_count, Leaves, OnValue, ValueIs}
use Rattle.source_meaning.specs.Keeping.{IsDirect}
use Rattle.source_meaning.specs.Structures.{copy_value, give, put_contents, put_range}
use Rattle.source_meaning.proofs.Holding.{direct_named}
use Rattle.source_meaning.proofs.SureStructures.{sure_write_rvalue}
use Rattle.tac_ir.specs.Costs.{spent}
use Rattle.tac_ir.specs.Stage.{Frame, Temps}
use Rattle.flat_code.specs.declared.instruction.FlatInstruction.{FlatInstruction}
use Rattle.flat_code.specs.declared.instruction.FlatInstruction.TheVariants.{Call}
use Rattle.flat_code.specs.Calls.{function_in}
use Rattle.flat_code.specs.Meaning.{body_of}
use Rattle.flat_code.specs.Memory.{Bytes}
use Rattle.flat_code.specs.State as flat
use Rattle.flat_code.specs.Words.{HasWords}
use Rattle.flat_code.specs.Routines.Objects.StandsFor.{Keys}
use Rattle.flat_code.specs.Routines.Routine.{HasAt}
use Rattle.flat_code.proofs.Routines.Steps.{has_back, has_front}
use Rattle.flat_actions.specs.Actions.{HasGiven, Nowhere, work_of}
use Rattle.lib_wrappers.specs.AreaRoutines.Areas.{HoldsPart}
use Rattle.lib_wrappers.specs.AreaRoutines.Values.{putting}
use Rattle.runtime_functions.specs.declared.runtime.RuntimeFunction.TheVariants.{PutArea}
use Rattle.runtime_functions.specs.Actions.{IsServed, work_of_call}
use Rattle.runtime_functions.specs.Areas.{placing_steps}
use Rattle.runtime_functions.specs.Library.{held_from}
use Rattle.runtime_functions.proofs.AreaCalls.{place_served}
use Rattle.metadata_plan.specs.Registers.{most_temporaries}
use Rattle.metadata_relation.specs.Blocks.{runtime_number}
use Rattle.metadata_relation.specs.Holding.{IsContentsAt}
use Rattle.metadata_relation.specs.Registers.{first_free, temporary_register}
use Rattle.metadata_relation.specs.Scopes.{context_at}
use Rattle.metadata_relation.specs.Stages.{Compiled, IsAt, map_of, names, views, world}
use Rattle.metadata_relation.specs.Steps.{IsCompiled}
use Rattle.metadata_relation.specs.Structures.{move_part, part_call_code, put_area_place}
use Rattle.metadata_relation.proofs.Acting.{behind_action, HasActed, Reached, reached_computed, reached_next}
use Rattle.metadata_relation.proofs.Acting.{reached_then}
use Rattle.metadata_relation.proofs.Acting.{reached_words}
use Rattle.metadata_relation.proofs.Assigning.{assigned, assigns}
use Rattle.metadata_relation.proofs.Finishing.{acted_as, acted_then, acted_worked, nothing_done, tagged_in}
use Rattle.metadata_relation.proofs.Registers.{temporary_free}
use Rattle.metadata_relation.proofs.RuntimeCalls.{runtime_call, site}
use Rattle.metadata_relation.proofs.Setting.{functions_same}
use Rattle.metadata_relation.proofs.Standing.{good_now}
use Rattle.metadata_relation.proofs.TakenStructures.{part_moved, part_others}
use Rattle.metadata_relation.proofs.TopCell.{cell_place}

module _ (c : Compiled) (IsGood : Bytes → Type 0) (right : IsCompiled c IsGood) (u n : ℕ) (temps : Temps)
    (ws : List Frame) (s : State) (v : flat.State) (xs : List flat.Frame)
    (h : IsAt c IsGood u n temps ws s u (c.layout.address u n) v xs)
    (words : HasWords (flat.Stands u (c.layout.address u n) v xs)) where
  abbrev pc : ℕ
  pc = c.layout.address u n

  abbrev T : (temporary : ℕ) → ℕ
  T i = temporary_register h.code i

  abbrev free : ℕ
  free = first_free h.code

  abbrev body : List FlatInstruction
  body = body_of (function_in c.layout.program u)

  -- the state of the source behind an assignment from an offset of contents, and what an instruction makes of it
  abbrev pub put_there : (paid size : ℕ) → (to : Place) → (offset : ℕ) → (from : ObjectState) → State
  put_there w size d offset from = record (spent w s) {
    work = (spent w s).work + size;
    objects = put_range size d offset from s.objects;
  }

  abbrev pub behind_put : (paid size : ℕ) → (to : Place) → (offset : ℕ) → (from : ObjectState) → State
  behind_put w size d offset from = record (spent w s) {
    work = (spent w s).work + size + 3 * ((spent w s).work + size - (spent w s).work);
    objects = put_range size d offset from s.objects;
  }

  -- the contents were put, and the run stands at a place of the block
  pub record HasPut (paid size : ℕ) (to : Place) (offset : ℕ) (from : ObjectState) (place most : ℕ) : Type 0 where
    pub keys : Keys
    pub after : flat.State
    pub reached : Reached (map_of c) c.layout.program u (c.layout.address u n) v xs place after most
    pub acted : HasActed c IsGood right u n temps ws s v xs h (behind_put paid size to offset from) keys after
    pub others : (r : ℕ) → r < first_free h.code → after.values r ≡ v.values r

  -- sound contents are so in the scope that runs
  object_in : (from : ObjectState) → IsSoundObject (views c).functions s.objects from
      → IsSoundObject (function_count (context_at (names c) u ws)) s.objects from
  object_in from sound = subst (λ z. IsSoundObject z s.objects from)
      (ap length (sym right.functions) ∙ length-map c.typed.functions header_of ∙ sym (functions_same (names c) u))
      sound

  module _ (w size : ℕ) (p q : Value) (from : ObjectState) (i greatest area : ℕ)
      (low : i < most_temporaries h.code.code) (to : IsDirect s.objects p size)
      (to_sound : IsSoundTag (views c).functions s.objects p.tag)
      (held : IsContentsAt (world c h.keys s v) true q from greatest area (temporary_register h.code i) v.values)
      (inside : q.word + size ≤ from.size) (small : size < 2 ^ 64) where
    abbrev paid : State
    paid = spent w s

    abbrev d_place : Place
    d_place = place_in s.objects to.object p.word

    pub copy_is : (line : ℕ) → copy_value (Some from) size false p line (integer q.word) (spent w s)
        ≡ Gives tt (put_there w size (place_in s.objects to.object p.word) q.word from)
    copy_is line = ap (λ o. on (place_or_stop o line paid) (λ d. put_contents size d q.word from))
        (direct_named s.objects p size to)

    run_is : putting from size false p 1 q (spent w s)
        ≡ Gives (integer 0) (put_there w size (place_in s.objects to.object p.word) q.word from)
    run_is = ap (λ o. on o (λ z y. Gives (integer 0) y)) (copy_is 1)

    work_is : work_of (putting from size false p 1 q) (spent w s) ≡ size
    work_is = ap (λ o. (state_of o).work - (spent w s).work) run_is ∙ omega arith

    area_low : area + from.size < 2 ^ 64
    area_low =
        let last = held.place.last in
        let cell = cell_place (map_of c) right.mapped in
        let behind = cell.behind in let small = cell.small in
        omega arith

    word_low : q.word < 2 ^ 64
    word_low = let end = area_low in omega (arith, inside)

    word_is : v.values (temporary_register h.code i) ≡ area + q.word
    word_is = let end = area_low in held.word ∙ omega (arith, inside)

    leaves : Leaves (context_at (names c) u ws) (spent w s)
        (put_there w size (place_in s.objects to.object p.word) q.word from)
    leaves =
        let sc = context_at (names c) u ws in
        (subst (λ o. After sc (spent w s) (ValueIs (function_count sc) (Structure size)) o)
        (ap (λ o. on o (λ z. give p)) (copy_is 1))
        ((sure_write_rvalue OnValue (Structure size) p 1
        (record { value = integer q.word; contents = Some from })).by paid
        (good_now (names c) u ws s h.steady.good) (
          (tagged_in c IsGood right u n temps ws s v xs h s.objects p to_sound, to),
          record {
            tag = tt;
            structure = record { sound = object_in from held.sound; room = inside };
            word = λ e. word_low;
          },
        ))).0

    module _ (place most : ℕ) (values : flat.Values) (work : ℕ)
        (come : Reached (map_of c) c.layout.program u (c.layout.address u n) v xs place
        (record v { values = values; work = work }) most)
        (same : (r : ℕ) → r < first_free h.code → values r ≡ v.values r)
        (to_is : values (first_free h.code) ≡ p.word)
        (has : HasAt (body_of (function_in c.layout.program u)) place
        (part_call_code c.layout.expansion.inline.operators (runtime_number c.layout.expansion.code put_area_place) size
        (temporary_register h.code i) (first_free h.code))) where
      abbrev constants : List FlatInstruction
      constants = c.layout.expansion.inline.operators.constant (free + 1) size (free + 2)

      abbrev moves : List FlatInstruction
      moves = move_part (free + 2) (T i)

      abbrev call : List FlatInstruction
      call = Call (runtime_number c.layout.expansion.code put_area_place) free (free + 7) ∷ []

      pub puts : HasPut w size (place_in s.objects to.object p.word) q.word from (place + length
          (part_call_code c.layout.expansion.inline.operators (runtime_number c.layout.expansion.code put_area_place)
          size
          (temporary_register h.code i) (first_free h.code))) (most + 101 + 16 * size)
      puts =
          let m = map_of c in
          let f = c.layout.program in
          let room = temporary_free h.code i low in
          let part = held.entry refl in
          let v0 : flat.State = record v { values = values; work = work } in
          let made = right.inline.operators.constant m f
          (record { function = u; place = place; state = v0; frames = xs }) (free + 1) size (free + 2) (omega arith)
          small
          (record {
            has = has_front body place constants (moves ++ call) has;
            words = reached_words m f u xs pc place v v0 most words come;
          }) in
          let at_moves = place + length constants in
          let v1 : flat.State = record v { values = made.after; work = work + made.work } in
          let one = reached_computed m f u xs pc place at_moves (free + 1) size (free + 2) v v0 most 5 come made in
          let has_moves = has_back body place constants (moves ++ call) has in
          let moving = assigns m f u xs moves refl at_moves v1 (has_front body at_moves moves call has_moves) in
          let last = assigned moves made.after in
          let v2 : flat.State = record v { values = last; work = v1.work + moving.work } in
          let at_call = at_moves + 5 in
          let two = reached_next m f u xs pc at_moves at_call v v1 (record v1 { values = last }) (most + 10) 10 one
          moving in
          let has_call = has_back body at_moves moves call has_moves in
          let stay = λ (y : ℕ) (lt : y < free + 1).
          part_others size q.word area (free + 2) (T i) made.after (omega arith) y (omega arith)
          ∙ made.others y (omega arith) (λ e. omega arith) in
          let before = λ (y : ℕ) (lt : y < free). made.others y (omega arith) (λ e. omega arith) ∙ same y lt in
          let ready : HoldsPart (held_from (T i)) from.size q.word area made.after = record {
            part = before (T i) (omega arith) ∙ word_is;
            base = before (T i + 1) (omega arith) ∙ part.base;
            bound = before (T i + 2) (omega arith) ∙ part.bound;
            no_lock = before (T i + 4) (omega arith) ∙ part.no_lock;
          } in
          let handed = part_moved from.size q.word area (free + 2) (T i) made.after (omega arith) ready in
          let begun = acted_as c IsGood right u n temps ws s v xs h (behind_action s paid) h.keys v v2.values v2.work
          (acted_worked c IsGood right u n temps ws s v xs h s h.keys v paid.work
          (nothing_done c IsGood right u n temps ws s v xs h)) in
          let site_is = site c IsGood right u n temps ws s v xs h
          (runtime_number c.layout.expansion.code put_area_place) at_call free (free + 7) v2 in
          let called = runtime_call c IsGood right u n temps ws s v xs h put_area_place PutArea refl at_call free
          (free + 7)
          v2 has_call.0 in
          let served = place_served m c.entry IsGood f site_is called.function called.of.routine called.of.code.1
          (length c.setting.functions) c.layout.expansion.types h.keys paid from size false p 1 q area
          (record { calls = called.calls; is = called.of.is }) called.of.code.0
          (record {
            words = reached_words m f u xs pc at_call v v2 (most + 10 + 10) words two;
            stands = begun.stands.for;
          })
          (record {
            word = stay free (omega arith) ∙ to_is;
            size_is = part_others size q.word area (free + 2) (T i) made.after (omega arith) (free + 1) (omega arith)
                ∙ made.gives;
            part = handed;
            room = inside;
            place = held.place;
            area = held.area_is;
            sound = held.sound;
            direct = to;
            inside = direct_named s.objects p size to;
          }) in
          let bound = work_of_call 7 0 1 (placing_steps from size false p 1 q paid) in
          let d = subst (λ o. IsServed (views c) h.keys IsGood Nowhere site_is 7 0 bound 1 paid o served.stage) run_is
          served.holds in
          let y = d.behind.state in
          let z = put_there w size d_place q.word from in
          let given : HasGiven (views c) h.keys IsGood Nowhere (free + 7) paid v2 (integer 0) z y = record {
            keys = d.keys_after;
            held = d.kept;
            stands = d.stands;
            given = tt;
            turns = d.behind.turns;
            elsewhere = d.elsewhere;
            others = λ r lt none. d.behind.others r (inl lt);
          } in
          let acted = acted_then c IsGood right u n temps ws s v xs h Nowhere (free + 7) paid.work (integer 0) paid z
          h.keys
          v2 y begun given leaves h.steady.keys in
          let all = reached_then m f u xs pc at_call (at_call + 1) v v2 y (most + 10 + 10) bound two
          (record { steps = served.steps; comes = served.comes ∙ d.behind.at; few = d.behind.work }) in
          let few = all.few in
          let count = work_is in
          let counted = length-append constants (moves ++ call) in
          let at : at_call + 1 ≡ place + length (constants ++ (moves ++ call)) = omega (arith, counted) in
          record {
            keys = d.keys_after;
            after = y;
            reached = subst (λ r. Reached m f u pc v xs r y (most + 101 + 16 * size)) at
                (record { steps = all.steps; comes = all.comes; few = omega (arith, few, count) });
            acted = acted_worked c IsGood right u n temps ws s v xs h z d.keys_after y
                (behind_put w size d_place q.word from).work acted;
            others = λ r lt. d.behind.others r (inl (omega arith)) ∙ stay r (omega arith) ∙ same r lt;
          }
