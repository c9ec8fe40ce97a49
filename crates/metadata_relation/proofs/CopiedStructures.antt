-- Structures that are assigned from their places: a function of the runtime moves their bytes and entries.
use Rattle.std.proofs.Common.{◌≡◌, inl, ℕ, suc, ◌+◌, ◌-◌, ◌*◌, ◌^◌, ◌<◌, ◌≤◌, Bool, true, false, List, [], ◌∷◌, ◌++◌}
use Rattle.std.proofs.Common.{length, length-append, get_or, Option, Some, refl, sym, ap, ◌∙◌, subst, arith}
use Rattle.std.specs.Prelude.{slice_get}
use Rattle.std.proofs.lemmas.Bool.{eq-eqb, lt-ltb}
use Rattle.rv_isa.specs.declared.instruction.RegOp.TheVariants.{Add}
use Rattle.rv_isa.specs.Results.{reg_result}
use Rattle.words.specs.TwosComplement.{low_bits}
use Rattle.obj_memory.specs.declared.value.Place.{Place}
use Rattle.obj_memory.specs.declared.value.Value.{Value}
use Rattle.obj_memory.specs.Judgement.{narrowed, named, place_in}
use Rattle.obj_memory.specs.Objects.{object_at, pointer_to}
use Rattle.obj_memory.specs.Sound.{IsSoundTag}
use Rattle.obj_memory.proofs.Judging.{sound_narrowed, sound_pointer}
use Rattle.c_tree.specs.declared.expression.Kind.TheVariants.{Structure}
use Rattle.source_meaning.specs.State.{State, Rvalue, Home, NoObject, InObject, Gives, Run, on}
use Rattle.source_meaning.specs.Acting.{state_of}
use Rattle.source_meaning.specs.Actions.{copy_structure, home_value, integer, located, move_bytes, place_or_stop}
use Rattle.source_meaning.specs.Good.{After, Leaves, OnValue}
use Rattle.source_meaning.specs.Keeping.{IsDirect}
use Rattle.source_meaning.specs.Structures.{give, rvalue, write_rvalue}
use Rattle.source_meaning.proofs.Holding.{direct_named}
use Rattle.source_meaning.proofs.SureActions.{sure_copy}
use Rattle.tac_ir.specs.declared.instruction.Instruction.{Instruction}
use Rattle.tac_ir.specs.declared.instruction.Instruction.TheVariants as tac
use Rattle.tac_ir.specs.declared.instruction.Mode.{Mode}
use Rattle.tac_ir.specs.Accesses.{admitted, is_live_at, is_through, moved_from, only_if}
use Rattle.tac_ir.specs.Costs.{cost, fourfold, heavier, spent}
use Rattle.tac_ir.specs.Meaning.{effect, function_in as code_in, given_in, keyed, keys_of}
use Rattle.tac_ir.specs.Stage.{came, Frame, Stage, Stands, Stuck, Temps, with_temp}
use Rattle.tac_ir.proofs.Fits.{only_true}
use Rattle.flat_code.specs.declared.instruction.FlatInstruction.{FlatInstruction}
use Rattle.flat_code.specs.declared.instruction.FlatInstruction.TheVariants.{Call, Operate}
use Rattle.flat_code.specs.declared.instruction.RightOperand.TheVariants.{Number}
use Rattle.flat_code.specs.Calls.{function_in}
use Rattle.flat_code.specs.Meaning.{body_of}
use Rattle.flat_code.specs.Memory.{Bytes, put}
use Rattle.flat_code.specs.State as flat
use Rattle.flat_code.specs.Words.{HasWords}
use Rattle.flat_code.proofs.Stored.{put_other, put_same}
use Rattle.flat_code.specs.Routines.Objects.StandsFor.{Keys}
use Rattle.flat_code.specs.Routines.Routine.{HasAt}
use Rattle.flat_code.proofs.Routines.Objects.Changing.{live_is_made}
use Rattle.flat_code.proofs.Routines.Steps.{has_back, has_front}
use Rattle.flat_actions.specs.Actions.{Nowhere, work_of}
use Rattle.lib_wrappers.proofs.MovingRoutines.Moves.{with_moved}
use Rattle.runtime_functions.specs.declared.runtime.RuntimeFunction.TheVariants.{CopyTagged}
use Rattle.runtime_functions.specs.Actions.{steps_of, work_of_call}
use Rattle.runtime_functions.specs.Copying.{copying, copying_interface}
use Rattle.runtime_functions.proofs.CopyCalls.{copy_served}
use Rattle.metadata_plan.specs.Entries.{has_area}
use Rattle.metadata_plan.specs.Expanded.{Leads}
use Rattle.metadata_plan.specs.Registers.{most_temporaries}
use Rattle.metadata_plan.proofs.Flat.{move_comes, operate_comes}
use Rattle.metadata_relation.specs.Blocks.{move_value, part_address, runtime_number, write_structure_code}
use Rattle.metadata_relation.specs.Structures.{copy_code, copy_place, put_code}
use Rattle.metadata_relation.specs.Holding.{IsHeldAt, IsHome}
use Rattle.metadata_relation.specs.Registers.{first_free, home_register, temporary_register}
use Rattle.metadata_relation.specs.Scopes.{context_at}
use Rattle.metadata_relation.specs.Stages.{Compiled, expansion_of, IsAt, map_of, names, views, world}
use Rattle.metadata_relation.specs.Steps.{IsCompiled, is_settled}
use Rattle.metadata_relation.proofs.Accesses.{found, keyed_opens, live_direct}
use Rattle.metadata_relation.proofs.Acting.{acts_alone, acts_giving, behind_action, HasActed, Reached, reached_by}
use Rattle.metadata_relation.proofs.Acting.{reached_computed, reached_next, reached_then, reached_words}
use Rattle.metadata_relation.proofs.AreaPlaces.{no_area}
use Rattle.metadata_relation.proofs.Assigning.{assigned}
use Rattle.metadata_relation.proofs.Finishing.{acted_as, acted_then, acted_worked, ends_with, move_few, nothing_done}
use Rattle.metadata_relation.proofs.Finishing.{tagged_in, value_moved}
use Rattle.metadata_relation.proofs.Holding.{held_on}
use Rattle.metadata_relation.proofs.Moving.{temporary_apart}
use Rattle.metadata_relation.proofs.Reading.{plain_operand}
use Rattle.metadata_relation.proofs.Registers.{few_in, temporaries_apart, temporary_free}
use Rattle.metadata_relation.proofs.RuntimeCalls.{completes, runtime_call, site}
use Rattle.metadata_relation.proofs.Standing.{good_now, IsNode, node, Result}
use Rattle.metadata_relation.proofs.StoredParts.{home_address, IsPart, no_part, part_code, part_is, sum_is}

-- ---- in the source

-- A structure is moved from one place that is there to another.
pub copied : (s : State) (size line : ℕ) (p q : Value) (to : IsDirect s.objects p size) (from : IsDirect s.objects q size)
    → copy_structure size false p line q s
    ≡ Gives tt (with_moved s size (place_in s.objects to.object p.word) (place_in s.objects from.object q.word))
copied s size line p q to from =
    ap (λ w. on (place_or_stop w line s) (λ d z. on (place_or_stop (named q z.objects) line z)
    (λ r. move_bytes size d r)))
    (direct_named s.objects p size to)
    ∙ ap (λ w. on (place_or_stop w line s) (λ r. move_bytes size (place_in s.objects to.object p.word) r))
    (direct_named s.objects q size from)

module _ (c : Compiled) (IsGood : Bytes → Type 0) (right : IsCompiled c IsGood) (u n : ℕ) (temps : Temps)
    (ws : List Frame) (s : State) (v : flat.State) (xs : List flat.Frame)
    (h : IsAt c IsGood u n temps ws s u (c.layout.address u n) v xs)
    (words : HasWords (flat.Stands u (c.layout.address u n) v xs)) where
  abbrev pc : ℕ
  pc = c.layout.address u n

  abbrev T : (temporary : ℕ) → ℕ
  T i = temporary_register h.code i

  abbrev free : ℕ
  free = first_free h.code

  abbrev E : (next temporary : ℕ) → Bool
  E next i = c.layout.expansion.entries u next i

  abbrev Follows : Stage → Type 0
  Follows a = Result c IsGood a (flat.Stands u (c.layout.address u n) v xs)

  abbrev body : List FlatInstruction
  body = body_of (function_in c.layout.program u)

  -- ---- the call

  -- the state of the source behind the move, and what the instruction makes of it
  abbrev pub moved : (paid size : ℕ) → (to from : Place) → State
  moved w size d q = with_moved (spent w s) size d q

  abbrev pub behind : (paid size : ℕ) → (to from : Place) → State
  behind w size d q = record (moved w size d q) {
    work = (moved w size d q).work + 3 * ((moved w size d q).work - (spent w s).work);
  }

  -- the structure was moved, and the run stands at a place of the block
  pub record IsCopied (paid size : ℕ) (to from : Place) (place most : ℕ) : Type 0 where
    pub keys : Keys
    pub after : flat.State
    pub reached : Reached (map_of c) c.layout.program u (c.layout.address u n) v xs place after most
    pub acted : HasActed c IsGood right u n temps ws s v xs h (behind paid size to from) keys after
    pub others : (r : ℕ) → r < first_free h.code → after.values r ≡ v.values r

  module _ (w size : ℕ) (p q : Value) (to : IsDirect s.objects p size) (from : IsDirect s.objects q size)
      (to_sound : IsSoundTag (views c).functions s.objects p.tag)
      (from_sound : IsSoundTag (views c).functions s.objects q.tag) (small : size < 2 ^ 64) where
    abbrev paid : State
    paid = spent w s

    abbrev d_place : Place
    d_place = place_in s.objects to.object p.word

    abbrev q_place : Place
    q_place = place_in s.objects from.object q.word

    abbrev run : Run Value
    run = copying 1 (p ∷ q ∷ integer size ∷ [])

    run_is : copying 1 (p ∷ q ∷ integer size ∷ []) (spent w s)
        ≡ Gives (integer 0) (moved w size (place_in s.objects to.object p.word) (place_in s.objects from.object q.word))
    run_is = ap (λ o. on o (λ z y. Gives (integer 0) y)) (copied paid size 1 p q to from)

    work_is : work_of (copying 1 (p ∷ q ∷ integer size ∷ [])) (spent w s) ≡ size
    work_is = ap (λ o. (state_of o).work - (spent w s).work) run_is ∙ omega arith

    leaves : Leaves (context_at (names c) u ws) (spent w s)
        (moved w size (place_in s.objects to.object p.word) (place_in s.objects from.object q.word))
    leaves =
        let sc = context_at (names c) u ws in
        (subst (λ o. After sc (spent w s) (λ z o. IsDirect o p size) o) (copied paid size 1 p q to from)
        ((sure_copy OnValue size p 1 q).by paid (good_now (names c) u ws s h.steady.good) (
          (tagged_in c IsGood right u n temps ws s v xs h s.objects q from_sound, from),
          (tagged_in c IsGood right u n temps ws s v xs h s.objects p to_sound, to),
        ))).0

    module _ (place most r : ℕ) (values : flat.Values) (work : ℕ) (low : r < first_free h.code)
        (come : Reached (map_of c) c.layout.program u (c.layout.address u n) v xs place
        (record v { values = values; work = work }) most)
        (same : (r : ℕ) → r < first_free h.code → values r ≡ v.values r)
        (to_is : values (first_free h.code) ≡ p.word) (from_is : values r ≡ q.word)
        (has : HasAt (body_of (function_in c.layout.program u)) place
        (copy_code c.layout.expansion.inline.operators (runtime_number c.layout.expansion.code) r size
        (first_free h.code))) where
      abbrev constants : List FlatInstruction
      constants = c.layout.expansion.inline.operators.constant (free + 2) size (free + 3)

      abbrev call : List FlatInstruction
      call = Call (runtime_number c.layout.expansion.code copy_place) free (free + 3) ∷ []

      abbrev at_call : ℕ
      at_call = place + 1 + length constants

      pub copies : IsCopied w size (place_in s.objects to.object p.word) (place_in s.objects from.object q.word)
          (place + 2 + length (c.layout.expansion.inline.operators.constant (first_free h.code + 2) size
          (first_free h.code + 3))) (most + 85 + 16 * size)
      copies =
          let m = map_of c in
          let o = c.layout.program in
          let v0 : flat.State = record v { values = values; work = work } in
          let first = move_comes m o u place v0 xs (free + 1) r has.0 in
          let between = put values (free + 1) (values r) in
          let v1 : flat.State = record v { values = between; work = work + first.work } in
          let begin = reached_next m o u xs pc place (place + 1) v v0 (record v { values = between; work = work }) most
          2 come
          first in
          let made = right.inline.operators.constant m o
          (record { function = u; place = place + 1; state = v1; frames = xs }) (free + 2) size (free + 3)
          (omega arith) small
          (record {
            has = has_front body (place + 1) constants call has.1;
            words = reached_words m o u xs pc (place + 1) v v1 (most + 2) words begin;
          }) in
          let v2 : flat.State = record v { values = made.after; work = v1.work + made.work } in
          let ready = reached_computed m o u xs pc (place + 1) at_call (free + 2) size (free + 3) v v1 (most + 2) 5
          begin made in
          let begun = acted_as c IsGood right u n temps ws s v xs h (behind_action s paid) h.keys v v2.values v2.work
          (acted_worked c IsGood right u n temps ws s v xs h s h.keys v paid.work
          (nothing_done c IsGood right u n temps ws s v xs h)) in
          let stay = λ (y : ℕ) (lt : y < free). made.others y (omega arith) (λ e. omega arith)
          ∙ put_other values (free + 1) (values r) y (λ e. omega arith) ∙ same y lt in
          let at_to : v2.values (free + 0) ≡ p.word =
          ap v2.values (omega arith) ∙ made.others free (omega arith) (λ e. omega arith)
          ∙ put_other values (free + 1) (values r) free (λ e. omega arith) ∙ to_is in
          let at_from : v2.values (free + 1) ≡ q.word =
          made.others (free + 1) (omega arith) (λ e. omega arith) ∙ put_same values (free + 1) (values r) ∙ from_is in
          let site_is = site c IsGood right u n temps ws s v xs h (runtime_number c.layout.expansion.code copy_place)
          at_call
          free (free + 3) v2 in
          let called = runtime_call c IsGood right u n temps ws s v xs h copy_place CopyTagged refl at_call free
          (free + 3) v2
          (has_back body (place + 1) constants call has.1).0 in
          let served = copy_served m right.mapped c.entry IsGood o site_is called.function called.of called.calls
          (length c.setting.functions) c.layout.expansion.types h.keys paid (p ∷ q ∷ integer size ∷ []) 1
          (record {
            words = reached_words m o u xs pc at_call v v2 (most + 2 + 10) words ready;
            stands = begun.stands.for;
            held = (at_to, (at_from, (made.gives, tt)));
          })
          (record { to = to; from = from }) in
          let d = completes c IsGood h.keys copying_interface site_is 3 0 1 paid run served (integer 0)
          (moved w size d_place q_place) run_is in
          let y = d.state in
          let bound = work_of_call 3 0 copying_interface.price (steps_of copying_interface run paid) in
          let acted = acted_then c IsGood right u n temps ws s v xs h Nowhere (free + 3) paid.work (integer 0) paid
          (moved w size d_place q_place) h.keys v2 y begun d.given leaves h.steady.keys in
          let all = reached_then m o u xs pc at_call (at_call + 1) v v2 y (most + 2 + 10) bound ready d.reached in
          let few = all.few in
          let count = work_is in
          let at : at_call + 1 ≡ place + 2 + length constants = omega arith in
          record {
            keys = d.given.keys;
            after = y;
            reached = subst (λ z. Reached m o u pc v xs z y (most + 85 + 16 * size)) at
                (record { steps = all.steps; comes = all.comes; few = omega (arith, few, count) });
            acted = acted_worked c IsGood right u n temps ws s v xs h (moved w size d_place q_place) d.given.keys y
                (behind w size d_place q_place).work acted;
            others = λ z lt. d.given.others z (omega arith) tt ∙ stay z lt;
          }

  -- ---- assignments

  module _ (size : ℕ) (mode : Mode) (line : ℕ) (key : Option ℕ) (d a b next : ℕ) (settled : is_settled mode ≡ true)
      (small : size < 2 ^ 64)
      (at : slice_get h.code.code n ≡ Some (tac.Write (Structure size) mode line key d a b next))
      (none : has_area c.layout.expansion.code h.code b ≡ false) where
    abbrev label : Instruction
    label = tac.Write (Structure size) mode line key d a b next

    nd : IsNode c u n h.code (tac.Write (Structure size) mode line key d a b next)
    nd = node c IsGood right u n temps ws s v xs h (tac.Write (Structure size) mode line key d a b next) at

    low : d < most_temporaries h.code.code
    low = omega (arith, nd.temporaries_low)

    to_low : a < most_temporaries h.code.code
    to_low = omega (arith, nd.temporaries_low)

    from_low : b < most_temporaries h.code.code
    from_low = omega (arith, nd.temporaries_low)

    module _ (p q : Value)
        (held : IsHeldAt (world c h.keys s v) (c.layout.expansion.entries u n a) p (temporary_register h.code a)
        v.values)
        (taken : IsHeldAt (world c h.keys s v) (c.layout.expansion.entries u n b) q (temporary_register h.code b)
        v.values)
      where
        writes : (to : IsDirect s.objects p size) (from : IsDirect s.objects q size)
            → Follows (Stands u next (with_temp temps d (rvalue p)) ws
            (behind (cost (tac.Write (Structure size) mode line key d a b next)) size
            (place_in s.objects to.object p.word) (place_in s.objects from.object q.word)))
        writes to from =
            let m = map_of c in
            let o = c.layout.program in
            let room = temporary_free h.code b from_low in
            let room_to = temporary_free h.code a to_low in
            let room_into = temporary_free h.code d low in
            let copy = copy_code c.layout.expansion.inline.operators (runtime_number c.layout.expansion.code) (T b)
            size free in
            let constants = c.layout.expansion.inline.operators.constant (free + 2) size (free + 3) in
            let rest = move_value (E next d) (T d) (T a) in
            let has = subst (λ q. HasAt body pc (write_structure_code c.layout.expansion.inline.operators
            c.layout.expansion.code q (E next d) size (T d) (T a) (T b) free)) none nd.put.has in
            let on = subst (λ q. Leads body (pc + length (write_structure_code c.layout.expansion.inline.operators
            c.layout.expansion.code q (E next d) size (T d) (T a) (T b) free)) (c.layout.address u next)) none
            nd.put.leads in
            let first = move_comes m o u pc v xs free (T a) has.0 in
            let values = put v.values free (v.values (T a)) in
            let same = λ (r : ℕ) (lt : r < free). put_other v.values free (v.values (T a)) r (λ e. omega arith) in
            let k = copies (cost label) size p q to from held.sound taken.sound small (pc + 1) 2 (T b) values
            (v.work + first.work)
            (omega arith) (reached_by m o u xs pc (pc + 1) v (record v { values = values }) 2 first) same
            (put_same v.values free (v.values (T a)) ∙ held.word) (same (T b) (omega arith) ∙ taken.word)
            (has_front body (pc + 1) copy rest has.1) in
            let y = k.after in
            let z = behind (cost label) size (place_in s.objects to.object p.word)
            (place_in s.objects from.object q.word) in
            let still = held_on (views c) h.keys k.keys s.objects z.objects v.memory y.memory k.acted.goes (E n a) p
            (T a)
            v.values y.values (λ j lt. k.others (T a + j) (let few = few_in (E n a) in omega arith)) held in
            let placed = value_moved (world c k.keys z y) (E next d) (E n a) p (T d) (T a) y.values still
            (λ e. nd.closed.made n next d a label at (inl refl) refl refl e)
            (temporary_apart d a (T d) (T a) (λ ne. temporaries_apart h.code d a ne)
            (λ e. ap (λ z. temporary_register h.code z) e)) in
            let counted = length-append constants
            (Call (runtime_number c.layout.expansion.code copy_place) free (free + 3) ∷ []) in
            let there : pc + 1 + length copy ≡ pc + 1 + 2 + length constants = omega (arith, counted) in
            let long = length-append copy rest in
            let end : pc + suc (length (copy ++ rest)) ≡ pc + 1 + 2 + length constants + length rest = omega
            (arith, there, long) in
            let e = ends_with c IsGood right u n temps ws s v xs h (pc + 1 + 2 + length constants) (2 + 85 + 16 * size)
            5 next y
            rest k.reached (move_few (E next d) (T d) (T a))
            (subst (λ z. HasAt body z rest) there (has_back body (pc + 1) copy rest has.1))
            (subst (λ z. Leads body z (c.layout.address u next)) end on) in
            acts_giving c IsGood right u n temps ws s v xs h label nd d next p z k.keys
            (record y { values = assigned rest y.values; work = e.0 }) (2 + 85 + 16 * size + 2 * 5 + 2) refl (inl refl)
            low e.1
            (acted_as c IsGood right u n temps ws s v xs h z k.keys y (assigned rest y.values) e.0 k.acted)
            (λ r lt out. placed.others r out ∙ k.others r lt) placed.held (omega arith)

    -- the step

    abbrev write_paid : State
    write_paid = spent (cost (tac.Write (Structure size) mode line key d a b next)) s

    abbrev Behind : Rvalue → Rvalue → Stage
    Behind q w = came (heavier (write_rvalue (Structure size) (is_through mode) q.value line w) write_paid)
        (given_in u next temps d ws)

    abbrev Effect : Rvalue → Rvalue → Stage
    Effect q w = keyed (keys_of (code_in c.layout.expansion.code u)) key write_paid q.value
        (admitted mode size q s.objects (moved_from (Structure size) w s.objects (Behind q w)))

    place_written : (p q : Value)
        → IsHeldAt (world c h.keys s v) (c.layout.expansion.entries u n a) p (temporary_register h.code a) v.values
        → IsHeldAt (world c h.keys s v) (c.layout.expansion.entries u n b) q (temporary_register h.code b) v.values
        → (Effect (rvalue p) (rvalue q) ≡ Stuck → ⊥) → Follows (Effect (rvalue p) (rvalue q))
    place_written p q held taken fine =
        let keys = keys_of (code_in c.layout.expansion.code u) in
        let moving = moved_from (Structure size) (rvalue q) s.objects (Behind (rvalue p) (rvalue q)) in
        let opened = keyed_opens keys key write_paid p (admitted mode size (rvalue p) s.objects moving) fine in
        let f = found mode settled (views c).functions size p s.objects moving held.sound
        (λ stuck. fine (opened ∙ stuck)) in
        let t = only_true (is_live_at size q s.objects) (Behind (rvalue p) (rvalue q))
        (λ stuck. fine (opened ∙ f.opens ∙ stuck)) in
        let from = live_direct s.objects q size q.tag refl t.0 in
        let write_is = ap (λ o. fourfold write_paid.work
        (on (on o (λ d. (λ z. on (located false size q line z) (λ r. move_bytes size d r)))) (λ z. give p)))
        (f.same line write_paid refl)
        ∙ ap (λ o. fourfold write_paid.work (on o (λ z. give p))) (copied write_paid size line p q f.direct from) in
        subst Follows (sym (opened ∙ f.opens ∙ t.1 ∙ ap (λ o. came o (given_in u next temps d ws)) write_is))
        (writes p q held taken f.direct from)

    pub write_structure : (effect c.setting (expansion_of c).code label u temps ws write_paid ≡ Stuck → ⊥)
        → Follows (effect c.setting (expansion_of c).code label u temps ws write_paid)
    write_structure fine =
        let to = plain_operand c IsGood right u n temps ws s v xs h words.0 a to_low
        (nd.kept.words n a label nd.at (eq-eqb a a refl)) in
        let from = plain_operand c IsGood right u n temps ws s v xs h words.0 b from_low
        (nd.kept.areas n b (no_area c.layout.expansion.code h.code b none)) in
        subst (λ q. (Effect q (temps b) ≡ Stuck → ⊥) → Follows (Effect q (temps b))) (sym to.0)
        (subst (λ w. (Effect (rvalue (temps a).value) w ≡ Stuck → ⊥) → Follows (Effect (rvalue (temps a).value) w))
        (sym from.0) (place_written (temps a).value (temps b).value to.1 from.1)) fine

  -- ---- parts of initializers

  module _ (size line x offset a next : ℕ) (short_offset : offset < 2 ^ 64) (small : size < 2 ^ 64)
      (at : slice_get h.code.code n ≡ Some (tac.StorePart (Structure size) line x offset a next))
      (none : has_area c.layout.expansion.code h.code a ≡ false) where
    abbrev part_label : Instruction
    part_label = tac.StorePart (Structure size) line x offset a next

    part_node : IsNode c u n h.code (tac.StorePart (Structure size) line x offset a next)
    part_node = node c IsGood right u n temps ws s v xs h (tac.StorePart (Structure size) line x offset a next) at

    part_low : a < most_temporaries h.code.code
    part_low = part_node.temporaries_low

    abbrev H : ℕ
    H = home_register h.code x

    module _ (q : Value)
        (taken : IsHeldAt (world c h.keys s v) (c.layout.expansion.entries u n a) q (temporary_register h.code a)
        v.values)
        (from : IsDirect s.objects q size) (o : ℕ) (home : get_or s.frame x NoObject ≡ InObject o)
        (part : IsPart offset size o s.objects) where
      abbrev p : Value
      p = narrowed offset size (pointer_to o s.objects)

      home_is : IsHome (world c h.keys s v) o (home_register h.code x) v.values
      home_is = h.holds.homes.homes x o home

      object_low : (object_at s.objects o).address + (object_at s.objects o).size ≤ 1610612736
      object_low = (good_now (names c) u ws s h.steady.good).low o

      part_sound : IsSoundTag (views c).functions s.objects (narrowed offset size (pointer_to o s.objects)).tag
      part_sound =
          let low = object_low in
          sound_narrowed (views c).functions s.objects offset size (pointer_to o s.objects)
          (sound_pointer (views c).functions o s.objects (live_is_made s.objects o part.live) (omega arith))

      stores : HasAt body pc (Operate Add free H (Number offset)
          ∷ copy_code c.layout.expansion.inline.operators (runtime_number c.layout.expansion.code) (T a) size free)
          → Leads body (pc + suc (length (copy_code c.layout.expansion.inline.operators
          (runtime_number c.layout.expansion.code) (T a) size
          free))) (c.layout.address u next)
          → Follows (Stands u next temps ws (behind 6 size
          (place_in s.objects part.direct.object (narrowed offset size (pointer_to o s.objects)).word)
          (place_in s.objects from.object q.word)))
      stores has on =
          let m = map_of c in
          let f = c.layout.program in
          let room = temporary_free h.code a part_low in
          let low = object_low in
          let inside = part.inside in
          let copy = copy_code c.layout.expansion.inline.operators (runtime_number c.layout.expansion.code) (T a) size
          free in
          let constants = c.layout.expansion.inline.operators.constant (free + 2) size (free + 3) in
          let sum = reg_result Add (v.values H) (low_bits 64 offset) in
          let first = operate_comes m f u pc v xs Add free H (Number offset) has.0 in
          let values = put v.values free sum in
          let same = λ (r : ℕ) (lt : r < free). put_other v.values free sum r (λ e. omega arith) in
          let there : values free ≡ p.word =
          put_same v.values free sum
          ∙ ap (λ z. reg_result Add z (low_bits 64 offset)) (home_address (world c h.keys s v) o H v.values home_is)
          ∙ sum_is (object_at s.objects o).address offset (omega arith) ∙ sym part.word in
          let k = copies 6 size p q part.direct from part_sound taken.sound small (pc + 1) 2 (T a) values
          (v.work + first.work) (omega arith)
          (reached_by m f u xs pc (pc + 1) v (record v { values = values }) 2 first) same there
          (same (T a) (omega arith) ∙ taken.word) has.1 in
          let y = k.after in
          let z = behind 6 size (place_in s.objects part.direct.object p.word) (place_in s.objects from.object q.word)
          in
          let counted = length-append constants
          (Call (runtime_number c.layout.expansion.code copy_place) free (free + 3) ∷ []) in
          let end : pc + suc (length copy) ≡ pc + 1 + 2 + length constants + 0 = omega (arith, counted) in
          let e = ends_with c IsGood right u n temps ws s v xs h (pc + 1 + 2 + length constants) (2 + 85 + 16 * size) 0
          next y
          [] k.reached (record { assign = refl; few = omega arith }) tt
          (subst (λ z. Leads body z (c.layout.address u next)) end on) in
          acts_alone c IsGood right u n temps ws s v xs h part_label part_node next z k.keys
          (record y { values = y.values; work = e.0 }) (2 + 85 + 16 * size + 2 * 0 + 2) refl (inl refl) e.1
          (acted_as c IsGood right u n temps ws s v xs h z k.keys y y.values e.0 k.acted)
          (λ r lt. k.others r lt) (omega arith)

      part_stored : Follows (Stands u next temps ws (behind 6 size
          (place_in s.objects part.direct.object (narrowed offset size (pointer_to o s.objects)).word)
          (place_in s.objects from.object q.word)))
      part_stored =
          let low = object_low in
          let inside = part.inside in
          let short = lt-ltb offset (2 ^ 31 - 2 ^ 11) (omega arith) in
          let copy = copy_code c.layout.expansion.inline.operators (runtime_number c.layout.expansion.code) (T a) size
          free in
          let list = part_code c.layout.expansion.inline.operators H offset free short in
          let address = part_address c.layout.expansion.inline.operators h.code x offset free in
          let has = subst (λ q. HasAt body pc (address ++ put_code c.layout.expansion.inline.operators
          (runtime_number c.layout.expansion.code) q (T a) size free)) none part_node.put.has in
          let on = subst (λ q. Leads body (pc + length (address ++ put_code c.layout.expansion.inline.operators
          (runtime_number c.layout.expansion.code) q (T a) size free)) (c.layout.address u next)) none
          part_node.put.leads in
          stores (subst (λ z. HasAt body pc (z ++ copy)) list has)
          (subst (λ z. Leads body (pc + length (z ++ copy)) (c.layout.address u next)) list on)

    -- the step

    abbrev part_paid : State
    part_paid = spent 6 s

    abbrev PartBehind : Home → Rvalue → Stage
    PartBehind m w = came (heavier (write_rvalue (Structure size) false
        (narrowed offset size (home_value m s.objects)) line w) part_paid) (λ _ z. Stands u next temps ws z)

    abbrev PartEffect : Home → Rvalue → Stage
    PartEffect m w = only_if (is_live_at size (narrowed offset size (home_value m s.objects)) s.objects)
        (moved_from (Structure size) w s.objects (PartBehind m w))

    by_home : (q : Value)
        → IsHeldAt (world c h.keys s v) (c.layout.expansion.entries u n a) q (temporary_register h.code a) v.values
        → (m : Home) → get_or s.frame x NoObject ≡ m → (PartEffect m (rvalue q) ≡ Stuck → ⊥)
        → Follows (PartEffect m (rvalue q))
    by_home q taken NoObject home fine =
        absurd (no_part offset size s.objects (only_true
        (is_live_at size (narrowed offset size (integer 0)) s.objects)
        (moved_from (Structure size) (rvalue q) s.objects (PartBehind NoObject (rvalue q))) fine).0)
    by_home q taken (InObject o) home fine =
        let p = narrowed offset size (pointer_to o s.objects) in
        let moving = moved_from (Structure size) (rvalue q) s.objects (PartBehind (InObject o) (rvalue q)) in
        let t = only_true (is_live_at size p s.objects) moving fine in
        let part = part_is offset size o s.objects short_offset
        ((good_now (names c) u ws s h.steady.good).low o) t.0 in
        let i = only_true (is_live_at size q s.objects) (PartBehind (InObject o) (rvalue q))
        (λ stuck. fine (t.1 ∙ stuck)) in
        let from = live_direct s.objects q size q.tag refl i.0 in
        let write_is = ap (λ r. fourfold part_paid.work (on r (λ z. give p)))
        (copied part_paid size line p q part.direct from) in
        subst Follows (sym (t.1 ∙ i.1 ∙ ap (λ r. came r (λ _ z. Stands u next temps ws z)) write_is))
        (part_stored q taken from o home part)

    pub store_structure : (effect c.setting (expansion_of c).code part_label u temps ws part_paid ≡ Stuck → ⊥)
        → Follows (effect c.setting (expansion_of c).code part_label u temps ws part_paid)
    store_structure fine =
        let from = plain_operand c IsGood right u n temps ws s v xs h words.0 a part_low
        (part_node.kept.areas n a (no_area c.layout.expansion.code h.code a none)) in
        subst (λ w. (PartEffect (get_or s.frame x NoObject) w ≡ Stuck → ⊥)
        → Follows (PartEffect (get_or s.frame x NoObject) w))
        (sym from.0) (by_home (temps a).value from.1 (get_or s.frame x NoObject) refl) fine
