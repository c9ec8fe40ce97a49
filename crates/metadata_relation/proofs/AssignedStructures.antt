-- Structures that are assigned from their places or from contents (C99 6.5.16.1): which of them a value is, its lock word
-- tells.
use Rattle.std.proofs.Common.{◌≡◌, ◌≢◌, inl, ℕ, suc, ◌+◌, ◌-◌, ◌*◌, ◌^◌, ◌<◌, ◌≤◌, Bool, true, false, List, [], ◌∷◌}
use Rattle.std.proofs.Common.{◌++◌}
use Rattle.std.proofs.Common.{get_or, length, length-append, Option, Some, None, refl, sym, ap, ◌∙◌, subst, arith}
use Rattle.std.specs.Prelude.{slice_get, ◌&&◌, not}
use Rattle.std.proofs.lemmas.Bool.{eq-eqb, leb-true, lt-ltb, ne_eqb}
use Rattle.rv_isa.specs.declared.instruction.BranchOp.TheVariants.{Bne}
use Rattle.rv_isa.specs.declared.instruction.RegOp.TheVariants.{Add}
use Rattle.rv_isa.specs.Results.{reg_result}
use Rattle.words.specs.TwosComplement.{low_bits}
use Rattle.obj_memory.specs.declared.value.Value.{Value}
use Rattle.obj_memory.specs.Judgement.{narrowed, place_in}
use Rattle.obj_memory.specs.Objects.{object_at, ObjectState, pointer_to}
use Rattle.obj_memory.specs.Sound.{IsSoundTag}
use Rattle.obj_memory.proofs.Judging.{sound_narrowed, sound_pointer}
use Rattle.c_tree.specs.declared.expression.Kind.TheVariants.{Structure}
use Rattle.source_meaning.specs.State.{Gives, Home, InObject, NoObject, on, Rvalue, State}
use Rattle.source_meaning.specs.Actions.{home_value, integer, located, move_bytes}
use Rattle.source_meaning.specs.Keeping.{IsDirect}
use Rattle.source_meaning.specs.Structures.{copy_value, give, put_contents, rvalue, write_rvalue}
use Rattle.tac_ir.specs.declared.instruction.Instruction.{Instruction}
use Rattle.tac_ir.specs.declared.instruction.Instruction.TheVariants as tac
use Rattle.tac_ir.specs.declared.instruction.Mode.{Mode}
use Rattle.tac_ir.specs.Accesses.{admitted, is_live_at, is_there, is_through, moved_from, only_if}
use Rattle.tac_ir.specs.Costs.{cost, fourfold, heavier, spent}
use Rattle.tac_ir.specs.Meaning.{effect, function_in as code_in, given_in, keyed, keys_of}
use Rattle.tac_ir.specs.Stage.{came, Frame, Stage, Stands, Stuck, Temps, with_temp}
use Rattle.tac_ir.specs.Structures.{greatest_structure}
use Rattle.tac_ir.proofs.Fits.{only_true}
use Rattle.flat_code.specs.declared.instruction.FlatInstruction.{FlatInstruction}
use Rattle.flat_code.specs.declared.instruction.FlatInstruction.TheVariants.{Call, JumpForward, Move, Operate}
use Rattle.flat_code.specs.declared.instruction.RightOperand.TheVariants.{Number}
use Rattle.flat_code.specs.Calls.{function_in}
use Rattle.flat_code.specs.Meaning.{body_of}
use Rattle.flat_code.specs.Memory.{Bytes, put}
use Rattle.flat_code.specs.State as flat
use Rattle.flat_code.specs.Words.{HasWords}
use Rattle.flat_code.proofs.Stored.{put_other, put_same}
use Rattle.flat_code.specs.Routines.Objects.StandsFor.{Keys, spell}
use Rattle.flat_code.specs.Routines.Routine.{HasAt}
use Rattle.flat_code.proofs.Routines.Objects.Changing.{live_is_made}
use Rattle.flat_code.proofs.Routines.Steps.{has_back, has_front}
use Rattle.runtime_functions.specs.Library.{held_from}
use Rattle.metadata_plan.specs.Entries.{has_area}
use Rattle.metadata_plan.specs.Expanded.{Forward, Leads}
use Rattle.metadata_plan.specs.Registers.{most_temporaries}
use Rattle.metadata_plan.proofs.Flat.{branch_passed_comes, branch_taken_comes, move_comes, operate_comes}
use Rattle.metadata_relation.specs.Blocks.{move_value, part_address, runtime_number, write_structure_code}
use Rattle.metadata_relation.specs.Holding.{area_of, IsHeldAt, IsHome, IsRvalueAt}
use Rattle.metadata_relation.specs.Registers.{first_free, home_register, temporary_register}
use Rattle.metadata_relation.specs.Stages.{Compiled, expansion_of, IsAt, map_of, names, views, world}
use Rattle.metadata_relation.specs.Steps.{IsCompiled, is_settled}
use Rattle.metadata_relation.specs.Structures.{assign_code, copy_code, copy_place, part_call_code, put_area_place}
use Rattle.metadata_relation.specs.Structures.{put_code}
use Rattle.metadata_relation.proofs.Accesses.{found, keyed_opens, live_direct}
use Rattle.metadata_relation.proofs.Acting.{acts_alone, acts_giving, behind_action, HasActed, Reached, reached_by}
use Rattle.metadata_relation.proofs.Acting.{reached_next}
use Rattle.metadata_relation.proofs.Acting.{reached_on}
use Rattle.metadata_relation.proofs.AssignedContents.{behind_put, copy_is, put_there, puts}
use Rattle.metadata_relation.proofs.Assigning.{assigned}
use Rattle.metadata_relation.proofs.CalleeTests.{differs}
use Rattle.metadata_relation.proofs.CopiedStructures.{copied, copies, moved}
use Rattle.metadata_relation.proofs.Finishing.{acted_as, ends_with, move_few, value_moved}
use Rattle.metadata_relation.proofs.Holding.{held_on}
use Rattle.metadata_relation.proofs.Moving.{temporary_apart}
use Rattle.metadata_relation.proofs.Reading.{plain_operand}
use Rattle.metadata_relation.proofs.Registers.{few_in, temporaries_apart, temporary_free}
use Rattle.metadata_relation.proofs.Standing.{good_now, IsNode, node, Result}
use Rattle.metadata_relation.proofs.StoredParts.{home_address, IsPart, no_part, part_code, part_is, sum_is}
use Rattle.metadata_relation.proofs.TakenStructures.{locks_high}

-- a judged place that is found is the one that is named, whatever is assigned there
judged_same : (o : Option ObjectState) (size line : ℕ) (j : Bool) (p q : Value) (s : State)
    → located j size p line s ≡ located false size p line s
    → copy_value o size j p line q s ≡ copy_value o size false p line q s
judged_same None size line j p q s e =
    ap (λ l. on l (λ d z. on (located false size q line z) (λ r. move_bytes size d r))) e
judged_same (Some from) size line j p q s e = ap (λ l. on l (λ d. put_contents size d q.word from)) e

module _ (c : Compiled) (IsGood : Bytes → Type 0) (right : IsCompiled c IsGood) (u n : ℕ) (temps : Temps)
    (ws : List Frame) (s : State) (v : flat.State) (xs : List flat.Frame)
    (h : IsAt c IsGood u n temps ws s u (c.layout.address u n) v xs)
    (words : HasWords (flat.Stands u (c.layout.address u n) v xs)) where
  abbrev pc : ℕ
  pc = c.layout.address u n

  abbrev T : (temporary : ℕ) → ℕ
  T i = temporary_register h.code i

  abbrev free : ℕ
  free = first_free h.code

  abbrev E : (next temporary : ℕ) → Bool
  E next i = c.layout.expansion.entries u next i

  abbrev Follows : Stage → Type 0
  Follows a = Result c IsGood a (flat.Stands u (c.layout.address u n) v xs)

  abbrev body : List FlatInstruction
  body = body_of (function_in c.layout.program u)

  abbrev number : ℕ → ℕ
  number = runtime_number c.layout.expansion.code

  -- the state that an instruction makes of that behind the assignment
  abbrev counted : (paid : ℕ) → State → State
  counted w z = record z { work = z.work + 3 * (z.work - (spent w s).work) }

  -- a structure was assigned, and the run stands at a place of the block
  pub record IsAssigned (paid size line : ℕ) (p q : Value) (o : Option ObjectState) (place most : ℕ) : Type 0 where
    pub source : State
    pub run_is : copy_value o size false p line q (spent paid s) ≡ Gives tt source
    pub work : source.work ≡ (spent paid s).work + size
    pub rest : behind_action s (record source { work = source.work + 3 * (source.work - (spent paid s).work) })
        ≡ record source { work = source.work + 3 * (source.work - (spent paid s).work) }
    pub keys : Keys
    pub after : flat.State
    pub reached : Reached (map_of c) c.layout.program u (c.layout.address u n) v xs place after most
    pub acted : HasActed c IsGood right u n temps ws s v xs h
        (behind_action s (record source { work = source.work + 3 * (source.work - (spent paid s).work) })) keys after
    pub others : (r : ℕ) → r < first_free h.code → after.values r ≡ v.values r

  module _ (w size line i place most : ℕ) (p q : Value) (low : i < most_temporaries h.code.code) (small : size < 2 ^ 64)
      (entry_is : c.layout.expansion.entries u n i ≡ true) (to : IsDirect s.objects p size)
      (to_sound : IsSoundTag (views c).functions s.objects p.tag) (values : flat.Values) (work : ℕ)
      (come : Reached (map_of c) c.layout.program u (c.layout.address u n) v xs place
      (record v { values = values; work = work }) most)
      (same : (r : ℕ) → r < first_free h.code → values r ≡ v.values r)
      (to_is : values (first_free h.code) ≡ p.word)
      (has : HasAt (body_of (function_in c.layout.program u)) place
      (assign_code c.layout.expansion.inline.operators (runtime_number c.layout.expansion.code) size
      (temporary_register h.code i) (first_free h.code))) where
    abbrev part_list : List FlatInstruction
    part_list = part_call_code c.layout.expansion.inline.operators
        (runtime_number c.layout.expansion.code put_area_place) size (temporary_register h.code i) (first_free h.code)

    abbrev copy_list : List FlatInstruction
    copy_list = copy_code c.layout.expansion.inline.operators (runtime_number c.layout.expansion.code)
        (temporary_register h.code i) size (first_free h.code)

    abbrev behind_list : List FlatInstruction
    behind_list = JumpForward (length copy_list) ∷ copy_list

    abbrev at_copy : ℕ
    at_copy = place + 1 + length part_list + 1

    abbrev end : ℕ
    end = place + length (assign_code c.layout.expansion.inline.operators (runtime_number c.layout.expansion.code) size
        (temporary_register h.code i) (first_free h.code))

    has_jump : HasAt (body_of (function_in c.layout.program u)) (place + 1 + length part_list) behind_list
    has_jump = has_back body (place + 1) part_list behind_list has.1

    end_is : at_copy + length copy_list ≡ end
    end_is = let long = length-append part_list behind_list in omega (arith, long)

    -- from its place
    from_place : (held : IsHeldAt (world c h.keys s v) (c.layout.expansion.entries u n i) q
        (temporary_register h.code i)
        v.values) → IsDirect s.objects q size → IsAssigned w size line p q None end (most + 105 + 16 * size)
    from_place held from =
        let m = map_of c in
        let f = c.layout.program in
        let room = temporary_free h.code i low in
        let v0 : flat.State = record v { values = values; work = work } in
        let lock = same (held_from (T i)).tag.lock (omega arith)
        ∙ ap (λ z. z.lock) (held.entry entry_is).tag ∙ ap (λ t. (spell (views c) h.keys t).lock) from.tag in
        let some : values (held_from (T i)).tag.lock ≢ 0 = λ e.
        (let first = (h.stands.for.objects.keyed.each from.object from.made).lock.first in
        let high = locks_high (map_of c) in absurd (omega (arith, lock))) in
        let jump = branch_taken_comes m f u place v0 xs Bne (held_from (T i)).tag.lock (Number 0) (length part_list + 1)
        has.0
        (differs (values (held_from (T i)).tag.lock) 0 true (ap not (ne_eqb (values (held_from (T i)).tag.lock) 0
        some))) in
        let there : place + 1 + (length part_list + 1) ≡ at_copy = omega arith in
        let one = reached_next m f u xs pc place (place + 1 + (length part_list + 1)) v v0 v0 most 2 come jump in
        let k = copies c IsGood right u n temps ws s v xs h words w size p q to from to_sound held.sound small at_copy
        (most + 2) (T i) values (work + jump.work) (omega arith)
        (subst (λ r. Reached m f u pc v xs r (record v { values = values; work = work + jump.work }) (most + 2)) there
        one)
        same to_is (same (T i) (omega arith) ∙ held.word) has_jump.1 in
        let constants = c.layout.expansion.inline.operators.constant (free + 2) size (free + 3) in
        let long = length-append constants (Call (number copy_place) free (free + 3) ∷ []) in
        let last = end_is in
        let stop : at_copy + 2 + length constants ≡ end = omega (arith, long, last) in
        let few = k.reached.few in
        record {
          source = moved c IsGood right u n temps ws s v xs h words w size (place_in s.objects to.object p.word)
              (place_in s.objects from.object q.word);
          run_is = copied (spent w s) size line p q to from;
          work = refl;
          rest = refl;
          keys = k.keys;
          after = k.after;
          reached = subst (λ r. Reached m f u pc v xs r k.after (most + 105 + 16 * size)) stop
              (record { steps = k.reached.steps; comes = k.reached.comes; few = omega arith });
          acted = k.acted;
          others = k.others;
        }

    -- from contents
    from_contents : (from : ObjectState) → IsRvalueAt (world c h.keys s v) (c.layout.expansion.entries u n i) q
        (Some from)
        (greatest_structure c.layout.expansion.code h.code.code i)
        (area_of (map_of c) c.layout.expansion.code h.code s.charged i) (temporary_register h.code i) v.values
        → q.word + size ≤ from.size → IsAssigned w size line p q (Some from) end (most + 105 + 16 * size)
    from_contents from held inside =
        let m = map_of c in
        let f = c.layout.program in
        let room = temporary_free h.code i low in
        let G = greatest_structure c.layout.expansion.code h.code.code i in
        let A = area_of m c.layout.expansion.code h.code s.charged i in
        let v0 : flat.State = record v { values = values; work = work } in
        let part = held.entry entry_is in
        let none = same (held_from (T i)).tag.lock (omega arith) ∙ part.no_lock in
        let pass = branch_passed_comes m f u place v0 xs Bne (held_from (T i)).tag.lock (Number 0)
        (length part_list + 1)
        has.0
        (differs (values (held_from (T i)).tag.lock) 0 false
        (ap not (eq-eqb (values (held_from (T i)).tag.lock) 0 none))) in
        let one = reached_next m f u xs pc place (place + 1) v v0 v0 most 2 come pass in
        let k = puts c IsGood right u n temps ws s v xs h words w size p q from i G A low to to_sound
        (record {
          word = held.word;
          entry = λ e. part;
          place = held.place;
          small = held.small;
          area_is = held.area_is;
          sound = held.sound;
          tagged = held.tagged;
        }) inside small (place + 1) (most + 2) values (work + pass.work) one same to_is
        (has_front body (place + 1) part_list behind_list has.1) in
        let last = end_is in
        let jump = reached_on m f u xs pc (place + 1 + length part_list) end v k.after (most + 2 + 101 + 16 * size)
        k.reached
        (Forward (length copy_list) has_jump.0 last) in
        let few = jump.1.few in
        record {
          source = put_there c IsGood right u n temps ws s v xs h words w size (place_in s.objects to.object p.word)
              q.word
              from;
          run_is = copy_is c IsGood right u n temps ws s v xs h words w size p q from i G A low to to_sound
              (record {
                word = held.word;
                entry = λ e. part;
                place = held.place;
                small = held.small;
                area_is = held.area_is;
                sound = held.sound;
                tagged = held.tagged;
              }) inside small line;
          work = refl;
          rest = refl;
          keys = k.keys;
          after = record k.after { work = jump.0 };
          reached = record { steps = jump.1.steps; comes = jump.1.comes; few = omega arith };
          acted = acted_as c IsGood right u n temps ws s v xs h
              (behind_put c IsGood right u n temps ws s v xs h words w size (place_in s.objects to.object p.word)
              q.word from)
              k.keys k.after k.after.values jump.0 k.acted;
          others = k.others;
        }

    pub assigns_structure : (o : Option ObjectState)
        → IsRvalueAt (world c h.keys s v) (c.layout.expansion.entries u n i) q o
        (greatest_structure c.layout.expansion.code h.code.code i)
        (area_of (map_of c) c.layout.expansion.code h.code s.charged i) (temporary_register h.code i) v.values
        → is_there o size q s.objects ≡ true → IsAssigned w size line p q o (place + length
        (assign_code c.layout.expansion.inline.operators (runtime_number c.layout.expansion.code) size
        (temporary_register h.code i) (first_free h.code))) (most + 105 + 16 * size)
    assigns_structure None held there = from_place held (live_direct s.objects q size q.tag refl there)
    assigns_structure (Some from) held there = from_contents from held (leb-true (q.word + size) from.size there)

  -- ---- assignments

  module _ (size : ℕ) (mode : Mode) (line : ℕ) (key : Option ℕ) (d a b next : ℕ) (settled : is_settled mode ≡ true)
      (small : size < 2 ^ 64)
      (at : slice_get h.code.code n ≡ Some (tac.Write (Structure size) mode line key d a b next))
      (area : has_area c.layout.expansion.code h.code b ≡ true) where
    abbrev label : Instruction
    label = tac.Write (Structure size) mode line key d a b next

    nd : IsNode c u n h.code (tac.Write (Structure size) mode line key d a b next)
    nd = node c IsGood right u n temps ws s v xs h (tac.Write (Structure size) mode line key d a b next) at

    low : d < most_temporaries h.code.code
    low = omega (arith, nd.temporaries_low)

    to_low : a < most_temporaries h.code.code
    to_low = omega (arith, nd.temporaries_low)

    from_low : b < most_temporaries h.code.code
    from_low = omega (arith, nd.temporaries_low)

    -- the value that is assigned has an entry
    entry_is : c.layout.expansion.entries u n b ≡ true
    entry_is = nd.closed.read n b label nd.at (ap (λ z. z && true) (eq-eqb b b refl))

    abbrev paid : State
    paid = spent (cost (tac.Write (Structure size) mode line key d a b next)) s

    abbrev Behind : Rvalue → Rvalue → Stage
    Behind q w = came (heavier (write_rvalue (Structure size) (is_through mode) q.value line w) paid)
        (given_in u next temps d ws)

    abbrev Effect : Rvalue → Rvalue → Stage
    Effect q w = keyed (keys_of (code_in c.layout.expansion.code u)) key paid q.value
        (admitted mode size q s.objects (moved_from (Structure size) w s.objects (Behind q w)))

    abbrev assign_list : List FlatInstruction
    assign_list = assign_code c.layout.expansion.inline.operators (runtime_number c.layout.expansion.code) size
        (temporary_register h.code b) (first_free h.code)

    abbrev rest_list : List FlatInstruction
    rest_list = move_value (c.layout.expansion.entries u next d) (temporary_register h.code d)
        (temporary_register h.code a)

    module _ (has : HasAt (body_of (function_in c.layout.program u)) (c.layout.address u n)
        (Move (first_free h.code) (temporary_register h.code a) ∷ (assign_list ++ rest_list)))
        (leads : Leads (body_of (function_in c.layout.program u))
        (c.layout.address u n + suc (length (assign_list ++ rest_list))) (c.layout.address u next)) where
      place_assigned : (p q : Value) (o : Option ObjectState)
          → IsHeldAt (world c h.keys s v) (c.layout.expansion.entries u n a) p (temporary_register h.code a) v.values
          → IsRvalueAt (world c h.keys s v) (c.layout.expansion.entries u n b) q o
          (greatest_structure c.layout.expansion.code h.code.code b)
          (area_of (map_of c) c.layout.expansion.code h.code s.charged b) (temporary_register h.code b) v.values
          → (Effect (rvalue p) (record { value = q; contents = o }) ≡ Stuck → ⊥)
          → Follows (Effect (rvalue p) (record { value = q; contents = o }))
      place_assigned p q o held taken fine =
          let m = map_of c in
          let g = c.layout.program in
          let keys = keys_of (code_in c.layout.expansion.code u) in
          let w : Rvalue = record { value = q; contents = o } in
          let moving = moved_from (Structure size) w s.objects (Behind (rvalue p) w) in
          let opened = keyed_opens keys key paid p (admitted mode size (rvalue p) s.objects moving) fine in
          let f = found mode settled (views c).functions size p s.objects moving held.sound
          (λ stuck. fine (opened ∙ stuck)) in
          let t = only_true (is_there o size q s.objects) (Behind (rvalue p) w)
          (λ stuck. fine (opened ∙ f.opens ∙ stuck)) in
          let room = temporary_free h.code b from_low in
          let room_to = temporary_free h.code a to_low in
          let room_into = temporary_free h.code d low in
          let first = move_comes m g u pc v xs free (T a) has.0 in
          let values = put v.values free (v.values (T a)) in
          let same = λ (r : ℕ) (lt : r < free). put_other v.values free (v.values (T a)) r (λ e. omega arith) in
          let k = assigns_structure (cost label) size line b (pc + 1) 2 p q from_low small entry_is f.direct held.sound
          values
          (v.work + first.work) (reached_by m g u xs pc (pc + 1) v (record v { values = values }) 2 first) same
          (put_same v.values free (v.values (T a)) ∙ held.word) (has_front body (pc + 1) assign_list rest_list has.1) o
          taken
          t.0 in
          let y = k.after in
          let z = counted (cost label) k.source in
          let still = held_on (views c) h.keys k.keys s.objects z.objects v.memory y.memory k.acted.goes (E n a) p (T a)
          v.values y.values (λ j lt. k.others (T a + j) (let few = few_in (E n a) in omega arith)) held in
          let placed = value_moved (world c k.keys z y) (E next d) (E n a) p (T d) (T a) y.values still
          (λ e. nd.closed.made n next d a label at (inl refl) refl refl e)
          (temporary_apart d a (T d) (T a) (λ ne. temporaries_apart h.code d a ne)
          (λ e. ap (λ z. temporary_register h.code z) e)) in
          let long = length-append assign_list rest_list in
          let stop : pc + suc (length (assign_list ++ rest_list)) ≡ pc + 1 + length assign_list + length rest_list =
          omega (arith, long) in
          let e = ends_with c IsGood right u n temps ws s v xs h (pc + 1 + length assign_list) (2 + 105 + 16 * size) 5
          next y
          rest_list k.reached (move_few (E next d) (T d) (T a)) (has_back body (pc + 1) assign_list rest_list has.1)
          (subst (λ r. Leads body r (c.layout.address u next)) stop leads) in
          let spent_work = k.work in
          let result = acts_giving c IsGood right u n temps ws s v xs h label nd d next p z k.keys
          (record y { values = assigned rest_list y.values; work = e.0 }) (2 + 105 + 16 * size + 2 * 5 + 2) refl
          (inl refl)
          low e.1
          (acted_as c IsGood right u n temps ws s v xs h (behind_action s z) k.keys y (assigned rest_list y.values) e.0
          k.acted)
          (λ r lt out. placed.others r out ∙ k.others r lt) placed.held (omega (arith, spent_work)) in
          let write_is = ap (λ r. fourfold paid.work (on r (λ z. give p)))
          (judged_same o size line (is_through mode) p q paid (f.same line paid refl) ∙ k.run_is) in
          subst Follows (sym (opened ∙ f.opens ∙ t.1 ∙ ap (λ r. came r (given_in u next temps d ws)) write_is))
          (subst (λ r. Follows (Stands u next (with_temp temps d (rvalue p)) ws r)) k.rest result)

      -- where the block stands, the structure is assigned
      assign_structure : (effect c.setting (expansion_of c).code label u temps ws paid ≡ Stuck → ⊥)
          → Follows (effect c.setting (expansion_of c).code label u temps ws paid)
      assign_structure fine =
          let to = plain_operand c IsGood right u n temps ws s v xs h words.0 a to_low
          (nd.kept.words n a label nd.at (eq-eqb a a refl)) in
          subst (λ q. (Effect q (temps b) ≡ Stuck → ⊥) → Follows (Effect q (temps b))) (sym to.0)
          (place_assigned (temps a).value (temps b).value (temps b).contents to.1
          (h.holds.temporaries b from_low refl).by) fine

    -- the block of a temporary with an area
    abbrev Block : (has_area : Bool) → List FlatInstruction
    Block q = write_structure_code c.layout.expansion.inline.operators c.layout.expansion.code q
        (c.layout.expansion.entries u next d) size (temporary_register h.code d) (temporary_register h.code a)
        (temporary_register h.code b) (first_free h.code)

    pub write_contents : (effect c.setting (expansion_of c).code label u temps ws paid ≡ Stuck → ⊥)
        → Follows (effect c.setting (expansion_of c).code label u temps ws paid)
    write_contents fine =
        assign_structure (subst (λ q. HasAt body pc (Block q)) area nd.put.has)
        (subst (λ q. Leads body (pc + length (Block q)) (c.layout.address u next)) area nd.put.leads) fine

  -- ---- parts of initializers

  module _ (size line x offset a next : ℕ) (short_offset : offset < 2 ^ 64) (small : size < 2 ^ 64)
      (at : slice_get h.code.code n ≡ Some (tac.StorePart (Structure size) line x offset a next))
      (area : has_area c.layout.expansion.code h.code a ≡ true) where
    abbrev part_label : Instruction
    part_label = tac.StorePart (Structure size) line x offset a next

    part_node : IsNode c u n h.code (tac.StorePart (Structure size) line x offset a next)
    part_node = node c IsGood right u n temps ws s v xs h (tac.StorePart (Structure size) line x offset a next) at

    part_low : a < most_temporaries h.code.code
    part_low = part_node.temporaries_low

    -- the value that is stored has an entry
    part_entry : c.layout.expansion.entries u n a ≡ true
    part_entry = part_node.closed.read n a part_label part_node.at (ap (λ z. z && true) (eq-eqb a a refl))

    abbrev H : ℕ
    H = home_register h.code x

    abbrev part_paid : State
    part_paid = spent 6 s

    abbrev PartBehind : Home → Rvalue → Stage
    PartBehind m w = came (heavier (write_rvalue (Structure size) false
        (narrowed offset size (home_value m s.objects)) line w) part_paid) (λ _ z. Stands u next temps ws z)

    abbrev PartEffect : Home → Rvalue → Stage
    PartEffect m w = only_if (is_live_at size (narrowed offset size (home_value m s.objects)) s.objects)
        (moved_from (Structure size) w s.objects (PartBehind m w))

    abbrev store_list : List FlatInstruction
    store_list = assign_code c.layout.expansion.inline.operators (runtime_number c.layout.expansion.code) size
        (temporary_register h.code a) (first_free h.code)

    module _ (q : Value) (k : Option ObjectState)
        (taken : IsRvalueAt (world c h.keys s v) (c.layout.expansion.entries u n a) q k
        (greatest_structure c.layout.expansion.code h.code.code a)
        (area_of (map_of c) c.layout.expansion.code h.code s.charged a) (temporary_register h.code a) v.values)
        (there : is_there k size q s.objects ≡ true) (o : ℕ) (home : get_or s.frame x NoObject ≡ InObject o)
        (part : IsPart offset size o s.objects) where
      abbrev p : Value
      p = narrowed offset size (pointer_to o s.objects)

      home_is : IsHome (world c h.keys s v) o (home_register h.code x) v.values
      home_is = h.holds.homes.homes x o home

      object_low : (object_at s.objects o).address + (object_at s.objects o).size ≤ 1610612736
      object_low = (good_now (names c) u ws s h.steady.good).low o

      part_sound : IsSoundTag (views c).functions s.objects (narrowed offset size (pointer_to o s.objects)).tag
      part_sound =
          let low = object_low in
          sound_narrowed (views c).functions s.objects offset size (pointer_to o s.objects)
          (sound_pointer (views c).functions o s.objects (live_is_made s.objects o part.live) (omega arith))

      -- a run of the block, behind which it stands where the source does
      record IsStored : Type 0 where
        source : State
        run_is : copy_value k size false (narrowed offset size (pointer_to o s.objects)) line q (spent 6 s)
            ≡ Gives tt source
        follows : Result c IsGood (Stands u next temps ws
            (record source { work = source.work + 3 * (source.work - (spent 6 s).work) }))
            (flat.Stands u (c.layout.address u n) v xs)

      stores : HasAt body pc (Operate Add free H (Number offset) ∷ store_list)
          → Leads body (pc + suc (length store_list)) (c.layout.address u next) → IsStored
      stores has on =
          let m = map_of c in
          let f = c.layout.program in
          let low = object_low in
          let inside = part.inside in
          let sum = reg_result Add (v.values H) (low_bits 64 offset) in
          let first = operate_comes m f u pc v xs Add free H (Number offset) has.0 in
          let values = put v.values free sum in
          let same = λ (r : ℕ) (lt : r < free). put_other v.values free sum r (λ e. omega arith) in
          let address : values free ≡ p.word =
          put_same v.values free sum
          ∙ ap (λ z. reg_result Add z (low_bits 64 offset)) (home_address (world c h.keys s v) o H v.values home_is)
          ∙ sum_is (object_at s.objects o).address offset (omega arith) ∙ sym part.word in
          let z = assigns_structure 6 size line a (pc + 1) 2 p q part_low small part_entry part.direct part_sound values
          (v.work + first.work)
          (reached_by m f u xs pc (pc + 1) v (record v { values = values }) 2 first) same address has.1 k taken there in
          let y = z.after in
          let made = counted 6 z.source in
          let end : pc + suc (length store_list) ≡ pc + 1 + length store_list + 0 = omega arith in
          let e = ends_with c IsGood right u n temps ws s v xs h (pc + 1 + length store_list) (2 + 105 + 16 * size) 0 next
          y [] z.reached (record { assign = refl; few = omega arith }) tt
          (subst (λ r. Leads body r (c.layout.address u next)) end on) in
          let spent_work = z.work in
          let result = acts_alone c IsGood right u n temps ws s v xs h part_label part_node next made z.keys
          (record y { values = y.values; work = e.0 }) (2 + 105 + 16 * size + 2 * 0 + 2) refl (inl refl) e.1
          (acted_as c IsGood right u n temps ws s v xs h (behind_action s made) z.keys y y.values e.0 z.acted)
          (λ r lt. z.others r lt) (omega (arith, spent_work)) in
          record {
            source = z.source;
            run_is = z.run_is;
            follows = subst (λ r. Follows (Stands u next temps ws r)) z.rest result;
          }

      is_stored : IsStored
      is_stored =
          let low = object_low in
          let inside = part.inside in
          let short = lt-ltb offset (2 ^ 31 - 2 ^ 11) (omega arith) in
          let list = part_code c.layout.expansion.inline.operators H offset free short in
          let address = part_address c.layout.expansion.inline.operators h.code x offset free in
          let has = subst (λ r. HasAt body pc (address ++ put_code c.layout.expansion.inline.operators
          (runtime_number c.layout.expansion.code) r (T a) size free)) area part_node.put.has in
          let on = subst (λ r. Leads body (pc + length (address ++ put_code c.layout.expansion.inline.operators
          (runtime_number c.layout.expansion.code) r (T a) size free)) (c.layout.address u next)) area
          part_node.put.leads in
          stores (subst (λ z. HasAt body pc (z ++ store_list)) list has)
          (subst (λ z. Leads body (pc + length (z ++ store_list)) (c.layout.address u next)) list on)

    by_home : (q : Value) (k : Option ObjectState)
        → IsRvalueAt (world c h.keys s v) (c.layout.expansion.entries u n a) q k
        (greatest_structure c.layout.expansion.code h.code.code a)
        (area_of (map_of c) c.layout.expansion.code h.code s.charged a) (temporary_register h.code a) v.values
        → (m : Home) → get_or s.frame x NoObject ≡ m
        → (PartEffect m (record { value = q; contents = k }) ≡ Stuck → ⊥)
        → Follows (PartEffect m (record { value = q; contents = k }))
    by_home q k taken NoObject home fine =
        let w : Rvalue = record { value = q; contents = k } in
        absurd (no_part offset size s.objects (only_true
        (is_live_at size (narrowed offset size (integer 0)) s.objects)
        (moved_from (Structure size) w s.objects (PartBehind NoObject w)) fine).0)
    by_home q k taken (InObject o) home fine =
        let w : Rvalue = record { value = q; contents = k } in
        let p = narrowed offset size (pointer_to o s.objects) in
        let moving = moved_from (Structure size) w s.objects (PartBehind (InObject o) w) in
        let t = only_true (is_live_at size p s.objects) moving fine in
        let part = part_is offset size o s.objects short_offset
        ((good_now (names c) u ws s h.steady.good).low o) t.0 in
        let i = only_true (is_there k size q s.objects) (PartBehind (InObject o) w) (λ stuck. fine (t.1 ∙ stuck)) in
        let z = is_stored q k taken i.0 o home part in
        let write_is = ap (λ r. fourfold part_paid.work (on r (λ z. give p))) z.run_is in
        subst Follows (sym (t.1 ∙ i.1 ∙ ap (λ r. came r (λ _ z. Stands u next temps ws z)) write_is)) z.follows

    pub store_contents : (effect c.setting (expansion_of c).code part_label u temps ws part_paid ≡ Stuck → ⊥)
        → Follows (effect c.setting (expansion_of c).code part_label u temps ws part_paid)
    store_contents fine =
        by_home (temps a).value (temps a).contents (h.holds.temporaries a part_low refl).by
        (get_or s.frame x NoObject) refl fine
