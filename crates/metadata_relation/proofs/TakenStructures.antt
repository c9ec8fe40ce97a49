-- The contents of a structure are taken to the area of a temporary, as an argument or a result is (C99 6.5.2.2 paragraph 4,
-- 6.8.6.4 paragraph 3): from its place, or from other contents.
use Rattle.std.proofs.Common.{◌≡◌, ◌≢◌, inl, ℕ, suc, ◌+◌, ◌-◌, ◌*◌, ◌<◌, ◌≤◌, Bool, true, false}
use Rattle.std.proofs.Common.{if◌then◌else◌, List, [], ◌∷◌, ◌++◌, length, length-append, Option, Some, None, refl, sym}
use Rattle.std.proofs.Common.{ap}
use Rattle.std.proofs.Common.{◌∙◌, subst, arith}
use Rattle.std.specs.Prelude.{◌&&◌, not, nat_le, slice_get}
use Rattle.std.proofs.lemmas.Bool.{eq-eqb, eqb-true, leb-true, ne_eqb}
use Rattle.addr_map.specs.declared.region.Region.TheVariants.{Locks}
use Rattle.addr_map.specs.Places.{MapSizes, region_start}
use Rattle.rv_isa.specs.declared.instruction.BranchOp.TheVariants.{Bne}
use Rattle.obj_memory.specs.declared.value.Value.{Value}
use Rattle.obj_memory.specs.Heap.{rounded_up}
use Rattle.obj_memory.specs.Judgement.{place_in}
use Rattle.obj_memory.specs.Objects.{ObjectState, object_at}
use Rattle.c_tree.specs.declared.expression.Kind.TheVariants.{Structure}
use Rattle.source_meaning.specs.State.{Gives, on, Rvalue, State, tally, ◌>>◌, read_state}
use Rattle.source_meaning.specs.Acting.{state_of}
use Rattle.source_meaning.specs.Actions.{place_or_stop}
use Rattle.source_meaning.specs.Keeping.{IsDirect}
use Rattle.source_meaning.specs.Structures.{contents_of, taken, with_contents}
use Rattle.source_meaning.proofs.Holding.{direct_named}
use Rattle.source_meaning.proofs.SureStructures.{taken_argument}
use Rattle.tac_ir.specs.declared.instruction.Instruction.{Instruction}
use Rattle.tac_ir.specs.declared.instruction.Instruction.TheVariants as tac
use Rattle.tac_ir.specs.declared.function.Tac.{Tac}
use Rattle.tac_ir.specs.Accesses.{is_live_at, moved_from}
use Rattle.tac_ir.specs.Costs.{fourfold, heavier, spent}
use Rattle.tac_ir.specs.Fitting.{is_in_place}
use Rattle.tac_ir.specs.Meaning.{effect, given_in}
use Rattle.tac_ir.specs.Stage.{came, Frame, Stage, Stands, Stuck, Temps, with_temp}
use Rattle.tac_ir.specs.Structures.{greatest_structure}
use Rattle.tac_ir.proofs.Fits.{only_true}
use Rattle.flat_code.specs.declared.instruction.FlatInstruction.{FlatInstruction}
use Rattle.flat_code.specs.declared.instruction.FlatInstruction.TheVariants.{Branch, Call, JumpForward}
use Rattle.flat_code.specs.declared.instruction.RightOperand.TheVariants.{Number}
use Rattle.flat_code.specs.Calls.{function_in}
use Rattle.flat_code.specs.Meaning.{body_of}
use Rattle.flat_code.specs.Memory.{Bytes, KeepsBut, put}
use Rattle.flat_code.specs.State as flat
use Rattle.flat_code.specs.Words.{HasWords}
use Rattle.flat_code.proofs.Stored.{put_other, put_same}
use Rattle.flat_code.specs.Routines.Objects.StandsFor.{spell}
use Rattle.flat_code.specs.Routines.Routine.{HasAt}
use Rattle.flat_code.proofs.Routines.Steps.{has_back, has_front}
use Rattle.flat_actions.specs.Actions.{IsFor}
use Rattle.lib_wrappers.specs.AreaRoutines.Areas.{area_bytes, entries_begin, HoldsPart, IsArea, IsAreaPlace}
use Rattle.lib_wrappers.specs.AreaRoutines.Values.{work_from}
use Rattle.lib_wrappers.proofs.AreaRoutines.Contents.{contents_size}
use Rattle.runtime_functions.specs.declared.runtime.RuntimeFunction.TheVariants.{MoveArea, TakeArea}
use Rattle.runtime_functions.specs.Actions.{work_of_call}
use Rattle.runtime_functions.specs.Areas.{IsAreaServed}
use Rattle.runtime_functions.specs.Library.{held_from}
use Rattle.runtime_functions.proofs.AreaCalls.{move_served, take_served}
use Rattle.metadata_plan.specs.Expanded.{Forward, Leads}
use Rattle.metadata_plan.specs.Registers.{most_temporaries}
use Rattle.metadata_plan.proofs.Flat.{branch_passed_comes, branch_taken_comes, move_comes}
use Rattle.metadata_relation.specs.Blocks.{runtime_number}
use Rattle.metadata_relation.specs.Holding.{area_of, IsContentsAt, IsHeldAt, IsRvalueAt}
use Rattle.metadata_relation.specs.Registers.{first_free, temporary_register}
use Rattle.metadata_relation.specs.Stages.{Compiled, expansion_of, IsAt, map_of, views, world}
use Rattle.metadata_relation.specs.Steps.{IsCompiled}
use Rattle.metadata_relation.specs.Structures.{begin_area_code, HaveAreas, hold_area, move_area_place, move_part}
use Rattle.metadata_relation.specs.Structures.{take_area_place, take_part_code, take_place_code}
use Rattle.metadata_relation.proofs.Acting.{behind_action, Reached, reached_computed, reached_next, reached_on}
use Rattle.metadata_relation.proofs.Acting.{reached_then, reached_words}
use Rattle.metadata_relation.proofs.Accesses.{live_direct}
use Rattle.metadata_relation.proofs.AreaPlaces.{put_most}
use Rattle.metadata_relation.proofs.AreaSteps.{area_begun, areas, charge_is, contents_left, IsBegun, place_here}
use Rattle.metadata_relation.proofs.AreaSteps.{place_low}
use Rattle.metadata_relation.proofs.Assigning.{assigned, assigns}
use Rattle.metadata_relation.proofs.CalleeTests.{differs}
use Rattle.metadata_relation.proofs.Finishing.{acted_as, acted_worked, nothing_done}
use Rattle.metadata_relation.proofs.Registers.{temporary_free}
use Rattle.metadata_relation.proofs.RuntimeCalls.{runtime_call, site}
use Rattle.metadata_relation.proofs.Standing.{IsNode, node, Result}

-- ---- in the source

taken_there : (x : State) (v : Value) (size line : ℕ) (d : IsDirect x.objects v size)
    → taken None size v line x
    ≡ Gives (with_contents size (place_in x.objects d.object v.word).offset (object_at x.objects d.object))
    (record x { work = x.work + size })
taken_there x v size line d =
    ap (λ w. on (place_or_stop w line x) (λ p. tally size
    >> read_state (λ s. with_contents size p.offset (object_at s.objects p.object))))
    (direct_named x.objects v size d)

-- ---- lock words

pub locks_high : (m : MapSizes) → 0 < region_start m Locks
unfolding region_start
locks_high m = omega arith

-- a part in other registers
module _ (size offset area d a : ℕ) (values : flat.Values) (apart : a + 5 ≤ d) where
  abbrev one : flat.Values
  one = put values d (values a)

  abbrev two : flat.Values
  two = put one (d + 1) (one (a + 1))

  abbrev three : flat.Values
  three = put two (d + 2) (two (a + 2))

  abbrev four : flat.Values
  four = put three (d + 3) 0

  pub part_moved : HoldsPart (held_from a) size offset area values
      → HoldsPart (held_from d) size offset area (assigned (move_part d a) values)
  part_moved h = record {
    part = put_other four (d + 4) 0 d (λ e. omega arith) ∙ put_other three (d + 3) 0 d (λ e. omega arith) ∙ put_other two (d + 2) (two (a + 2)) d (λ e. omega arith)
        ∙ put_other one (d + 1) (one (a + 1)) d (λ e. omega arith) ∙ put_same values d (values a) ∙ h.part;
    base = put_other four (d + 4) 0 (d + 1) (λ e. omega arith) ∙ put_other three (d + 3) 0 (d + 1) (λ e. omega arith)
        ∙ put_other two (d + 2) (two (a + 2)) (d + 1) (λ e. omega arith) ∙ put_same one (d + 1) (one (a + 1))
        ∙ put_other values d (values a) (a + 1) (λ e. omega arith) ∙ h.base;
    bound = put_other four (d + 4) 0 (d + 2) (λ e. omega arith) ∙ put_other three (d + 3) 0 (d + 2) (λ e. omega arith) ∙ put_same two (d + 2) (two (a + 2))
        ∙ put_other one (d + 1) (one (a + 1)) (a + 2) (λ e. omega arith)
        ∙ put_other values d (values a) (a + 2) (λ e. omega arith) ∙ h.bound;
    no_lock = put_same four (d + 4) 0;
  }

  pub part_others : (y : ℕ) → y < d → assigned (move_part d a) values y ≡ values y
  part_others y lt =
      put_other four (d + 4) 0 y (λ e. omega arith) ∙ put_other three (d + 3) 0 y (λ e. omega arith) ∙ put_other two (d + 2) (two (a + 2)) y (λ e. omega arith)
      ∙ put_other one (d + 1) (one (a + 1)) y (λ e. omega arith) ∙ put_other values d (values a) y (λ e. omega arith)

  part_above : (y : ℕ) → d + 5 ≤ y → assigned (move_part d a) values y ≡ values y
  part_above y le =
      put_other four (d + 4) 0 y (λ e. omega arith) ∙ put_other three (d + 3) 0 y (λ e. omega arith) ∙ put_other two (d + 2) (two (a + 2)) y (λ e. omega arith)
      ∙ put_other one (d + 1) (one (a + 1)) y (λ e. omega arith) ∙ put_other values d (values a) y (λ e. omega arith)

module _ (c : Compiled) (IsGood : Bytes → Type 0) (right : IsCompiled c IsGood)
    (have : HaveAreas c.layout.expansion.code) (u n : ℕ) (temps : Temps) (ws : List Frame) (s : State)
    (v : flat.State) (xs : List flat.Frame)
    (h : IsAt c IsGood u n temps ws s u (c.layout.address u n) v xs)
    (words : HasWords (flat.Stands u (c.layout.address u n) v xs)) where
  abbrev pc : ℕ
  pc = c.layout.address u n

  abbrev t : Tac
  t = c.layout.expansion.code

  abbrev T : (temporary : ℕ) → ℕ
  T i = temporary_register h.code i

  abbrev free : ℕ
  free = first_free h.code

  abbrev Follows : Stage → Type 0
  Follows a = Result c IsGood a (flat.Stands u (c.layout.address u n) v xs)

  abbrev body : List FlatInstruction
  body = body_of (function_in c.layout.program u)

  module _ (size line d a next : ℕ) (sized : 1 ≤ size)
      (at : slice_get h.code.code n ≡ Some (tac.Take (Structure size) line d a next))
      (may : c.layout.expansion.contents u next d ≡ true) where
    abbrev label : Instruction
    label = tac.Take (Structure size) line d a next

    nd : IsNode c u n h.code (tac.Take (Structure size) line d a next)
    nd = node c IsGood right u n temps ws s v xs h (tac.Take (Structure size) line d a next) at

    low : d < most_temporaries h.code.code
    low = omega (arith, nd.temporaries_low)

    from_low : a < most_temporaries h.code.code
    from_low = omega (arith, nd.temporaries_low)

    abbrev paid : State
    paid = spent 5 s

    abbrev z : State
    z = record s { work = paid.work + size + 3 * (paid.work + size - paid.work) }

    abbrev b : Bool
    b = c.layout.expansion.entries u next d

    abbrev A : ℕ
    A = area_of (map_of c) c.layout.expansion.code h.code s.charged d

    within : size ≤ greatest_structure c.layout.expansion.code h.code.code d
    within =
        let most = put_most t h.code.code d n label nd.at in
        let own = ap (λ q. if q then rounded_up 16 size else 0) (eq-eqb d d refl) in
        omega (arith, most, own)

    small : 5 * greatest_structure c.layout.expansion.code h.code.code d ≤ 16777216
    small =
        let fit = (areas c IsGood right have u n temps ws s v xs h).fit (suc d) in
        let all = charge_is c IsGood right have u n temps ws s v xs h in
        let fits = h.fits in
        omega (arith, right.mapped.budgets.calls.greatest)

    place : IsAreaPlace (map_of c) size (area_of (map_of c) c.layout.expansion.code h.code s.charged d)
    place = place_here c IsGood right have u n temps ws s v xs h d size within

    -- the value that is taken has an entry
    entry_is : c.layout.expansion.entries u n a ≡ true
    entry_is = nd.closed.read n a label nd.at (ap (λ z. z && true) (eq-eqb a a refl))

    -- ---- the block

    abbrev begin_list : List FlatInstruction
    begin_list = begin_area_code c.layout.expansion.inline.operators (map_of c) c.layout.expansion.code h.code size d
        (first_free h.code)

    abbrev part_list : List FlatInstruction
    part_list = take_part_code c.layout.expansion.inline.operators (runtime_number c.layout.expansion.code) size
        (temporary_register h.code a) (first_free h.code + 2)

    abbrev place_list : List FlatInstruction
    place_list = take_place_code c.layout.expansion.inline.operators (runtime_number c.layout.expansion.code) size
        (temporary_register h.code a) (first_free h.code + 2)

    abbrev hold_list : List FlatInstruction
    hold_list = hold_area (c.layout.expansion.entries u next d) (temporary_register h.code d) (first_free h.code)
        (first_free h.code + 1)

    abbrev behind_list : List FlatInstruction
    behind_list = JumpForward (length place_list) ∷ (place_list ++ hold_list)

    abbrev branch_list : List FlatInstruction
    branch_list = Branch Bne (held_from (temporary_register h.code a)).tag.lock (Number 0) (length part_list + 1)
        ∷ (part_list ++ behind_list)

    abbrev at_branch : ℕ
    at_branch = c.layout.address u n + length begin_list

    abbrev at_place : ℕ
    at_place = at_branch + 1 + length part_list + 1

    abbrev at_hold : ℕ
    at_hold = at_place + length place_list

    module _ (has : HasAt (body_of (function_in c.layout.program u)) (c.layout.address u n)
        (begin_list ++ branch_list))
        (on : Leads (body_of (function_in c.layout.program u))
        (c.layout.address u n + length (begin_list ++ branch_list)) (c.layout.address u next)) where
      has_branch : HasAt (body_of (function_in c.layout.program u)) at_branch branch_list
      has_branch = has_back body pc begin_list branch_list has

      has_jump : HasAt (body_of (function_in c.layout.program u)) (at_branch + 1 + length part_list) behind_list
      has_jump = has_back body (at_branch + 1) part_list behind_list has_branch.1

      has_hold : HasAt (body_of (function_in c.layout.program u)) at_hold hold_list
      has_hold = has_back body at_place place_list hold_list has_jump.1

      leads : Leads (body_of (function_in c.layout.program u)) (at_hold + length hold_list) (c.layout.address u next)
      leads =
          let one = length-append begin_list branch_list in
          let two = length-append part_list behind_list in
          let three = length-append place_list hold_list in
          let end : pc + length (begin_list ++ branch_list) ≡ at_hold + length hold_list = omega
          (arith, one, two, three) in
          subst (λ q. Leads body q (c.layout.address u next)) end on

      begun : IsBegun c IsGood right have u n temps ws s v xs h size d at_branch 28
      begun = area_begun c IsGood right have u n temps ws s v xs h words size d within
          (has_front body pc begin_list branch_list has)

      -- the memory stands for the source's objects, whatever registers hold
      stands_in : (values : flat.Values) (work : ℕ)
          → IsFor (views c) h.keys IsGood (spent 5 s) (record v { values = values; work = work })
      stands_in values work =
          (acted_as c IsGood right u n temps ws s v xs h (behind_action s paid) h.keys v values work
          (acted_worked c IsGood right u n temps ws s v xs h s h.keys v paid.work
          (nothing_done c IsGood right u n temps ws s v xs h))).stands.for

      -- ---- from a place

      module _ (q : Value)
          (held : IsHeldAt (world c h.keys s v) (c.layout.expansion.entries u n a) q (temporary_register h.code a)
          v.values)
          (direct : IsDirect s.objects q size) where
        abbrev offset : ℕ
        offset = (place_in s.objects direct.object q.word).offset

        abbrev k : ObjectState
        k = contents_of size (place_in s.objects direct.object q.word).offset (object_at s.objects direct.object)

        lock_is : v.values (held_from (temporary_register h.code a)).tag.lock ≡ (h.keys.held direct.object).lock
        lock_is = ap (λ m. m.lock) (held.entry entry_is).tag ∙ ap (λ t. (spell (views c) h.keys t).lock) direct.tag

        has_lock : v.values (held_from (temporary_register h.code a)).tag.lock ≢ 0
        has_lock e =
            let first = (h.stands.for.objects.keyed.each direct.object direct.made).lock.first in
            let high = locks_high (map_of c) in
            let same = lock_is in
            absurd (omega arith)

        run_is : taken None size q line (spent 5 s) ≡ Gives
            (with_contents size (place_in s.objects direct.object q.word).offset (object_at s.objects direct.object))
            (record (spent 5 s) { work = (spent 5 s).work + size })
        run_is = taken_there paid q size line direct

        work_is : work_from (taken None size q line) (spent 5 s) ≡ size
        work_is = ap (λ o. (state_of o).work - (spent 5 s).work) run_is ∙ omega arith

        inside : (place_in s.objects direct.object q.word).offset + size ≤ (object_at s.objects direct.object).size
        inside = let start = direct.start in let end = direct.end in omega arith

        from_place : Follows (Stands u next (with_temp temps d
            (with_contents size (place_in s.objects direct.object q.word).offset (object_at s.objects direct.object)))
            ws z)
        from_place =
            let m = map_of c in
            let p = c.layout.program in
            let f = begun in
            let room = temporary_free h.code a from_low in
            let less = within in
            let few = small in
            let v1 : flat.State = record v { values = f.values; work = f.work } in
            let lock = f.others (held_from (T a)).tag.lock (omega arith) in
            let jump = branch_taken_comes m p u at_branch v1 xs Bne (held_from (T a)).tag.lock (Number 0)
            (length part_list + 1)
            has_branch.0
            (differs (f.values (held_from (T a)).tag.lock) 0 true
            (ap not (ne_eqb (f.values (held_from (T a)).tag.lock) 0 (λ e. has_lock (sym lock ∙ e))))) in
            let there : at_branch + 1 + (length part_list + 1) ≡ at_place = omega arith in
            let one = reached_next m p u xs pc at_branch (at_branch + 1 + (length part_list + 1)) v v1 v1 28 2
            f.reached jump in
            let v2 : flat.State = record v { values = f.values; work = f.work + jump.work } in
            let come = subst (λ r. Reached m p u pc v xs r v2 30) there one in
            let constants = c.layout.expansion.inline.operators.constant (free + 2 + 2) size (free + 2 + 3) in
            let call = Call (runtime_number t take_area_place) (free + 2) (free + 2 + 7) ∷ [] in
            let has_all = has_front body at_place place_list hold_list has_jump.1 in
            let first = move_comes m p u at_place v2 xs (free + 2 + 1) (T a) has_all.0 in
            let values = put f.values (free + 2 + 1) (f.values (T a)) in
            let v3 : flat.State = record v { values = values; work = v2.work + first.work } in
            let two = reached_next m p u xs pc at_place (at_place + 1) v v2 (record v2 { values = values }) 30 2 come
            first in
            let made = right.inline.operators.constant m p
            (record { function = u; place = at_place + 1; state = v3; frames = xs }) (free + 2 + 2) size (free + 2 + 3)
            (omega arith) (omega arith)
            (record {
              has = has_front body (at_place + 1) constants call has_all.1;
              words = reached_words m p u xs pc (at_place + 1) v v3 32 words two;
            }) in
            let at_call = at_place + 1 + length constants in
            let v4 : flat.State = record v { values = made.after; work = v3.work + made.work } in
            let three = reached_computed m p u xs pc (at_place + 1) at_call (free + 2 + 2) size (free + 2 + 3) v v3 32
            5 two made
            in
            let has_call = has_back body (at_place + 1) constants call has_all.1 in
            let same = λ (y : ℕ) (lt : y < free + 3).
            made.others y (omega arith) (λ e. omega arith) ∙ put_other f.values (free + 2 + 1) (f.values (T a)) y
            (λ e. omega arith) in
            let address = same free (omega arith) ∙ f.address in
            let to = same (free + 2) (omega arith) ∙ f.first in
            let word = made.others (free + 2 + 1) (omega arith) (λ e. omega arith)
            ∙ put_same f.values (free + 2 + 1) (f.values (T a)) ∙ f.others (T a) (omega arith) ∙ held.word in
            let site_is = site c IsGood right u n temps ws s v xs h (runtime_number t take_area_place) at_call
            (free + 2)
            (free + 2 + 7) v4 in
            let called = runtime_call c IsGood right u n temps ws s v xs h take_area_place TakeArea refl at_call
            (free + 2)
            (free + 2 + 7) v4 has_call.0 in
            let served = take_served m c.entry IsGood p site_is called.function called.of.routine called.of.code.1
            (length c.setting.functions) c.layout.expansion.types h.keys paid
            (record { calls = called.calls; is = called.of.is }) called.of.code.0 q size line
            (record {
              words = reached_words m p u xs pc at_call v v4 42 words three;
              stands = stands_in made.after v4.work;
            })
            (record {
              word = word;
              size_is = made.gives;
              place = subst (IsAreaPlace m size) (sym to) place;
              direct = direct;
            }) in
            let bound = work_of_call 3 0 1 (48 + 16 * work_from (taken None size q line) paid) in
            let w = subst (λ o. IsAreaServed (views c) h.keys IsGood site_is bound (v4.values (free + 2)) o
            served.stage) run_is
            served.holds in
            let y = w.behind.state in
            let all = reached_then m p u xs pc at_call (at_call + 1) v v4 y 42 bound three
            (record { steps = served.steps; comes = served.comes ∙ w.behind.at; few = w.behind.work }) in
            let counted = length-append constants call in
            let stop : at_call + 1 ≡ at_hold = omega (arith, counted) in
            let is = contents_size size offset (object_at s.objects direct.object) in
            let count = work_is in
            let some = sized in
            contents_left c IsGood right have u n temps ws s v xs h label nd d next free (free + 1) at_hold k
            (paid.work + size)
            z.work (42 + bound) y refl (inl refl) low (omega arith) (omega arith) (omega (arith, is)) may
            (subst (λ r. Reached m p u pc v xs r y (42 + bound)) stop all) has_hold leads
            (w.behind.others free (inl (omega arith)) ∙ address)
            (w.behind.others (free + 1) (inl (omega arith)) ∙ same (free + 1) (omega arith) ∙ f.ends
            ∙ ap (entries_begin A) (sym is))
            w.stands (subst (λ r. IsArea (views c) h.keys k r y.memory) to w.area)
            (subst (λ r. KeepsBut r (area_bytes k.size) v.memory y.memory) to w.beside) w.behind.turns
            (λ r lt. w.behind.others r (inl (omega arith)) ∙ same r (omega arith) ∙ f.others r lt)
            (taken_argument (length c.setting.functions) size offset (object_at s.objects direct.object) s.objects
            (h.stands.for.objects.sound.at direct.object) inside).structure.sound
            (omega (arith, some, count))

      -- ---- from contents

      module _ (q : Value) (from : ObjectState)
          (held : IsContentsAt (world c h.keys s v) (c.layout.expansion.entries u n a) q from
          (greatest_structure c.layout.expansion.code h.code.code a)
          (area_of (map_of c) c.layout.expansion.code h.code s.charged a) (temporary_register h.code a) v.values)
          (same_place : d ≡ a) (inside : q.word + size ≤ from.size) where
        abbrev k' : ObjectState
        k' = contents_of size q.word from

        from_part : Follows (Stands u next (with_temp temps d (with_contents size q.word from)) ws z)
        from_part =
            let m = map_of c in
            let p = c.layout.program in
            let f = begun in
            let room = temporary_free h.code a from_low in
            let less = within in
            let few = small in
            let v1 : flat.State = record v { values = f.values; work = f.work } in
            let part = held.entry entry_is in
            let lies = place_low c IsGood right have u n temps ws s v xs h held.place in
            let word : v.values (T a) ≡ area_of m t h.code s.charged a + q.word =
            held.word ∙ omega (arith, lies, inside) in
            let lock = f.others (held_from (T a)).tag.lock (omega arith) in
            let pass = branch_passed_comes m p u at_branch v1 xs Bne (held_from (T a)).tag.lock (Number 0)
            (length part_list + 1)
            has_branch.0
            (differs (f.values (held_from (T a)).tag.lock) 0 false
            (ap not (eq-eqb (f.values (held_from (T a)).tag.lock) 0 (lock ∙ part.no_lock)))) in
            let come = reached_next m p u xs pc at_branch (at_branch + 1) v v1 v1 28 2 f.reached pass in
            let v2 : flat.State = record v { values = f.values; work = f.work + pass.work } in
            let constants = c.layout.expansion.inline.operators.constant (free + 2 + 1) size (free + 2 + 2) in
            let moves = move_part (free + 2 + 2) (T a) in
            let call = Call (runtime_number t move_area_place) (free + 2) (free + 2 + 7) ∷ [] in
            let has_all = has_front body (at_branch + 1) part_list behind_list has_branch.1 in
            let made = right.inline.operators.constant m p
            (record { function = u; place = at_branch + 1; state = v2; frames = xs }) (free + 2 + 1) size (free + 2 + 2)
            (omega arith) (omega arith)
            (record {
              has = has_front body (at_branch + 1) constants (moves ++ call) has_all;
              words = reached_words m p u xs pc (at_branch + 1) v v2 30 words come;
            }) in
            let at_moves = at_branch + 1 + length constants in
            let v3 : flat.State = record v { values = made.after; work = v2.work + made.work } in
            let two = reached_computed m p u xs pc (at_branch + 1) at_moves (free + 2 + 1) size (free + 2 + 2) v v2 30
            5 come made
            in
            let has_moves = has_back body (at_branch + 1) constants (moves ++ call) has_all in
            let moving = assigns m p u xs moves refl at_moves v3 (has_front body at_moves moves call has_moves) in
            let values = assigned moves made.after in
            let v4 : flat.State = record v { values = values; work = v3.work + moving.work } in
            let at_call = at_moves + 5 in
            let three = reached_next m p u xs pc at_moves at_call v v3 (record v3 { values = values }) 40 10 two moving
            in
            let has_call = has_back body at_moves moves call has_moves in
            let same = λ (y : ℕ) (lt : y < free + 3).
            part_others size q.word (area_of m t h.code s.charged a) (free + 2 + 2) (T a) made.after (omega arith) y
            (omega arith)
            ∙ made.others y (omega arith) (λ e. omega arith) in
            let address = same free (omega arith) ∙ f.address in
            let to = same (free + 2) (omega arith) ∙ f.first in
            let ready : HoldsPart (held_from (T a)) from.size q.word (area_of m t h.code s.charged a) made.after =
            record {
              part = made.others (T a) (omega arith) (λ e. omega arith) ∙ f.others (T a) (omega arith) ∙ word;
              base = made.others (T a + 1) (omega arith) (λ e. omega arith) ∙ f.others (T a + 1) (omega arith) ∙
                  part.base;
              bound = made.others (T a + 2) (omega arith) (λ e. omega arith) ∙ f.others (T a + 2) (omega arith) ∙
                  part.bound;
              no_lock = made.others (T a + 4) (omega arith) (λ e. omega arith) ∙ lock ∙ part.no_lock;
            } in
            let moved = part_moved from.size q.word (area_of m t h.code s.charged a) (free + 2 + 2) (T a) made.after
            (omega arith)
            ready in
            let site_is = site c IsGood right u n temps ws s v xs h (runtime_number t move_area_place) at_call
            (free + 2)
            (free + 2 + 7) v4 in
            let called = runtime_call c IsGood right u n temps ws s v xs h move_area_place MoveArea refl at_call
            (free + 2)
            (free + 2 + 7) v4 has_call.0 in
            let served = move_served m c.entry IsGood p site_is called.function called.of.routine called.of.code.1
            (length c.setting.functions) c.layout.expansion.types h.keys paid
            (record { calls = called.calls; is = called.of.is }) called.of.code.0 from q size line
            (area_of m t h.code s.charged a)
            (record {
              words = reached_words m p u xs pc at_call v v4 50 words three;
              stands = stands_in values v4.work;
            })
            (record {
              ready = record {
                size_is = part_others size q.word (area_of m t h.code s.charged a) (free + 2 + 2) (T a) made.after
                    (omega arith)
                    (free + 2 + 1) (omega arith) ∙ made.gives;
                place = subst (IsAreaPlace m size) (sym to) place;
                part = moved;
                room = inside;
                from_place = held.place;
                apart = inl (to ∙ ap (area_of m t h.code s.charged) same_place);
              };
              area = held.area_is;
              sound = held.sound;
            }) in
            let bound = work_of_call 7 0 1 (40 + 13 * work_from (taken (Some from) size q line) paid) in
            let w = served.holds in
            let y = w.behind.state in
            let all = reached_then m p u xs pc at_call (at_call + 1) v v4 y 50 bound three
            (record { steps = served.steps; comes = served.comes ∙ w.behind.at; few = w.behind.work }) in
            let counted = length-append constants (moves ++ call) in
            let stop : at_call + 1 ≡ at_branch + 1 + length part_list = omega (arith, counted) in
            let jump = reached_on m p u xs pc (at_branch + 1 + length part_list) at_hold v y (50 + bound)
            (subst (λ r. Reached m p u pc v xs r y (50 + bound)) stop all)
            (Forward (length place_list) has_jump.0 (omega arith)) in
            let y' : flat.State = record y { work = jump.0 } in
            let is = contents_size size q.word from in
            let some = sized in
            contents_left c IsGood right have u n temps ws s v xs h label nd d next free (free + 1) at_hold k'
            (paid.work + size)
            z.work (50 + bound + 2) y' refl (inl refl) low (omega arith) (omega arith) (omega (arith, is)) may
            jump.1 has_hold leads
            (w.behind.others free (inl (omega arith)) ∙ address)
            (w.behind.others (free + 1) (inl (omega arith)) ∙ same (free + 1) (omega arith) ∙ f.ends
            ∙ ap (entries_begin A) (sym is))
            (record {
              objects = w.stands.objects;
              spaces = w.stands.spaces;
              keys = w.stands.keys;
              shown = record {
                input = w.stands.shown.input;
                output = w.stands.shown.output;
                taken = w.stands.shown.taken;
                accesses = w.stands.shown.accesses;
              };
            })
            (subst (λ r. IsArea (views c) h.keys k' r y.memory) to w.area)
            (subst (λ r. KeepsBut r (area_bytes k'.size) v.memory y.memory) to w.beside) w.behind.turns
            (λ r lt. w.behind.others r (inl (omega arith)) ∙ same r (omega arith) ∙ f.others r lt)
            (taken_argument (length c.setting.functions) size q.word from s.objects held.sound inside).structure.sound
            (omega (arith, some))

      -- ---- the step

      abbrev Behind : Rvalue → Stage
      Behind q = came (heavier (taken q.contents size q.value line) paid) (given_in u next temps d ws)

      abbrev Effect : Rvalue → Stage
      Effect q = moved_from (Structure size) q s.objects (Behind q)

      by_contents : (o : Option ObjectState)
          → IsRvalueAt (world c h.keys s v) (c.layout.expansion.entries u n a) (temps a).value o
          (greatest_structure c.layout.expansion.code h.code.code a)
          (area_of (map_of c) c.layout.expansion.code h.code s.charged a) (temporary_register h.code a) v.values
          → is_in_place o d a ≡ true → (Effect (record { value = (temps a).value; contents = o }) ≡ Stuck → ⊥)
          → Follows (Effect (record { value = (temps a).value; contents = o }))
      by_contents None held in_place fine =
          let q = (temps a).value in
          let t = only_true (is_live_at size q s.objects) (Behind (record { value = q; contents = None })) fine in
          let direct = live_direct s.objects q size q.tag refl t.0 in
          subst Follows (sym (t.1 ∙ ap (λ o. came (fourfold paid.work o) (given_in u next temps d ws))
          (taken_there paid q size line direct))) (from_place q held direct)
      by_contents (Some from) held in_place fine =
          let q = (temps a).value in
          let t = only_true (nat_le (q.word + size) from.size) (Behind (record { value = q; contents = Some from }))
          fine in
          subst Follows (sym t.1)
          (from_part q from held (eqb-true d a in_place) (leb-true (q.word + size) from.size t.0))

      -- where the block stands, contents are taken
      pub take_structure : is_in_place (temps a).contents d a ≡ true
          → (effect c.setting (expansion_of c).code label u temps ws paid ≡ Stuck → ⊥)
          → Follows (effect c.setting (expansion_of c).code label u temps ws paid)
      take_structure in_place fine =
          by_contents (temps a).contents (h.holds.temporaries a from_low refl).by in_place fine
