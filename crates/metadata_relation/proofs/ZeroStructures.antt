-- A structure of zeros is made in the area of a temporary: the value of a function that ends without one (C99 6.9.1
-- paragraph 12).
use Rattle.std.proofs.Common.{◌≡◌, inl, ℕ, suc, ◌+◌, ◌-◌, ◌*◌, ◌<◌, ◌≤◌, Bool, true, if◌then◌else◌}
use Rattle.std.proofs.Common.{List, ◌∷◌, ◌++◌, length, length-append, Some, refl, sym, ap, ◌∙◌, subst, arith}
use Rattle.std.specs.Prelude.{slice_get}
use Rattle.std.proofs.lemmas.Bool.{eq-eqb}
use Rattle.obj_memory.specs.declared.object.Storage.TheVariants.{Automatic}
use Rattle.obj_memory.specs.Heap.{rounded_up}
use Rattle.obj_memory.specs.Objects.{new_object, Objects}
use Rattle.obj_memory.specs.Sound.{IsSoundObject}
use Rattle.obj_memory.proofs.Soundness.{sound_zeros}
use Rattle.c_tree.specs.declared.expression.Kind.TheVariants.{Structure}
use Rattle.source_meaning.specs.State.{State}
use Rattle.source_meaning.specs.Structures.{make_zero}
use Rattle.tac_ir.specs.declared.instruction.Instruction.{Instruction}
use Rattle.tac_ir.specs.declared.instruction.Instruction.TheVariants as tac
use Rattle.tac_ir.specs.declared.function.Tac.{Tac}
use Rattle.tac_ir.specs.Costs.{spent}
use Rattle.tac_ir.specs.Meaning.{effect}
use Rattle.tac_ir.specs.Stage.{Frame, Stage, Temps}
use Rattle.tac_ir.specs.Structures.{greatest_structure}
use Rattle.flat_code.specs.declared.instruction.FlatInstruction.{FlatInstruction}
use Rattle.flat_code.specs.declared.instruction.FlatInstruction.TheVariants.{Call}
use Rattle.flat_code.specs.Calls.{function_in}
use Rattle.flat_code.specs.Meaning.{body_of}
use Rattle.flat_code.specs.Memory.{Bytes, KeepsBut}
use Rattle.flat_code.specs.State as flat
use Rattle.flat_code.specs.Words.{HasWords}
use Rattle.flat_code.specs.Routines.Routine.{HasAt}
use Rattle.flat_code.proofs.Routines.Steps.{has_back, has_front}
use Rattle.lib_wrappers.specs.AreaRoutines.Areas.{area_bytes, IsArea, IsAreaPlace}
use Rattle.lib_wrappers.specs.AreaRoutines.Values.{work_from}
use Rattle.runtime_functions.specs.declared.runtime.RuntimeFunction.TheVariants.{ZeroArea}
use Rattle.runtime_functions.specs.Actions.{work_of_call}
use Rattle.runtime_functions.proofs.AreaCalls.{zero_served}
use Rattle.metadata_plan.specs.Expanded.{Leads}
use Rattle.metadata_plan.specs.Registers.{most_temporaries}
use Rattle.metadata_relation.specs.Blocks.{runtime_number}
use Rattle.metadata_relation.specs.Holding.{area_of}
use Rattle.metadata_relation.specs.Registers.{first_free, temporary_register}
use Rattle.metadata_relation.specs.Stages.{Compiled, expansion_of, IsAt, map_of, views}
use Rattle.metadata_relation.specs.Steps.{IsCompiled}
use Rattle.metadata_relation.specs.Structures.{begin_area_code, HaveAreas, hold_area, zero_area_place}
use Rattle.metadata_relation.proofs.Acting.{behind_action, reached_computed, reached_then}
use Rattle.metadata_relation.proofs.Acting.{reached_words}
use Rattle.metadata_relation.proofs.AreaPlaces.{put_most}
use Rattle.metadata_relation.proofs.AreaSteps.{area_begun, areas, charge_is, contents_left, place_here}
use Rattle.metadata_relation.proofs.Finishing.{acted_as, acted_worked, nothing_done}
use Rattle.metadata_relation.proofs.RuntimeCalls.{runtime_call, site}
use Rattle.metadata_relation.proofs.Standing.{IsNode, node, Result}

-- ---- contents of zeros

pub zeros_sound : (functions size : ℕ) (objects : Objects) → IsSoundObject functions objects
    (new_object Automatic 0 size)
unfolding new_object
zeros_sound functions size objects = sound_zeros objects (new_object Automatic 0 size) refl

pub zeros_size : (size : ℕ) → (new_object Automatic 0 size).size ≡ size
unfolding new_object
zeros_size size = refl

module _ (c : Compiled) (IsGood : Bytes → Type 0) (right : IsCompiled c IsGood)
    (have : HaveAreas c.layout.expansion.code) (u n : ℕ) (temps : Temps) (ws : List Frame) (s : State)
    (v : flat.State) (xs : List flat.Frame)
    (h : IsAt c IsGood u n temps ws s u (c.layout.address u n) v xs)
    (words : HasWords (flat.Stands u (c.layout.address u n) v xs)) where
  abbrev pc : ℕ
  pc = c.layout.address u n

  abbrev t : Tac
  t = c.layout.expansion.code

  abbrev T : (temporary : ℕ) → ℕ
  T i = temporary_register h.code i

  abbrev free : ℕ
  free = first_free h.code

  abbrev Follows : Stage → Type 0
  Follows a = Result c IsGood a (flat.Stands u (c.layout.address u n) v xs)

  abbrev body : List FlatInstruction
  body = body_of (function_in c.layout.program u)

  module _ (size d next : ℕ) (sized : 1 ≤ size)
      (at : slice_get h.code.code n ≡ Some (tac.ZeroOf (Structure size) d next))
      (may : c.layout.expansion.contents u next d ≡ true) where
    abbrev label : Instruction
    label = tac.ZeroOf (Structure size) d next

    nd : IsNode c u n h.code (tac.ZeroOf (Structure size) d next)
    nd = node c IsGood right u n temps ws s v xs h (tac.ZeroOf (Structure size) d next) at

    low : d < most_temporaries h.code.code
    low = omega (arith, nd.temporaries_low)

    abbrev paid : State
    paid = spent 1 s

    abbrev b : Bool
    b = c.layout.expansion.entries u next d

    abbrev A : ℕ
    A = area_of (map_of c) c.layout.expansion.code h.code s.charged d

    abbrev G : ℕ
    G = greatest_structure c.layout.expansion.code h.code.code d

    -- the area is for as many bytes
    within : size ≤ greatest_structure c.layout.expansion.code h.code.code d
    within =
        let most = put_most t h.code.code d n label nd.at in
        let own = ap (λ q. if q then rounded_up 16 size else 0) (eq-eqb d d refl) in
        omega (arith, most, own)

    small : 5 * greatest_structure c.layout.expansion.code h.code.code d ≤ 16777216
    small =
        let fit = (areas c IsGood right have u n temps ws s v xs h).fit (suc d) in
        let all = charge_is c IsGood right have u n temps ws s v xs h in
        let fits = h.fits in
        omega (arith, right.mapped.budgets.calls.greatest)

    place : IsAreaPlace (map_of c) size (area_of (map_of c) c.layout.expansion.code h.code s.charged d)
    place = place_here c IsGood right have u n temps ws s v xs h d size within

    abbrev z : State
    z = record s { work = paid.work + size + 3 * (paid.work + size - paid.work) }

    -- ---- the run of the block

    abbrev begin_list : List FlatInstruction
    begin_list = begin_area_code c.layout.expansion.inline.operators (map_of c) c.layout.expansion.code h.code size d
        (first_free h.code)

    abbrev constants : List FlatInstruction
    constants = c.layout.expansion.inline.operators.constant (first_free h.code + 3) size (first_free h.code + 4)

    abbrev hold_list : List FlatInstruction
    hold_list = hold_area (c.layout.expansion.entries u next d) (temporary_register h.code d) (first_free h.code)
        (first_free h.code + 1)

    abbrev call : List FlatInstruction
    call = Call (runtime_number c.layout.expansion.code zero_area_place) (first_free h.code + 2) (first_free h.code + 4)
        ∷ hold_list

    abbrev at_call : ℕ
    at_call = c.layout.address u n + length begin_list + length constants

    -- where the block stands, a structure of zeros is made
    pub zero_structure : HasAt body pc (begin_list ++ (constants ++ call))
        → Leads body (pc + length (begin_list ++ (constants ++ call))) (c.layout.address u next)
        → Follows (effect c.setting (expansion_of c).code label u temps ws paid)
    unfolding new_object
    zero_structure has on =
        let m = map_of c in
        let p = c.layout.program in
        let few = small in
        let less = within in
        let f = area_begun c IsGood right have u n temps ws s v xs h words size d within
        (has_front body pc begin_list (constants ++ call) has) in
        let q = pc + length begin_list in
        let v1 : flat.State = record v { values = f.values; work = f.work } in
        let has1 = has_back body pc begin_list (constants ++ call) has in
        let made = right.inline.operators.constant m p (record { function = u; place = q; state = v1; frames = xs })
        (free + 3)
        size (free + 4) (omega arith) (omega arith)
        (record {
          has = has_front body q constants call has1;
          words = reached_words m p u xs pc q v v1 28 words f.reached;
        }) in
        let v2 : flat.State = record v { values = made.after; work = f.work + made.work } in
        let ready = reached_computed m p u xs pc q at_call (free + 3) size (free + 4) v v1 28 5 f.reached made in
        let has2 = has_back body q constants call has1 in
        let same = λ (y : ℕ) (lt : y < free + 3). made.others y (omega arith) (λ e. omega arith) in
        let address = same free (omega arith) ∙ f.address in
        let first = same (free + 2) (omega arith) ∙ f.first in
        let begun = acted_as c IsGood right u n temps ws s v xs h (behind_action s paid) h.keys v v2.values v2.work
        (acted_worked c IsGood right u n temps ws s v xs h s h.keys v paid.work
        (nothing_done c IsGood right u n temps ws s v xs h)) in
        let site_is = site c IsGood right u n temps ws s v xs h (runtime_number c.layout.expansion.code
        zero_area_place) at_call
        (free + 2) (free + 4) v2 in
        let called = runtime_call c IsGood right u n temps ws s v xs h zero_area_place ZeroArea refl at_call (free + 2)
        (free + 4)
        v2 has2.0 in
        let served = zero_served m c.entry IsGood p site_is called.function called.of.routine called.of.code.1
        (length c.setting.functions) c.layout.expansion.types h.keys paid
        (record { calls = called.calls; is = called.of.is }) called.of.code.0 size
        (record { words = reached_words m p u xs pc at_call v v2 38 words ready; stands = begun.stands.for })
        (record {
          size_is = ap made.after (omega arith) ∙ made.gives;
          place = subst (IsAreaPlace m size) (sym first) place;
        }) in
        let w = served.holds in
        let y = w.behind.state in
        let bound = work_of_call 2 0 1 (16 + 5 * work_from (make_zero (Structure size)) paid) in
        let all = reached_then m p u xs pc at_call (at_call + 1) v v2 y 38 bound ready
        (record { steps = served.steps; comes = served.comes ∙ w.behind.at; few = w.behind.work }) in
        let one = length-append begin_list (constants ++ call) in
        let two = length-append constants call in
        let end : pc + length (begin_list ++ (constants ++ call)) ≡ at_call + 1 + length hold_list =
        omega (arith, one, two) in
        let some = sized in
        contents_left c IsGood right have u n temps ws s v xs h label nd d next free (free + 1) (at_call + 1)
        (new_object Automatic 0 size) (paid.work + size) z.work (38 + bound) y refl (inl refl) low (omega arith)
        (omega arith)
        within may all has2.1 (subst (λ q. Leads body q (c.layout.address u next)) end on)
        (w.behind.others free (inl (omega arith)) ∙ address)
        (w.behind.others (free + 1) (inl (omega arith)) ∙ same (free + 1) (omega arith) ∙ f.ends)
        w.stands
        (subst (λ a. IsArea (views c) h.keys (new_object Automatic 0 size) a y.memory) first w.area)
        (subst (λ a. KeepsBut a (area_bytes size) v.memory y.memory) first w.beside) w.behind.turns
        (λ r lt. w.behind.others r (inl (omega arith)) ∙ same r (omega arith) ∙ f.others r lt)
        (zeros_sound (length c.setting.functions) size s.objects) (omega (arith, some))
