-- The object of a variable that becomes zero where it has an initializer.
use Rattle.std.proofs.Common.{◌≡◌, inl, ℕ, suc, ◌+◌, ◌-◌, ◌*◌, ◌<◌, ◌≤◌, true, List, [], ◌∷◌, ◌++◌, length}
use Rattle.std.proofs.Common.{length-append, get_or, Some, refl, sym, ap, ◌∙◌, subst, arith}
use Rattle.std.specs.Prelude.{slice_get}
use Rattle.obj_memory.specs.Objects.{object_at, with_zeroed}
use Rattle.c_tree.specs.Kinds.{size_of_kind}
use Rattle.c_tree.specs.Valid.{at_number}
use Rattle.source_meaning.specs.State.{State, Home, NoObject, InObject, Gives, on}
use Rattle.source_meaning.specs.Actions.{integer}
use Rattle.source_meaning.specs.Initializers.{zero_home, zero_variable}
use Rattle.source_meaning.specs.Good.{After, Any, Leaves}
use Rattle.source_meaning.proofs.SureActions.{sure_zero_variable}
use Rattle.tac_ir.specs.declared.instruction.Instruction.{Instruction}
use Rattle.tac_ir.specs.declared.instruction.Instruction.TheVariants as tac
use Rattle.tac_ir.specs.Accesses.{is_home, only_if}
use Rattle.tac_ir.specs.Costs.{fourfold, heavier, spent}
use Rattle.tac_ir.specs.Meaning.{effect}
use Rattle.tac_ir.specs.Stage.{came, Frame, Stage, Stands, Stuck, Temps}
use Rattle.tac_ir.proofs.Fits.{only_true}
use Rattle.flat_code.specs.declared.instruction.FlatInstruction.{FlatInstruction}
use Rattle.flat_code.specs.declared.instruction.FlatInstruction.TheVariants.{Call, Move}
use Rattle.flat_code.specs.Calls.{function_in}
use Rattle.flat_code.specs.Meaning.{body_of}
use Rattle.flat_code.specs.Memory.{Bytes, put}
use Rattle.flat_code.specs.State as flat
use Rattle.flat_code.specs.Words.{HasWords}
use Rattle.flat_code.proofs.Stored.{put_other, put_same}
use Rattle.flat_code.specs.Routines.Routine.{HasAt}
use Rattle.flat_code.proofs.Routines.Steps.{has_back, has_front}
use Rattle.flat_actions.specs.Actions.{Nowhere}
use Rattle.runtime_functions.specs.declared.runtime.RuntimeFunction.TheVariants.{Zero}
use Rattle.runtime_functions.specs.Actions.{steps_of, work_of_call}
use Rattle.runtime_functions.specs.Zeroing.{zeroing, zeroing_interface}
use Rattle.runtime_functions.proofs.ZeroCalls.{zero_served}
use Rattle.metadata_plan.specs.Expanded.{Leads}
use Rattle.metadata_plan.specs.Registers.{all_variables}
use Rattle.metadata_plan.proofs.Flat.{move_comes}
use Rattle.metadata_relation.specs.Blocks.{runtime_number, zero_place}
use Rattle.metadata_relation.specs.Holding.{IsHome}
use Rattle.metadata_relation.specs.Registers.{first_free, home_register}
use Rattle.metadata_relation.specs.Scopes.{context_at}
use Rattle.metadata_relation.specs.Stages.{Compiled, expansion_of, IsAt, map_of, names, world}
use Rattle.metadata_relation.specs.Steps.{IsCompiled}
use Rattle.metadata_relation.proofs.Acting.{acts_alone, behind_action, reached_by, reached_computed, reached_then}
use Rattle.metadata_relation.proofs.Acting.{reached_words}
use Rattle.metadata_relation.proofs.Finishing.{acted_as, acted_then, acted_worked, ends_with, nothing_done}
use Rattle.metadata_relation.proofs.RuntimeCalls.{completes, runtime_call, site}
use Rattle.metadata_relation.proofs.Standing.{good_now, IsNode, node, Result}
use Rattle.metadata_relation.proofs.StoredParts.{home_address}

module _ (c : Compiled) (IsGood : Bytes → Type 0) (right : IsCompiled c IsGood) (u n : ℕ) (temps : Temps)
    (ws : List Frame) (s : State) (v : flat.State) (xs : List flat.Frame)
    (h : IsAt c IsGood u n temps ws s u (c.layout.address u n) v xs)
    (words : HasWords (flat.Stands u (c.layout.address u n) v xs)) where
  abbrev pc : ℕ
  pc = c.layout.address u n

  abbrev free : ℕ
  free = first_free h.code

  abbrev Follows : Stage → Type 0
  Follows a = Result c IsGood a (flat.Stands u (c.layout.address u n) v xs)

  abbrev body : List FlatInstruction
  body = body_of (function_in c.layout.program u)

  module _ (x next : ℕ) (at : slice_get h.code.code n ≡ Some (tac.Zero x next)) where
    abbrev label : Instruction
    label = tac.Zero x next

    nd : IsNode c u n h.code (tac.Zero x next)
    nd = node c IsGood right u n temps ws s v xs h (tac.Zero x next) at

    abbrev paid : State
    paid = spent 3 s

    abbrev H : ℕ
    H = home_register h.code x

    abbrev bytes : ℕ
    bytes = size_of_kind (at_number (all_variables h.code) x).kind

    module _ (o : ℕ) (home : get_or s.frame x NoObject ≡ InObject o) (live : (object_at s.objects o).is_live ≡ true) where
      abbrev size : ℕ
      size = (object_at s.objects o).size

      home_is : IsHome (world c h.keys s v) o (home_register h.code x) v.values
      home_is = h.holds.homes.homes x o home

      size_is : (object_at s.objects o).size ≡ size_of_kind (at_number (all_variables h.code) x).kind
      size_is = h.holds.homes.sizes x o home

      some : 1 ≤ (object_at s.objects o).size
      some = h.steady.bytes.some o live (h.holds.homes.automatic x o home)

      object_low : (object_at s.objects o).address + (object_at s.objects o).size ≤ 1610612736
      object_low = (good_now (names c) u ws s h.steady.good).low o

      -- the state behind it, and what the instruction makes of it
      abbrev zeroed : State
      zeroed = record paid { work = paid.work + size; objects = with_zeroed o s.objects }

      zeroes : zero_variable x paid ≡ Gives tt zeroed
      zeroes = ap (λ m. zero_home m paid) home

      leaves : Leaves (context_at (names c) u ws) paid zeroed
      leaves =
          let sc = context_at (names c) u ws in
          (subst (λ e. After sc paid (λ done. Any) e) zeroes
          ((sure_zero_variable x).by paid (good_now (names c) u ws s h.steady.good) tt)).0

      abbrev constants : List FlatInstruction
      constants = c.layout.expansion.inline.operators.constant (free + 1) bytes (free + 2)

      abbrev call : List FlatInstruction
      call = Call (runtime_number c.layout.expansion.code zero_place) free (free + 2) ∷ []

      abbrev at_call : ℕ
      at_call = c.layout.address u n + 1 + length constants

      stands : HasAt body pc (Move free H ∷ (constants ++ call))
          → Leads body (pc + suc (length (constants ++ call))) (c.layout.address u next)
          → Follows (Stands u next temps ws (record zeroed { work = zeroed.work + 3 * (zeroed.work - paid.work) }))
      stands has on =
          let m = map_of c in
          let p = c.layout.program in
          let low = object_low in
          let bytes_are = size_is in
          let a_byte = some in
          let first = move_comes m p u pc v xs free H has.0 in
          let v1 : flat.State = record v { values = put v.values free (v.values H); work = v.work + first.work } in
          let moved = reached_by m p u xs pc (pc + 1) v (record v { values = put v.values free (v.values H) }) 2 first in
          let made = right.inline.operators.constant m p (record { function = u; place = pc + 1; state = v1; frames = xs })
          (free + 1) bytes (free + 2) (omega arith) (omega arith)
          (record {
            has = has_front body (pc + 1) constants call has.1;
            words = reached_words m p u xs pc (pc + 1) v v1 2 words moved;
          }) in
          let v2 : flat.State = record v { values = made.after; work = v1.work + made.work } in
          let come = reached_computed m p u xs pc (pc + 1) at_call (free + 1) bytes (free + 2) v v1 2 5 moved made in
          let begun = acted_as c IsGood right u n temps ws s v xs h (behind_action s paid) h.keys v v2.values v2.work
          (acted_worked c IsGood right u n temps ws s v xs h s h.keys v paid.work
          (nothing_done c IsGood right u n temps ws s v xs h)) in
          let same = λ (r : ℕ) (lt : r < free). made.others r (omega arith) (λ e. omega arith)
          ∙ put_other v.values free (v.values H) r (λ e. omega arith) in
          let at_first : v2.values (free + 0) ≡ (object_at s.objects o).address =
          ap v2.values (omega arith) ∙ made.others free (omega arith) (λ e. omega arith)
          ∙ put_same v.values free (v.values H) ∙ home_address (world c h.keys s v) o H v.values home_is in
          let site_is = site c IsGood right u n temps ws s v xs h (runtime_number c.layout.expansion.code zero_place) at_call
          free (free + 2) v2 in
          let called = runtime_call c IsGood right u n temps ws s v xs h zero_place Zero refl at_call free (free + 2) v2
          (has_back body (pc + 1) constants call has.1).0 in
          let vs = integer (object_at s.objects o).address ∷ integer bytes ∷ [] in
          let served = zero_served m right.mapped c.entry IsGood p site_is called.function called.of called.calls o
          (length c.setting.functions) c.layout.expansion.types h.keys paid vs 1
          (record {
            words = reached_words m p u xs pc at_call v v2 12 words come;
            stands = begun.stands.for;
            held = (at_first, (made.gives, tt));
          })
          (record { live = live; address = refl; size = sym size_is }) in
          let d = completes c IsGood h.keys zeroing_interface site_is 2 0 1 paid (zeroing o 1 vs) served (integer 0) zeroed refl in
          let y = d.state in
          let bound = work_of_call 2 0 1 (steps_of zeroing_interface (zeroing o 1 vs) paid) in
          let acted = acted_then c IsGood right u n temps ws s v xs h Nowhere (free + 2) paid.work (integer 0) paid zeroed
          h.keys v2 y begun d.given leaves h.steady.keys in
          let z = record zeroed { work = zeroed.work + 3 * (zeroed.work - paid.work) } in
          let all = reached_then m p u xs pc at_call (at_call + 1) v v2 y 12 bound come d.reached in
          let e = ends_with c IsGood right u n temps ws s v xs h (at_call + 1) (12 + bound) 0 next y [] all
          (record { assign = refl; few = omega arith }) tt
          (subst (λ q. Leads body q (c.layout.address u next)) (omega (arith, length-append constants call)) on) in
          acts_alone c IsGood right u n temps ws s v xs h label nd next z d.given.keys
          (record y { values = y.values; work = e.0 }) (12 + bound + 2 * 0 + 2) refl (inl refl) e.1
          (acted_as c IsGood right u n temps ws s v xs h z d.given.keys y y.values e.0
          (acted_worked c IsGood right u n temps ws s v xs h zeroed d.given.keys y z.work acted))
          (λ r lt. d.given.others r (omega arith) tt ∙ same r lt) (omega arith)

    -- ---- the step

    abbrev Behind : Stage
    Behind = came (heavier (zero_variable x) paid) (λ _ z. Stands u next temps ws z)

    by_home : (m : Home) → get_or s.frame x NoObject ≡ m
        → (only_if (is_home m s.objects) Behind ≡ Stuck → ⊥) → Follows (only_if (is_home m s.objects) Behind)
    by_home NoObject home fine = absurd (fine refl)
    by_home (InObject o) home fine =
        let t = only_true (object_at s.objects o).is_live Behind fine in
        subst Follows (sym (t.1 ∙ ap (λ q. came (fourfold paid.work q) (λ _ z. Stands u next temps ws z)) (zeroes o home t.0)))
        (stands o home t.0 nd.put.has nd.put.leads)

    pub zero_step : (effect c.setting (expansion_of c).code label u temps ws paid ≡ Stuck → ⊥)
        → Follows (effect c.setting (expansion_of c).code label u temps ws paid)
    zero_step fine = by_home (get_or s.frame x NoObject) refl fine
