-- A function returns: the objects of its body die, what waits goes on, and its caller's state is good again.
use Rattle.std.proofs.Common.{◌≡◌, ◌⊎◌, inl, inr, ℕ, ◌+◌, ◌-◌, ◌*◌, ◌<◌, ◌≤◌, Bool, true, false, List, []}
use Rattle.std.proofs.Common.{◌∷◌, ◌++◌, length, Some, refl, sym, ap, ◌∙◌, subst, arith, le-leb}
use Rattle.std.specs.Prelude.{slice_get, nat_le, nat_lt, ◌&&◌, if◌then◌else◌}
use Rattle.std.proofs.lemmas.Bool.{and_from, lt-leb, lt-ltb, le-ltb}
use Rattle.addr_map.specs.Places.{MapSizes}
use Rattle.obj_memory.specs.Objects.{object_at, Objects}
use Rattle.obj_memory.proofs.Continuing.{continues_then}
use Rattle.source_meaning.specs.State.{State, Home, NoObject, InObject}
use Rattle.source_meaning.specs.Blocks.{has_objects, without_homes}
use Rattle.source_meaning.specs.Calls.{back_to}
use Rattle.source_meaning.specs.Good.{Leaves}
use Rattle.source_meaning.specs.Places.{stack_first}
use Rattle.tac_ir.specs.declared.instruction.Instruction.TheVariants as tac
use Rattle.tac_ir.specs.Stage.{Temps, Waiting, Frame}
use Rattle.tac_ir.specs.Costs.{handing, spent}
use Rattle.tac_ir.specs.Meaning.{objects_before}
use Rattle.flat_code.specs.declared.instruction.FlatInstruction.{FlatInstruction}
use Rattle.flat_code.specs.declared.instruction.FlatInstruction.TheVariants as flat_code
use Rattle.flat_code.specs.declared.function.FlatProgram.{FlatProgram}
use Rattle.flat_code.specs.Memory.{Bytes}
use Rattle.flat_code.specs.State as flat
use Rattle.flat_code.specs.Words.{HasWords}
use Rattle.flat_code.specs.Calls.{function_in, with_results}
use Rattle.flat_code.specs.Meaning.{body_of, step, results_of, instruction_at}
use Rattle.flat_code.specs.Routines.Routine.{HasAt}
use Rattle.flat_code.proofs.Routines.Steps.{has_back, has_front}
use Rattle.lib_wrappers.specs.AllocatingRoutines.Premises.{HaveBytes}
use Rattle.metadata_plan.specs.Registers.{most_temporaries}
use Rattle.metadata_plan.proofs.Flat.{one}
use Rattle.metadata_relation.specs.Blocks.{objects_of_body, result_of, leave_code}
use Rattle.metadata_relation.specs.Holding.{GoesOn, World}
use Rattle.metadata_relation.specs.Registers.{result_words, temporary_register}
use Rattle.metadata_relation.specs.Scopes.{IsInCall, AreGoodBy, AreGood, context_at}
use Rattle.metadata_relation.specs.Stages.{Compiled, map_of, views, names, world, expansion_of}
use Rattle.metadata_relation.specs.Stages.{IsAt, IsSteady, StandsIn}
use Rattle.metadata_relation.specs.Steps.{IsCompiled}
use Rattle.metadata_relation.specs.Waiting.{AreNoObjects, BodyBy, IsBodyAs, IsWaitingAs}
use Rattle.metadata_relation.specs.Waiting.{AllWait}
use Rattle.metadata_relation.proofs.CallStates.{left_good}
use Rattle.metadata_relation.proofs.Entering.{there}
use Rattle.metadata_relation.proofs.Holding.{same_world}
use Rattle.metadata_relation.proofs.LeftObjects.{HasLeftObjects, leaves_objects, without}
use Rattle.metadata_relation.proofs.Standing.{good_now, good_then, good_counted, IsNode, node}
use Rattle.metadata_relation.proofs.Waiting.{lock_same, waits_by}

-- ---- results in registers

pub in_results : (into n from y : ℕ) (results values : flat.Values) → into ≤ y → y < into + n
    → with_results into n results from values y ≡ results (from + (y - into))
in_results into n from y results values low high =
    ap (λ b. if b then results (from + (y - into)) else values y)
    (and_from (nat_le into y) (nat_lt y (into + n)) (le-leb into y low) (lt-ltb y (into + n) high))

pub out_results : (into n from y : ℕ) (results values : flat.Values) → (y < into) ⊎ (into + n ≤ y)
    → with_results into n results from values y ≡ values y
out_results into n from y results values (inl below) =
    ap (λ b. if b && nat_lt y (into + n) then results (from + (y - into)) else values y) (lt-leb into y below)
out_results into n from y results values (inr above) =
    by (nat_le into y) (nat_lt y (into + n)) (le-ltb y (into + n) above)
  where
    by : (a b : Bool) → b ≡ false → (if a && b then results (from + (y - into)) else values y) ≡ values y
    by true true e = cc
    by true false e = refl
    by false b e = refl

pub returns_by : (m : MapSizes) (p : FlatProgram) (u q : ℕ) (v : flat.State) (x : flat.Frame) (xs : List flat.Frame)
    (y n : ℕ) → instruction_at p u q ≡ Some (flat_code.Return y) → results_of (function_in p u) ≡ n
    → step m p (flat.Stands u q v (x ∷ xs)) ≡ flat.Stands x.function x.next
    (record v { values = with_results x.into n v.values y x.values; work = v.work + (8 + 2 * n) }) xs
returns_by m p u q v x xs y n at results =
    one m p u q v (x ∷ xs) (flat_code.Return y) at
    ∙ ap (λ n. flat.Stands x.function x.next
    (record v { values = with_results x.into n v.values y x.values; work = v.work + (8 + 2 * n) }) xs) results

-- ---- homes

none_die : (homes : List Home) (objects : Objects) → AreNoObjects homes → without_homes homes objects ≡ objects
none_die [] objects h = refl
none_die (NoObject ∷ homes) objects h = none_die homes objects h
none_die (InObject o ∷ homes) objects h = absurd h

module _ (c : Compiled) (IsGood : Bytes → Type 0) (right : IsCompiled c IsGood) (u n : ℕ) (temps : Temps)
    (ws : List Frame) (s : State) (v : flat.State) (xs : List flat.Frame)
    (h : IsAt c IsGood u n temps ws s u (c.layout.address u n) v xs)
    (as_words : HasWords (flat.Stands u (c.layout.address u n) v xs)) (a : ℕ)
    (at : slice_get h.code.code n ≡ Some (tac.Return a)) where
  abbrev pc : ℕ
  pc = c.layout.address u n

  abbrev m : MapSizes
  m = map_of c

  abbrev p : FlatProgram
  p = c.layout.program

  abbrev body : List FlatInstruction
  body = body_of (function_in c.layout.program u)

  abbrev r : ℕ
  r = temporary_register h.code a

  pub label : IsNode c u n h.code (tac.Return a)
  label = node c IsGood right u n temps ws s v xs h (tac.Return a) at

  pub low : a < most_temporaries h.code.code
  low = omega (arith, label.temporaries_low)

  -- ---- the objects of the body

  -- where the value is handed over these are dead, and the object stack ends where it did before the call
  pub record IsLeft (outer mark : ℕ) : Type 0 where
    pub at_return : ℕ
    pub state : flat.State
    pub objects : HasLeftObjects c IsGood u n temps ws s v xs h s.frame outer mark at_return state
    pub here : instruction_at c.layout.program u at_return ≡ Some (flat_code.Return (temporary_register h.code a))

  abbrev leave : List FlatInstruction
  leave = leave_code c.layout.expansion.inline (map_of c) h.code (objects_of_body h.code)

  abbrev hands_over : List FlatInstruction
  hands_over = flat_code.Return (temporary_register h.code a) ∷ []

  abbrev IsBody : (outer : ℕ) → Type 0
  IsBody outer = IsBodyAs (world c h.keys s v) s h.code s.stacked outer (length s.objects) s.frame v.values

  none_left : (outer : ℕ) (b : IsBody outer) → has_objects (objects_of_body h.code) ≡ false → IsLeft outer b.mark
  none_left outer b none =
      let is = subst (BodyBy (world c h.keys s v) s h.code s.stacked outer s.frame v.values) none b.by in
      let same : s.objects ≡ without_homes s.frame s.objects = sym (none_die s.frame s.objects is.1) in
      record {
        at_return = pc;
        state = v;
        objects = record {
          reached = record { steps = 0; comes = refl; few = omega arith };
          stands = subst (λ o. StandsIn c IsGood h.keys (record s { objects = o; stacked = outer }) v) same
              (subst (λ t. StandsIn c IsGood h.keys (record s { stacked = t }) v) is.0 h.stands);
          goes = subst (λ o. GoesOn (views c) h.keys h.keys s.objects o v.memory v.memory) same
              (same_world (views c) h.keys s.objects v.memory);
          same = λ y lt. refl;
          live = λ o lt live held. ap (λ q. (object_at q o).is_live) (sym same) ∙ live;
          locks = λ others lock below of. lock_same h.keys s (without s.frame outer s) (sym same) others lock of;
          bytes = subst HaveBytes same h.steady.bytes;
          statics_live = λ q lt. ap (λ i. (object_at i q).is_live) (sym same) ∙ h.steady.statics_live q lt;
        };
        here = (subst (λ i. HasAt body pc ((if i then leave else []) ++ hands_over)) none label.put.has).0;
      }

  some_left : (outer : ℕ) (b : IsBody outer) → has_objects (objects_of_body h.code) ≡ true → IsLeft outer b.mark
  some_left outer b some =
      let has = subst (λ i. HasAt body pc ((if i then leave else []) ++ hands_over)) some label.put.has in
      let t = leaves_objects c IsGood right u n temps ws s v xs h as_words (objects_of_body h.code)
      outer s.frame
      (subst (BodyBy (world c h.keys s v) s h.code s.stacked outer s.frame v.values) some b.by) b.mark b.own
      (has_front body pc leave hands_over has) in
      record {
        at_return = pc + length leave;
        state = t.0;
        objects = t.1;
        here = (has_back body pc leave hands_over has).0;
      }

  pub left_of : (outer : ℕ) (b : IsBody outer) → IsLeft outer b.mark
  left_of outer b = by (has_objects (objects_of_body h.code)) refl
    where
      by : (i : Bool) → has_objects (objects_of_body h.code) ≡ i → IsLeft outer b.mark
      by false e = none_left outer b e
      by true e = some_left outer b e

  pub results : results_of (function_in c.layout.program u) ≡ result_words (result_of c.layout.expansion.code h.code)
  results = (there c IsGood right u h.code h.there).results

  -- the state once the value is handed on
  abbrev pub handed : State
  handed = spent (handing (temps a)) (spent 3 s)

  module _ (w : Waiting) (others : List Frame) (x : flat.Frame) (rest : List flat.Frame) (alike : xs ≡ x ∷ rest)
      (body_is : IsBodyAs (world c h.keys s v) s h.code s.stacked w.caller.stacked (length s.objects) s.frame v.values)
      (k : IsWaitingAs (world c h.keys s v) c.layout h.code body_is.mark w x rest)
      (wait : AllWait (world c h.keys s v) s c.layout (stack_first c.setting) (record {
        code = k.code;
        values = x.values;
        stacked = w.caller.stacked;
        frame = w.caller.frame;
        bound = body_is.mark;
      }) others rest)
      (inside : IsInCall (names c) u w s) (good_rest : AreGoodBy (names c) w.function others inside.before) where
    pub out : IsLeft w.caller.stacked body_is.mark
    out = left_of w.caller.stacked body_is

    abbrev pub left : State
    left = without s.frame w.caller.stacked s

    abbrev pub left_world : World
    left_world = world c h.keys left out.state

    -- what waits goes on
    pub others_wait : AllWait left_world left c.layout (stack_first c.setting) (record {
      code = k.code;
      values = x.values;
      stacked = w.caller.stacked;
      frame = w.caller.frame;
      bound = body_is.mark;
    }) others rest
    others_wait =
        waits_by (views c) h.keys h.keys s left v.memory out.state.memory c.layout (stack_first c.setting) body_is.mark
        out.objects.goes out.objects.live out.objects.locks (record {
          code = k.code;
          values = x.values;
          stacked = w.caller.stacked;
          frame = w.caller.frame;
          bound = body_is.mark;
        }) others rest (omega arith) wait

    -- the caller's state
    abbrev pub back_there : State
    back_there = back_to w.caller handed

    pub good : AreGood (names c) w.function others back_there
    good =
        let on = left_good c IsGood right u h.code h.there w.function others inside.before inside.behind s
        (good_now (names c) w.function others inside.before (record { by = good_rest })) inside.set_up inside.since in
        let back = good_then (names c) w.function others inside.before (back_to w.caller s)
        (subst (λ z. Leaves (context_at (names c) w.function others) inside.before (back_to z s)) (sym inside.caller_is) on)
        (record { by = good_rest }) in
        good_counted (names c) w.function others (back_to w.caller s) s.input s.output s.taken s.turns
        (s.work + 3 + handing (temps a)) back

    pub steady : IsSteady c w.function others back_there
    steady = record {
      good = good;
      bytes = out.objects.bytes;
      keys = h.steady.keys;
      statics = continues_then (objects_before (expansion_of c).code c.setting) s.objects left.objects
          h.steady.statics out.objects.goes.continues;
      statics_live = out.objects.statics_live;
    }
