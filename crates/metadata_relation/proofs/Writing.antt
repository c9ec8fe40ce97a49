-- Scalars that are written through the word of a temporary.
use Rattle.std.proofs.Common.{◌≡◌, inl, ℕ, ◌+◌, ◌-◌, ◌*◌, ◌<◌, ◌≤◌, Bool, true, false, List, [], ◌∷◌, ◌++◌}
use Rattle.std.proofs.Common.{length, length-append, Option, Some, refl, sym, ap, ◌∙◌, subst, arith}
use Rattle.std.specs.Prelude.{slice_get, ◌&&◌}
use Rattle.std.proofs.lemmas.Bool.{and_parts, eq-eqb}
use Rattle.obj_memory.specs.declared.value.Scalar.{Scalar}
use Rattle.obj_memory.specs.declared.value.Scalar.TheVariants.{Integer, Pointer}
use Rattle.obj_memory.specs.declared.value.Value.{Value}
use Rattle.obj_memory.specs.Access.{scalar_size}
use Rattle.obj_memory.specs.Judgement.{place_in}
use Rattle.obj_memory.specs.Sound.{IsSoundTag}
use Rattle.c_tree.specs.declared.expression.Kind.TheVariants.{Scalar as OfScalar}
use Rattle.source_meaning.specs.State.{State, Rvalue, done, on, ◌>>◌}
use Rattle.source_meaning.specs.Actions.{integer, store, write_scalar}
use Rattle.source_meaning.specs.Good.{After, Context, function_count, IsGood as IsGoodState, IsTagged, Leaves, OnValue}
use Rattle.source_meaning.specs.Keeping.{IsDirect}
use Rattle.source_meaning.specs.Library.{argument}
use Rattle.source_meaning.specs.Structures.{give, rvalue, write_rvalue}
use Rattle.source_meaning.proofs.SureActions.{sure_store}
use Rattle.tac_ir.specs.declared.instruction.Instruction.{Instruction}
use Rattle.tac_ir.specs.declared.instruction.Instruction.TheVariants as tac
use Rattle.tac_ir.specs.declared.instruction.Mode.{Mode}
use Rattle.tac_ir.specs.Accesses.{admitted, is_place, is_through}
use Rattle.tac_ir.specs.Costs.{cost, fourfold, heavier, spent}
use Rattle.tac_ir.specs.Fitting.{is_of_type, is_scalar_of}
use Rattle.tac_ir.specs.Meaning.{effect, function_in as code_in, given_in, keyed, keys_of}
use Rattle.tac_ir.specs.Stage.{came, Frame, Stage, Stands, Stuck, Temps, with_temp}
use Rattle.flat_code.specs.declared.instruction.FlatInstruction.{FlatInstruction}
use Rattle.flat_code.specs.declared.instruction.FlatInstruction.TheVariants.{Move}
use Rattle.flat_code.specs.Calls.{function_in}
use Rattle.flat_code.specs.Meaning.{body_of}
use Rattle.flat_code.specs.Memory.{Bytes}
use Rattle.flat_code.specs.State as flat
use Rattle.flat_code.specs.Words.{IsOfWords}
use Rattle.flat_code.specs.Routines.Objects.StandsFor.{Keys}
use Rattle.flat_code.specs.Routines.Registers.{AreBelow}
use Rattle.flat_code.specs.Routines.Routine.{HasAt}
use Rattle.flat_code.proofs.Routines.Steps.{has_back, has_front}
use Rattle.flat_actions.specs.Actions.{HasGiven, IsFor, IsHeldBy, Nowhere, registers_of, Word}
use Rattle.flat_actions.proofs.Standing.{for_worked}
use Rattle.lib_wrappers.specs.declared.accesses.held.HeldScalar.{HeldScalar}
use Rattle.lib_wrappers.specs.declared.accesses.held.HeldScalar.TheVariants.{Integer as HeldInteger}
use Rattle.lib_wrappers.specs.declared.accesses.held.HeldScalar.TheVariants.{Pointer as HeldPointer}
use Rattle.lib_wrappers.specs.AccessRoutines.Accessing.{IsToAccess, store_steps}
use Rattle.lib_wrappers.specs.AccessRoutines.Holding.{holder_in, scalar_in}
use Rattle.runtime_functions.specs.Library.{held_from}
use Rattle.metadata_plan.specs.Entries.{is_moved_with_entry, reads_entry}
use Rattle.metadata_plan.specs.Expanded.{Leads}
use Rattle.metadata_plan.specs.Registers.{most_temporaries}
use Rattle.metadata_relation.specs.Blocks.{held_scalar, move_value, untagged, write_code}
use Rattle.metadata_relation.specs.Holding.{HasNoTag, is_pointer_type, IsHeldAt, World}
use Rattle.metadata_relation.specs.Registers.{first_free, temporary_register}
use Rattle.metadata_relation.specs.Scopes.{context_at}
use Rattle.metadata_relation.specs.Stages.{Compiled, expansion_of, factor, IsAt, map_of, names, views, world}
use Rattle.metadata_relation.specs.Steps.{IsCompiled, is_settled}
use Rattle.metadata_relation.proofs.Accesses.{behind_write, found, keyed_opens, stored}
use Rattle.metadata_relation.proofs.Acting.{acts_giving}
use Rattle.metadata_relation.proofs.Assigning.{assigned}
use Rattle.metadata_relation.proofs.Finishing.{acted_as, acted_then, AreFew, ends_with, integer_few, integer_moved}
use Rattle.metadata_relation.proofs.Finishing.{IsPlacedIn, move_few, nothing_done, tagged_in, value_moved}
use Rattle.metadata_relation.proofs.FiveRegisters.{below}
use Rattle.metadata_relation.proofs.Holding.{held_on}
use Rattle.metadata_relation.proofs.Moving.{held_of, temporary_apart}
use Rattle.metadata_relation.proofs.Reading.{plain_operand}
use Rattle.metadata_relation.proofs.Registers.{few_in, temporaries_apart, temporary_free}
use Rattle.metadata_relation.proofs.Routines.{action_passes, Passes}
use Rattle.metadata_relation.proofs.Setting.{no_tag_is, place_is}
use Rattle.metadata_relation.proofs.Standing.{good_now, IsNode, node, Result}

-- ---- a scalar in registers

-- with the entry that its kind has
pub with_entry_of : (w : World) (k : Scalar) (b : Bool) (value : Value) (r : ℕ) (values : flat.Values)
    → (is_pointer_type k ≡ true → b ≡ true) → IsHeldAt w b value r values → IsHeldAt w (is_pointer_type k) value r values
with_entry_of w k b value r values more h =
    record { word = h.word; entry = λ e. h.entry (more e); sound = h.sound }

moved_pointer : (k : Scalar) → is_pointer_type k ≡ true → is_moved_with_entry (OfScalar k) ≡ true
moved_pointer (Integer t) e = cc
moved_pointer Pointer e = refl

-- ---- good states

pub leaves_any : (sc : Context) (s z : State) (w w' : ℕ) → Leaves sc (record s { work = w }) z
    → Leaves sc s (record z { work = w' })
leaves_any sc s z w w' l = record { good = l.good; lives = l.lives; frame = l.frame; ended = l.ended }

-- a write to a live object leaves a good state
leaves_store : (sc : Context) (s : State) (k : Scalar) (p v : Value) (d : IsDirect s.objects p (scalar_size k))
    → IsGoodState sc s → IsSoundTag (function_count sc) s.objects p.tag → IsSoundTag (function_count sc) s.objects v.tag
    → Leaves sc s (behind_write k p (place_in s.objects d.object p.word) v s)
leaves_store sc s k p v d good to sound =
    (subst (λ o. After sc s (λ done o. IsTagged (function_count sc) v o) o) (stored k p v 0 s d)
    ((sure_store OnValue k p 0 v).by s good (sound, (to, d)))).0

module _ (c : Compiled) (IsGood : Bytes → Type 0) (right : IsCompiled c IsGood) (u n : ℕ) (temps : Temps)
    (ws : List Frame) (s : State) (v : flat.State) (xs : List flat.Frame)
    (h : IsAt c IsGood u n temps ws s u (c.layout.address u n) v xs) where
  -- the same for the state in which a run stands
  pub leaves_write : (z : State) (w w' : ℕ) (k : Scalar) (p value : Value)
      (d : IsDirect z.objects p (scalar_size k)) → IsGoodState (context_at (names c) u ws) z
      → IsSoundTag (views c).functions z.objects p.tag → IsSoundTag (views c).functions z.objects value.tag
      → Leaves (context_at (names c) u ws) z
      (record (behind_write k p (place_in z.objects d.object p.word) value z) { work = w' })
  leaves_write z w w' k p value d good to sound =
      let sc = context_at (names c) u ws in
      leaves_any sc z (behind_write k p (place_in z.objects d.object p.word) value z) z.work w'
      (leaves_store sc z k p value d good (tagged_in c IsGood right u n temps ws s v xs h z.objects p to)
      (tagged_in c IsGood right u n temps ws s v xs h z.objects value sound))

-- ---- the list that stores

module _ (c : Compiled) (IsGood : Bytes → Type 0) (right : IsCompiled c IsGood) (u : ℕ) (code : _)
    (there : slice_get c.layout.expansion.code.functions u ≡ Some code) (xs : List flat.Frame) where
  -- a scalar that registers hold is stored through another
  pub held_passes : (from : HeldScalar) (address scratch : ℕ)
      → AreBelow scratch (address ∷ registers_of (holder_in from)) → (pc : ℕ) (v : flat.State)
      → HasAt (body_of (function_in c.layout.program u)) pc (c.layout.expansion.inline.store address from scratch)
      → IsOfWords v → (keys : Keys) (s : State) (p value : Value) → IsFor (views c) keys IsGood s v
      → v.values address ≡ p.word → IsHeldBy (views c) keys s.objects (holder_in from) value v.values
      → (d : IsDirect s.objects p (scalar_size (scalar_in from)))
      → Passes (map_of c) c.layout.program (record { function = u; place = pc; state = v; frames = xs })
      (pc + length (c.layout.expansion.inline.store address from scratch)) (2 * store_steps from)
      (λ after. HasGiven (views c) keys IsGood Nowhere scratch s v (integer 0)
      (behind_write (scalar_in from) p (place_in s.objects d.object p.word) value s) after)
  held_passes from address scratch under pc v has words keys s p value for to held d =
      action_passes c IsGood right u code there xs (IsToAccess from)
      (λ vs. store (scalar_in from) false (argument 0 vs) 0 (argument 1 vs) >> done (integer 0))
      (Word address ∷ holder_in from ∷ []) Nowhere scratch (store_steps from)
      (c.layout.expansion.inline.store address from scratch)
      (right.inline.store address from scratch under 0) (right.inline.computes.store address from scratch under) pc v
      (record { has = has; words = words }) keys s (p ∷ value ∷ []) for (to, (held, tt)) d (integer 0)
      (behind_write (scalar_in from) p (place_in s.objects d.object p.word) value s)
      (ap (λ o. on o (λ _. done (integer 0))) (stored (scalar_in from) p value 0 s d))

  -- the registers are those of a value
  pub store_passes : (k : Scalar) (address r scratch : ℕ) → address < scratch → r + 5 ≤ scratch
      → (pc : ℕ) (v : flat.State)
      → HasAt (body_of (function_in c.layout.program u)) pc
      (c.layout.expansion.inline.store address (held_scalar k r) scratch)
      → IsOfWords v → (keys : Keys) (s : State) (p value : Value) → IsFor (views c) keys IsGood s v
      → v.values address ≡ p.word
      → IsHeldAt (record { views = views c; keys = keys; objects = s.objects; memory = v.memory }) (is_pointer_type k)
      value r v.values
      → (d : IsDirect s.objects p (scalar_size k))
      → Passes (map_of c) c.layout.program (record { function = u; place = pc; state = v; frames = xs })
      (pc + length (c.layout.expansion.inline.store address (held_scalar k r) scratch))
      (2 * store_steps (held_scalar k r))
      (λ after. HasGiven (views c) keys IsGood Nowhere scratch s v (integer 0)
      (behind_write k p (place_in s.objects d.object p.word) value s) after)
  store_passes (Integer t) address r scratch low room pc v has words keys s p value for to held d =
      held_passes (HeldInteger t r) address scratch (low, (omega arith, tt)) pc v has words keys s p value for to held.word d
  store_passes Pointer address r scratch low room pc v has words keys s p value for to held d =
      held_passes (HeldPointer (held_from r)) address scratch (low, below r scratch room) pc v has words keys s p value for
      to (held.entry refl, held.sound) d

-- ---- an assignment

module _ (c : Compiled) (IsGood : Bytes → Type 0) (right : IsCompiled c IsGood) (u n : ℕ) (temps : Temps)
    (ws : List Frame) (s : State) (v : flat.State) (xs : List flat.Frame)
    (h : IsAt c IsGood u n temps ws s u (c.layout.address u n) v xs) (words : IsOfWords v) where
  abbrev pc : ℕ
  pc = c.layout.address u n

  abbrev T : (temporary : ℕ) → ℕ
  T i = temporary_register h.code i

  abbrev free : ℕ
  free = first_free h.code

  abbrev E : (next temporary : ℕ) → Bool
  E next i = c.layout.expansion.entries u next i

  abbrev Follows : Stage → Type 0
  Follows a = Result c IsGood a (flat.Stands u (c.layout.address u n) v xs)

  abbrev body : List FlatInstruction
  body = body_of (function_in c.layout.program u)

  -- a scalar value that an instruction takes with its entry
  pub scalar_operand : (i : Instruction) → IsNode c u n h.code i → (k : Scalar) (b : ℕ)
      → b < most_temporaries h.code.code → is_scalar_of k (temps b) ≡ true
      → (is_moved_with_entry (OfScalar k) ≡ true → reads_entry c.layout.expansion.code h.code i b ≡ true)
      → IsHeldAt (world c h.keys s v) (is_pointer_type k) (temps b).value (temporary_register h.code b) v.values
  scalar_operand i nd k b low is_value reads =
      let t = h.holds.temporaries b low refl in
      let p = and_parts (is_place (temps b).contents) (is_of_type k (temps b).value) is_value in
      with_entry_of (world c h.keys s v) k (E n b) (temps b).value (T b) v.values
      (λ e. nd.closed.read n b i nd.at (reads (moved_pointer k e)))
      (held_of (world c h.keys s v) (E n b) (temps b) _ _ (T b) v.values
      (record { by = t.by; none = λ e. place_is (temps b).contents p.0 }))

  pub scalar_no_tag : (k : Scalar) (b : ℕ) → is_scalar_of k (temps b) ≡ true → HasNoTag k (temps b).value
  scalar_no_tag k b is_value = no_tag_is k (temps b).value
      (and_parts (is_place (temps b).contents) (is_of_type k (temps b).value) is_value).1

  module _ (k : Scalar) (mode : Mode) (line : ℕ) (key : Option ℕ) (d a b next : ℕ)
      (settled : is_settled mode ≡ true)
      (at : slice_get h.code.code n ≡ Some (tac.Write (OfScalar k) mode line key d a b next))
      (plain : c.layout.expansion.contents u n a ≡ false) (is_value : is_scalar_of k (temps b) ≡ true) where
    abbrev label : Instruction
    label = tac.Write (OfScalar k) mode line key d a b next

    nd : IsNode c u n h.code (tac.Write (OfScalar k) mode line key d a b next)
    nd = node c IsGood right u n temps ws s v xs h (tac.Write (OfScalar k) mode line key d a b next) at

    low : d < most_temporaries h.code.code
    low = omega (arith, nd.temporaries_low)

    to_low : a < most_temporaries h.code.code
    to_low = omega (arith, nd.temporaries_low)

    from_low : b < most_temporaries h.code.code
    from_low = omega (arith, nd.temporaries_low)

    abbrev paid : State
    paid = spent (cost (tac.Write (OfScalar k) mode line key d a b next)) s

    abbrev value : Value
    value = (temps b).value

    operand : IsHeldAt (world c h.keys s v) (is_pointer_type k) (temps b).value (temporary_register h.code b) v.values
    operand = scalar_operand label nd k b from_low is_value
        (λ e. ap (λ z. z && is_moved_with_entry (OfScalar k)) (eq-eqb b b refl) ∙ e)

    module _ (p : Value)
        (held : IsHeldAt (world c h.keys s v) (c.layout.expansion.entries u n a) p (temporary_register h.code a) v.values)
      where
        -- the state behind it
        abbrev written : IsDirect s.objects p (scalar_size k) → State
        written direct = record (behind_write k p (place_in s.objects direct.object p.word) (temps b).value paid) {
          work = paid.work + 3 * (paid.work - paid.work);
        }

        finish : (direct : IsDirect s.objects p (scalar_size k)) (rest : List FlatInstruction) → AreFew 5 rest
            → HasAt body pc (c.layout.expansion.inline.store (T a) (held_scalar k (T b)) free ++ rest)
            → Leads body (pc + length (c.layout.expansion.inline.store (T a) (held_scalar k (T b)) free ++ rest))
            (c.layout.address u next)
            → ((w : World) (values : flat.Values) → IsHeldAt w (is_pointer_type k) (temps b).value (T b) values
            → IsPlacedIn w (E next d) (temps b).value (T d) values (assigned rest values))
            → 2 * store_steps (held_scalar k (T b)) + 12 ≤ factor * cost label
            → Follows (Stands u next (with_temp temps d (rvalue (temps b).value)) ws (written direct))
        finish direct rest few has on placing cheap =
            let list = c.layout.expansion.inline.store (T a) (held_scalar k (T b)) free in
            let room = temporary_free h.code b from_low in
            let room_to = temporary_free h.code a to_low in
            let room_into = temporary_free h.code d low in
            let ran = store_passes c IsGood right u h.code h.there xs k (T a) (T b) free (omega arith) room pc v
            (has_front body pc list rest has) words h.keys paid p value
            (for_worked (views c) h.keys IsGood s paid.work v h.stands.for) held.word
            (record { word = operand.word; entry = operand.entry; sound = operand.sound }) direct in
            let y = ran.after in
            let l = ran.holds in
            let z = written direct in
            let acted = acted_then c IsGood right u n temps ws s v xs h Nowhere free paid.work (integer 0) s z h.keys v y
            (nothing_done c IsGood right u n temps ws s v xs h)
            (record {
              keys = l.keys;
              held = l.held;
              stands = for_worked (views c) l.keys IsGood
                  (behind_write k p (place_in s.objects direct.object p.word) (temps b).value paid) z.work y l.stands;
              given = tt;
              turns = l.turns;
              elsewhere = l.elsewhere;
              others = l.others;
            })
            (leaves_write c IsGood right u n temps ws s v xs h s 0 z.work k p value direct
            (good_now (names c) u ws s h.steady.good) held.sound operand.sound) h.steady.keys in
            let still = held_on (views c) h.keys l.keys s.objects z.objects v.memory y.memory acted.goes (is_pointer_type k) value (T b)
            v.values y.values (λ j lt. l.others (T b + j) (let few = few_in (is_pointer_type k) in omega arith) tt) operand in
            let placed = placing (world c l.keys z y) y.values still in
            let len : pc + length (list ++ rest) ≡ pc + length list + length rest = omega (arith, length-append list rest) in
            let e = ends_with c IsGood right u n temps ws s v xs h (pc + length list) (2 * store_steps (held_scalar k (T b)))
            5 next y rest ran.reached few (has_back body pc list rest has)
            (subst (λ q. Leads body q (c.layout.address u next)) len on) in
            acts_giving c IsGood right u n temps ws s v xs h label nd d next value z l.keys
            (record y { values = assigned rest y.values; work = e.0 }) (2 * store_steps (held_scalar k (T b)) + 2 * 5 + 2)
            refl (inl refl) low e.1
            (acted_as c IsGood right u n temps ws s v xs h z l.keys y (assigned rest y.values) e.0 acted)
            (λ q lt out. placed.others q out ∙ l.others q lt tt) placed.held (omega (arith, cheap))

        writes : (k' : Scalar) → k ≡ k' → (direct : IsDirect s.objects p (scalar_size k))
            → HasAt body pc (write_code c.layout.expansion.inline k' (E next d) (T d) (T a) (T b) free)
            → Leads body (pc + length (write_code c.layout.expansion.inline k' (E next d) (T d) (T a) (T b) free))
            (c.layout.address u next)
            → Follows (Stands u next (with_temp temps d (rvalue (temps b).value)) ws (written direct))
        writes (Integer t) is direct has on =
            let rest = Move (T d) (T b) ∷ untagged (E next d) (T d) in
            finish direct rest (integer_few (E next d) (T d) (T b))
            (subst (λ z. HasAt body pc (c.layout.expansion.inline.store (T a) (held_scalar z (T b)) free ++ rest)) (sym is) has)
            (subst (λ z. Leads body (pc + length (c.layout.expansion.inline.store (T a) (held_scalar z (T b)) free ++ rest))
            (c.layout.address u next)) (sym is) on)
            (λ w values q. integer_moved w (E next d) value (T d) (T b) values
            (subst (λ z. HasNoTag z value) is (scalar_no_tag k b is_value)) q.word)
            (subst (λ z. 2 * store_steps (held_scalar z (T b)) + 12 ≤ factor
            * cost (tac.Write (OfScalar z) mode line key d a b next)) (sym is) (omega arith))
        writes Pointer is direct has on =
            let rest = move_value (E next d) (T d) (T b) in
            finish direct rest (move_few (E next d) (T d) (T b))
            (subst (λ z. HasAt body pc (c.layout.expansion.inline.store (T a) (held_scalar z (T b)) free ++ rest)) (sym is) has)
            (subst (λ z. Leads body (pc + length (c.layout.expansion.inline.store (T a) (held_scalar z (T b)) free ++ rest))
            (c.layout.address u next)) (sym is) on)
            (λ w values q. value_moved w (E next d) (is_pointer_type k) value (T d) (T b) values q
            (λ e. ap is_pointer_type is)
            (temporary_apart d b (T d) (T b) (λ ne. temporaries_apart h.code d b ne)
            (λ e. ap (λ z. temporary_register h.code z) e)))
            (subst (λ z. 2 * store_steps (held_scalar z (T b)) + 12 ≤ factor
            * cost (tac.Write (OfScalar z) mode line key d a b next)) (sym is) (omega arith))

    -- ---- the step

    abbrev Behind : Rvalue → Stage
    Behind q = came (heavier (write_rvalue (OfScalar k) (is_through mode) q.value line (temps b)) paid)
        (given_in u next temps d ws)

    abbrev Effect : Rvalue → Stage
    Effect q = keyed (keys_of (code_in c.layout.expansion.code u)) key paid q.value
        (admitted mode (scalar_size k) q s.objects (Behind q))

    value_written : (p : Value)
        → IsHeldAt (world c h.keys s v) (c.layout.expansion.entries u n a) p (temporary_register h.code a) v.values
        → (Effect (rvalue p) ≡ Stuck → ⊥) → Follows (Effect (rvalue p))
    value_written p held fine =
        let keys = keys_of (code_in c.layout.expansion.code u) in
        let opened = keyed_opens keys key paid p (admitted mode (scalar_size k) (rvalue p) s.objects (Behind (rvalue p)))
        fine in
        let f = found mode settled (views c).functions (scalar_size k) p s.objects (Behind (rvalue p)) held.sound
        (λ stuck. fine (opened ∙ stuck)) in
        let write_is = ap (λ o. fourfold paid.work (on (on (on o (λ q. write_scalar k p.word q value)) (λ _. done value)) give))
        (f.same line paid refl)
        ∙ ap (λ o. fourfold paid.work (on (on o (λ _. done value)) give)) (stored k p value line paid f.direct) in
        subst Follows (sym (opened ∙ f.opens ∙ ap (λ o. came o (given_in u next temps d ws)) write_is))
        (writes p held k refl f.direct nd.put.has nd.put.leads)

    pub write : (effect c.setting (expansion_of c).code label u temps ws paid ≡ Stuck → ⊥)
        → Follows (effect c.setting (expansion_of c).code label u temps ws paid)
    write fine =
        let to = plain_operand c IsGood right u n temps ws s v xs h words a to_low plain in
        subst (λ q. (Effect q ≡ Stuck → ⊥) → Follows (Effect q)) (sym to.0)
        (value_written (temps a).value to.1) fine
