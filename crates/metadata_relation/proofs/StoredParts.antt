-- Parts of objects that initializers store: a scalar at an offset from the home of a variable.
use Rattle.std.proofs.Common.{◌≡◌, inl, ℕ, suc, ◌+◌, ◌-◌, ◌*◌, ◌%◌, ◌^◌, ◌<◌, ◌≤◌, true, false, if◌then◌else◌}
use Rattle.std.proofs.Common.{List, [], ◌∷◌, ◌++◌, length, get_or, Some, refl, sym, ap, ◌∙◌}
use Rattle.std.proofs.Common.{subst, arith, max, min}
use Rattle.std.specs.Prelude.{slice_get, ◌&&◌, nat_le}
use Rattle.std.proofs.lemmas.Bool.{and_parts, eq-eqb, leb-true, lt-ltb}
use Rattle.rv_isa.specs.declared.instruction.RegOp.TheVariants.{Add}
use Rattle.rv_isa.specs.Results.{reg_result}
use Rattle.words.specs.TwosComplement.{low_bits}
use Rattle.obj_memory.specs.declared.value.Bounds.{Bounds}
use Rattle.obj_memory.specs.declared.value.Scalar.{Scalar}
use Rattle.obj_memory.specs.declared.value.Scalar.TheVariants.{Integer, Pointer}
use Rattle.obj_memory.specs.declared.value.Tag.TheVariants.{OfObject}
use Rattle.obj_memory.specs.declared.value.Value.{Value}
use Rattle.obj_memory.specs.Access.{scalar_size}
use Rattle.obj_memory.specs.Judgement.{narrowed, place_in}
use Rattle.obj_memory.specs.Objects.{Objects, object_at, pointer_to}
use Rattle.obj_memory.specs.Sound.{IsSoundTag}
use Rattle.obj_memory.proofs.Judging.{sound_narrowed, sound_pointer}
use Rattle.c_tree.specs.declared.expression.Kind.TheVariants.{Scalar as OfScalar}
use Rattle.source_meaning.specs.State.{State, Home, NoObject, InObject, done, on}
use Rattle.source_meaning.specs.Actions.{home_value, integer}
use Rattle.source_meaning.specs.Keeping.{IsDirect}
use Rattle.source_meaning.specs.Structures.{give, write_rvalue}
use Rattle.tac_ir.specs.declared.instruction.Instruction.{Instruction}
use Rattle.tac_ir.specs.declared.instruction.Instruction.TheVariants as tac
use Rattle.tac_ir.specs.Accesses.{is_live_at, is_live_by, only_if}
use Rattle.tac_ir.specs.Costs.{cost, fourfold, heavier, spent}
use Rattle.tac_ir.specs.Fitting.{is_scalar_of}
use Rattle.tac_ir.specs.Meaning.{effect}
use Rattle.tac_ir.specs.Stage.{came, Frame, Stage, Stands, Stuck, Temps}
use Rattle.tac_ir.proofs.Fits.{only_true}
use Rattle.flat_code.specs.declared.instruction.FlatInstruction.{FlatInstruction}
use Rattle.flat_code.specs.declared.instruction.FlatInstruction.TheVariants.{Operate}
use Rattle.flat_code.specs.declared.instruction.RightOperand.TheVariants.{Number, Register}
use Rattle.flat_code.specs.Calls.{function_in}
use Rattle.flat_code.specs.Meaning.{body_of}
use Rattle.flat_code.specs.Memory.{Bytes, put}
use Rattle.flat_code.specs.State as flat
use Rattle.flat_code.specs.Words.{HasWords}
use Rattle.flat_code.proofs.Stored.{put_other, put_same}
use Rattle.flat_code.specs.Routines.Routine.{HasAt}
use Rattle.flat_code.proofs.Routines.Objects.Changing.{live_is_made}
use Rattle.flat_actions.specs.Actions.{Nowhere}
use Rattle.flat_actions.proofs.Standing.{for_worked}
use Rattle.lib_wrappers.specs.AccessRoutines.Accessing.{store_steps}
use Rattle.metadata_plan.specs.Entries.{is_moved_with_entry}
use Rattle.metadata_plan.specs.Expanded.{Leads}
use Rattle.metadata_plan.specs.Operators.{OperatorCode}
use Rattle.metadata_plan.specs.Registers.{most_temporaries}
use Rattle.metadata_plan.proofs.Flat.{operate_comes, words_kept}
use Rattle.metadata_relation.specs.Blocks.{held_scalar, is_short}
use Rattle.metadata_relation.specs.Holding.{is_pointer_type, IsHeldAt, IsHome, World}
use Rattle.metadata_relation.specs.Registers.{first_free, home_register, temporary_register}
use Rattle.metadata_relation.specs.Stages.{Compiled, expansion_of, factor, IsAt, map_of, names, views, world}
use Rattle.metadata_relation.specs.Steps.{IsCompiled}
use Rattle.metadata_relation.proofs.Accesses.{behind_write, live_direct, stored}
use Rattle.metadata_relation.proofs.Acting.{acts_alone, reached_by, reached_then}
use Rattle.metadata_relation.proofs.Finishing.{acted_as, acted_then, ends_with, nothing_done}
use Rattle.metadata_relation.proofs.Holding.{held_on, same_world}
use Rattle.metadata_relation.proofs.Registers.{few_in, temporary_free}
use Rattle.metadata_relation.proofs.Standing.{good_now, IsNode, node, Result}
use Rattle.metadata_relation.proofs.Writing.{leaves_write, scalar_operand, store_passes}

-- a sum that is a word
pub sum_is : (a n : ℕ) → a + n < 2 ^ 64 → reg_result Add a (low_bits 64 n) ≡ a + n
unfolding reg_result
sum_is a n small = omega arith

-- ---- a part of an object

pub part_word : (offset size o : ℕ) (objects : Objects)
    → (narrowed offset size (pointer_to o objects)).word ≡ ((object_at objects o).address + offset) % 2 ^ 64
unfolding narrowed pointer_to
part_word offset size o objects = refl

abbrev pub part_bounds : (offset size o : ℕ) → Objects → Bounds
part_bounds offset size o objects =
    let address = ((object_at objects o).address + offset) % 2 ^ 64 in
    record {
      base = max (object_at objects o).address address;
      bound = min ((object_at objects o).address + (object_at objects o).size) (address + size);
    }

pub part_tag : (offset size o : ℕ) (objects : Objects)
    → (narrowed offset size (pointer_to o objects)).tag ≡ OfObject o (part_bounds offset size o objects)
unfolding narrowed pointer_to
part_tag offset size o objects = refl

-- a part of a variable that has no object is not there
pub no_part : (offset size : ℕ) (objects : Objects)
    → is_live_at size (narrowed offset size (integer 0)) objects ≡ true → ⊥
unfolding narrowed
no_part offset size objects e = cc

-- the base in a home is the address of its object
pub home_address : (w : World) (o r : ℕ) (values : flat.Values) → IsHome w o r values
    → values r ≡ (object_at w.objects o).address
unfolding pointer_to
home_address w o r values home = ap (λ m. m.base) home.entry

-- bytes of a live object, at an offset that is a short number
pub record IsPart (offset size o : ℕ) (objects : Objects) : Type 0 where
  pub direct : IsDirect objects (narrowed offset size (pointer_to o objects)) size
  pub live : (object_at objects o).is_live ≡ true
  pub word : (narrowed offset size (pointer_to o objects)).word ≡ (object_at objects o).address + offset
  pub inside : offset + size ≤ (object_at objects o).size

pub part_is : (offset size o : ℕ) (objects : Objects) → offset < 2 ^ 64
    → (object_at objects o).address + (object_at objects o).size ≤ 1610612736
    → is_live_at size (narrowed offset size (pointer_to o objects)) objects ≡ true → IsPart offset size o objects
part_is offset size o objects small low e =
    let q = narrowed offset size (pointer_to o objects) in
    let is = part_tag offset size o objects in
    let there : is_live_by (OfObject o (part_bounds offset size o objects)) q.word size objects ≡ true =
    subst (λ t. is_live_by t q.word size objects ≡ true) is e in
    let a = (object_at objects o).address in
    let p = and_parts (object_at objects o).is_live
    (nat_le a q.word && nat_le (q.word + size) (a + (object_at objects o).size)) there in
    let r = and_parts (nat_le a q.word) (nat_le (q.word + size) (a + (object_at objects o).size)) p.1 in
    let first = leb-true a q.word r.0 in
    let last = leb-true (q.word + size) (a + (object_at objects o).size) r.1 in
    let w = part_word offset size o objects in
    record {
      direct = live_direct objects q size (OfObject o (part_bounds offset size o objects)) is there;
      live = p.0;
      word = omega arith;
      inside = omega arith;
    }

-- the address of a part is one operation
pub part_code : (o : OperatorCode) (home offset r : ℕ) → is_short offset ≡ true
    → (if is_short offset then [] else o.constant r offset (r + 1))
    ++ (Operate Add r home (if is_short offset then Number offset else Register r) ∷ [])
    ≡ Operate Add r home (Number offset) ∷ []
part_code o home offset r e =
    ap (λ b. (if b then [] else o.constant r offset (r + 1))
    ++ (Operate Add r home (if b then Number offset else Register r) ∷ [])) e

module _ (c : Compiled) (IsGood : Bytes → Type 0) (right : IsCompiled c IsGood) (u n : ℕ) (temps : Temps)
    (ws : List Frame) (s : State) (v : flat.State) (xs : List flat.Frame)
    (h : IsAt c IsGood u n temps ws s u (c.layout.address u n) v xs)
    (words : HasWords (flat.Stands u (c.layout.address u n) v xs)) where
  abbrev pc : ℕ
  pc = c.layout.address u n

  abbrev T : (temporary : ℕ) → ℕ
  T i = temporary_register h.code i

  abbrev free : ℕ
  free = first_free h.code

  abbrev Follows : Stage → Type 0
  Follows a = Result c IsGood a (flat.Stands u (c.layout.address u n) v xs)

  abbrev body : List FlatInstruction
  body = body_of (function_in c.layout.program u)

  -- ---- a scalar that is a part

  module _ (k : Scalar) (line x offset a next : ℕ) (small : offset < 2 ^ 64)
      (at : slice_get h.code.code n ≡ Some (tac.StorePart (OfScalar k) line x offset a next))
      (is_value : is_scalar_of k (temps a) ≡ true) where
    abbrev label : Instruction
    label = tac.StorePart (OfScalar k) line x offset a next

    nd : IsNode c u n h.code (tac.StorePart (OfScalar k) line x offset a next)
    nd = node c IsGood right u n temps ws s v xs h (tac.StorePart (OfScalar k) line x offset a next) at

    from : a < most_temporaries h.code.code
    from = nd.temporaries_low

    abbrev paid : State
    paid = spent (cost (tac.StorePart (OfScalar k) line x offset a next)) s

    abbrev value : Value
    value = (temps a).value

    abbrev H : ℕ
    H = home_register h.code x

    abbrev steps : ℕ
    steps = store_steps (held_scalar k (temporary_register h.code a))

    operand : IsHeldAt (world c h.keys s v) (is_pointer_type k) (temps a).value (temporary_register h.code a) v.values
    operand = scalar_operand c IsGood right u n temps ws s v xs h words.0 label nd k a from is_value
        (λ e. ap (λ z. z && is_moved_with_entry (OfScalar k)) (eq-eqb a a refl) ∙ e)

    cheap : 2 + 2 * store_steps (held_scalar k (temporary_register h.code a)) + 2
        ≤ factor * cost (tac.StorePart (OfScalar k) line x offset a next)
    cheap = by k
      where
        by : (k : Scalar) → 2 + 2 * store_steps (held_scalar k (temporary_register h.code a)) + 2
            ≤ factor * cost (tac.StorePart (OfScalar k) line x offset a next)
        by (Integer t) = omega arith
        by Pointer = omega arith

    -- in the object of a variable
    module _ (o : ℕ) (home : get_or s.frame x NoObject ≡ InObject o)
        (part : IsPart offset (scalar_size k) o s.objects) where
      abbrev q : Value
      q = narrowed offset (scalar_size k) (pointer_to o s.objects)

      abbrev written : State
      written = record (behind_write k (narrowed offset (scalar_size k) (pointer_to o s.objects))
          (place_in s.objects part.direct.object (narrowed offset (scalar_size k) (pointer_to o s.objects)).word)
          (temps a).value paid) {
            work = paid.work + 3 * (paid.work - paid.work);
          }

      home_is : IsHome (world c h.keys s v) o (home_register h.code x) v.values
      home_is = h.holds.homes.homes x o home

      object_low : (object_at s.objects o).address + (object_at s.objects o).size ≤ 1610612736
      object_low = (good_now (names c) u ws s h.steady.good).low o

      short : is_short offset ≡ true
      short =
          let inside = part.inside in
          let low = object_low in
          lt-ltb offset (2 ^ 31 - 2 ^ 11) (omega arith)

      part_sound : IsSoundTag (views c).functions s.objects
          (narrowed offset (scalar_size k) (pointer_to o s.objects)).tag
      part_sound =
          let low = object_low in
          sound_narrowed (views c).functions s.objects offset (scalar_size k) (pointer_to o s.objects)
          (sound_pointer (views c).functions o s.objects (live_is_made s.objects o part.live) (omega arith))

      stores : HasAt body pc (Operate Add free H (Number offset)
          ∷ c.layout.expansion.inline.store free (held_scalar k (T a)) (free + 1))
          → Leads body (pc + suc (length (c.layout.expansion.inline.store free (held_scalar k (T a)) (free + 1))))
          (c.layout.address u next)
          → Follows (Stands u next temps ws written)
      stores has on =
          let m = map_of c in
          let p = c.layout.program in
          let list = c.layout.expansion.inline.store free (held_scalar k (T a)) (free + 1) in
          let room = temporary_free h.code a from in
          let low = object_low in
          let inside = part.inside in
          let sum = reg_result Add (v.values H) (low_bits 64 offset) in
          let first = operate_comes m p u pc v xs Add free H (Number offset) has.0 in
          let v1 : flat.State = record v { values = put v.values free sum; work = v.work + first.work } in
          let begun = acted_as c IsGood right u n temps ws s v xs h s h.keys v v1.values v1.work
          (nothing_done c IsGood right u n temps ws s v xs h) in
          let same = λ (r : ℕ) (lt : r < free). put_other v.values free sum r (λ e. omega arith) in
          let there : v1.values free ≡ q.word =
          put_same v.values free sum
          ∙ ap (λ z. reg_result Add z (low_bits 64 offset)) (home_address (world c h.keys s v) o H v.values home_is)
          ∙ sum_is (object_at s.objects o).address offset (omega arith) ∙ sym part.word in
          let is = held_on (views c) h.keys h.keys s.objects s.objects v.memory v.memory
          (same_world (views c) h.keys s.objects v.memory) (is_pointer_type k) value (T a) v.values v1.values
          (λ j lt. same (T a + j) (let few = few_in (is_pointer_type k) in omega arith)) operand in
          let ran = store_passes c IsGood right u h.code h.there xs k free (T a) (free + 1) (omega arith) (omega arith)
          (pc + 1) v1 has.1 (subst HasWords first.comes (words_kept m p first.steps (flat.Stands u pc v xs) words)).0 h.keys
          paid q value (for_worked (views c) h.keys IsGood s paid.work v1 begun.stands.for) there is part.direct in
          let y = ran.after in
          let l = ran.holds in
          let acted = acted_then c IsGood right u n temps ws s v xs h Nowhere (free + 1) paid.work (integer 0) s written
          h.keys v1 y begun
          (record {
            keys = l.keys;
            held = l.held;
            stands = for_worked (views c) l.keys IsGood
                (behind_write k q (place_in s.objects part.direct.object q.word) value paid) written.work y l.stands;
            given = tt;
            turns = l.turns;
            elsewhere = l.elsewhere;
            others = l.others;
          })
          (leaves_write c IsGood right u n temps ws s v xs h s 0 written.work k q value part.direct
          (good_now (names c) u ws s h.steady.good) part_sound operand.sound) h.steady.keys in
          let all = reached_then m p u xs pc (pc + 1) (pc + 1 + length list) v v1 y 2 (2 * steps)
          (reached_by m p u xs pc (pc + 1) v (record v { values = put v.values free sum }) 2 first) ran.reached in
          let e = ends_with c IsGood right u n temps ws s v xs h (pc + 1 + length list) (2 + 2 * steps) 0 next y [] all
          (record { assign = refl; few = omega arith }) tt
          (subst (λ z. Leads body z (c.layout.address u next)) (omega arith) on) in
          acts_alone c IsGood right u n temps ws s v xs h label nd next written l.keys
          (record y { values = y.values; work = e.0 }) (2 + 2 * steps + 2 * 0 + 2) refl (inl refl) e.1
          (acted_as c IsGood right u n temps ws s v xs h written l.keys y y.values e.0 acted)
          (λ r lt. l.others r (omega arith) tt ∙ same r lt) (omega (arith, cheap))

      pub part_stored : Follows (Stands u next temps ws written)
      part_stored =
          let store = c.layout.expansion.inline.store free (held_scalar k (T a)) (free + 1) in
          let list = part_code c.layout.expansion.inline.operators H offset free short in
          stores (subst (λ z. HasAt body pc (z ++ store)) list nd.put.has)
          (subst (λ z. Leads body (pc + length (z ++ store)) (c.layout.address u next)) list nd.put.leads)

    -- ---- the step

    abbrev Behind : Home → Stage
    Behind m = came (heavier (write_rvalue (OfScalar k) false
        (narrowed offset (scalar_size k) (home_value m s.objects)) line (temps a)) paid) (λ _ z. Stands u next temps ws z)

    abbrev Effect : Home → Stage
    Effect m = only_if (is_live_at (scalar_size k) (narrowed offset (scalar_size k) (home_value m s.objects)) s.objects)
        (Behind m)

    by_home : (m : Home) → get_or s.frame x NoObject ≡ m → (Effect m ≡ Stuck → ⊥) → Follows (Effect m)
    by_home NoObject home fine =
        absurd (no_part offset (scalar_size k) s.objects (only_true
        (is_live_at (scalar_size k) (narrowed offset (scalar_size k) (integer 0)) s.objects) (Behind NoObject) fine).0)
    by_home (InObject o) home fine =
        let q = narrowed offset (scalar_size k) (pointer_to o s.objects) in
        let t = only_true (is_live_at (scalar_size k) q s.objects) (Behind (InObject o)) fine in
        let part = part_is offset (scalar_size k) o s.objects small
        ((good_now (names c) u ws s h.steady.good).low o) t.0 in
        let write_is = ap (λ r. fourfold paid.work (on (on r (λ _. done value)) give))
        (stored k q value line paid part.direct) in
        subst Follows (sym (t.1 ∙ ap (λ r. came r (λ _ z. Stands u next temps ws z)) write_is))
        (part_stored o home part)

    pub store_part : (effect c.setting (expansion_of c).code label u temps ws paid ≡ Stuck → ⊥)
        → Follows (effect c.setting (expansion_of c).code label u temps ws paid)
    store_part fine = by_home (get_or s.frame x NoObject) refl fine
