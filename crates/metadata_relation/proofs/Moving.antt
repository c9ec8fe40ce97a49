-- Instructions that move values: reads of plain variables, zeros, and conversions.
use Rattle.std.proofs.Common.{◌≡◌, ◌≢◌, ◌⊎◌, inl, inr, ℕ, ◌+◌, ◌-◌, ◌*◌, ◌<◌, ◌≤◌, Bool, true, false, List, ◌∷◌}
use Rattle.std.proofs.Common.{length, Option, Some, None, refl, sym, ap, ◌∙◌, subst, arith, get_or}
use Rattle.std.specs.Prelude.{slice_get, ◌==◌}
use Rattle.std.proofs.lemmas.Bool.{eq-eqb, eqb-true, eqb-false}
use Rattle.obj_memory.specs.declared.int_type.IntType.{IntType}
use Rattle.obj_memory.specs.declared.value.Tag.TheVariants.{Untagged}
use Rattle.obj_memory.specs.declared.value.Value.{Value}
use Rattle.obj_memory.specs.declared.value.Scalar.{Scalar}
use Rattle.obj_memory.specs.declared.value.Scalar.TheVariants.{Integer, Pointer}
use Rattle.obj_memory.specs.Integers.{fit}
use Rattle.obj_memory.specs.Objects.{ObjectState}
use Rattle.c_tree.specs.declared.expression.Kind.TheVariants.{Void, Scalar as OfScalar, Structure, Array}
use Rattle.source_meaning.specs.State.{State, Rvalue}
use Rattle.source_meaning.specs.Actions.{integer}
use Rattle.source_meaning.specs.Structures.{rvalue}
use Rattle.source_meaning.specs.Good.{plain_type}
use Rattle.tac_ir.specs.declared.instruction.Instruction.{Instruction}
use Rattle.tac_ir.specs.declared.instruction.Instruction.TheVariants as tac
use Rattle.tac_ir.specs.Edges.{LeadsTo}
use Rattle.tac_ir.specs.Stage.{Temps, with_temp, Frame, Stage, Stands}
use Rattle.tac_ir.specs.Costs.{spent}
use Rattle.tac_ir.specs.Meaning.{effect}
use Rattle.flat_code.specs.declared.instruction.FlatInstruction.{FlatInstruction}
use Rattle.flat_code.specs.declared.instruction.FlatInstruction.TheVariants.{Constant}
use Rattle.flat_code.specs.Memory.{Bytes, put}
use Rattle.flat_code.specs.State as flat
use Rattle.flat_code.specs.Calls.{function_in}
use Rattle.flat_code.specs.Meaning.{body_of}
use Rattle.flat_code.specs.Words.{IsOfWords}
use Rattle.flat_code.proofs.Stored.{put_same, put_other}
use Rattle.flat_code.specs.Routines.Routine.{HasAt}
use Rattle.flat_code.proofs.Routines.Steps.{has_front}
use Rattle.metadata_plan.specs.Registers.{all_variables, most_temporaries}
use Rattle.metadata_plan.specs.Entries.{given, entry_source}
use Rattle.metadata_plan.specs.Expanded.{Leads}
use Rattle.metadata_relation.specs.Registers.{variable_register, temporary_register, first_free}
use Rattle.metadata_relation.specs.Blocks.{move_value, untagged, get_code}
use Rattle.metadata_relation.specs.Contents.{takes_word}
use Rattle.metadata_relation.specs.Holding.{World, IsHeldAt, IsTemporary, IsRvalueAt}
use Rattle.metadata_relation.specs.Stages.{factor, Compiled, map_of, world, expansion_of, IsAt}
use Rattle.metadata_relation.specs.Steps.{IsCompiled}
use Rattle.metadata_plan.proofs.Flat.{Comes, constant_comes, move_comes}
use Rattle.metadata_plan.proofs.Holding.{set_by_put}
use Rattle.metadata_relation.proofs.Assigning.{assigned, assigns, AreApart, moved}
use Rattle.metadata_relation.proofs.Registers.{variable_low, temporary_free, temporaries_apart}
use Rattle.metadata_relation.proofs.Standing.{IsNode, node, leads_on, Result}
use Rattle.metadata_relation.proofs.Giving.{gives_value, gives_integer}
use Rattle.metadata_relation.proofs.Simple.{taken, computes_integer}

-- an integer has no tag
pub integer_is : (v : Value) (w : ℕ) → v.tag ≡ Untagged → w ≡ v.word → v ≡ integer w
integer_is v w e f =
    ap (λ t. record { word = v.word; tag = t }) e ∙ ap (λ n. integer n) (sym f)

-- a value without contents is held
pub held_of : (w : World) (b : Bool) (v : Rvalue) (greatest area r : ℕ) (values : flat.Values)
    → IsTemporary w b false v greatest area r values → IsHeldAt w b v.value r values
held_of w b v greatest area r values h = by v.contents (h.none refl) h.by
  where
    by : (o : Option ObjectState) → o ≡ None → IsRvalueAt w b v.value o greatest area r values
        → IsHeldAt w b v.value r values
    by None e q = q
    by (Some c) e q = cc

-- two temporaries are one, or apart
pub temporary_apart : (d a r q : ℕ) → (d ≢ a → (r + 5 ≤ q) ⊎ (q + 5 ≤ r)) → (d ≡ a → r ≡ q) → AreApart r q
temporary_apart d a r q other same = by (d == a) refl
  where
    by : (b : Bool) → (d == a) ≡ b → AreApart r q
    by true e = inl (same (eqb-true d a e))
    by false e = inr (other (eqb-false d a e))

module _ (c : Compiled) (IsGood : Bytes → Type 0) (right : IsCompiled c IsGood) (u n : ℕ) (temps : Temps)
    (ws : List Frame) (s : State) (v : flat.State) (xs : List flat.Frame)
    (h : IsAt c IsGood u n temps ws s u (c.layout.address u n) v xs) (words : IsOfWords v) where
  abbrev pc : ℕ
  pc = c.layout.address u n

  abbrev T : (temporary : ℕ) → ℕ
  T i = temporary_register h.code i

  abbrev V : (variable : ℕ) → ℕ
  V x = variable_register h.code x

  abbrev E : (next d : ℕ) → Bool
  E next d = c.layout.expansion.entries u next d

  abbrev Gives : Stage → Type 0
  Gives a = Result c IsGood a (flat.Stands u (c.layout.address u n) v xs)

  abbrev body : List FlatInstruction
  body = body_of (function_in c.layout.program u)

  -- A value that registers hold goes to a temporary.
  pub moves_value : (i : Instruction) → IsNode c u n h.code i → (d next from : ℕ) (held : Bool) (value : Value)
      (work : ℕ) → given i ≡ Some d → LeadsTo i next → d < most_temporaries h.code.code
      → IsHeldAt (world c h.keys s v) held value from v.values
      → (c.layout.expansion.entries u next d ≡ true → held ≡ true)
      → AreApart (temporary_register h.code d) from
      → HasAt body pc (move_value (c.layout.expansion.entries u next d) (temporary_register h.code d) from)
      → Leads body (pc + length (move_value (c.layout.expansion.entries u next d) (temporary_register h.code d) from))
      (c.layout.address u next)
      → 12 + factor * s.work ≤ factor * work
      → Gives (Stands u next (with_temp temps d (rvalue value)) ws (record s { work = work }))
  moves_value i k d next from held value work gives leads low is more apart has on cost =
      by (c.layout.expansion.entries u next d) more has on (λ values most. gives_value c IsGood right u n temps ws s v xs h
      i k d next value values most work gives leads low)
    where
      by : (b : Bool) → (b ≡ true → held ≡ true)
          → HasAt (body_of (function_in c.layout.program u)) (c.layout.address u n)
          (move_value b (temporary_register h.code d) from)
          → Leads (body_of (function_in c.layout.program u))
          (c.layout.address u n + length (move_value b (temporary_register h.code d) from)) (c.layout.address u next)
          → ((values : flat.Values) (most : ℕ)
          → Comes (map_of c) c.layout.program u (c.layout.address u n) v xs (c.layout.address u next)
          (record v { values = values }) most
          → ((y : ℕ) → y < first_free h.code → (y < temporary_register h.code d)
          ⊎ (temporary_register h.code d + 5 ≤ y) → values y ≡ v.values y)
          → IsHeldAt (world c h.keys s v) b value (temporary_register h.code d) values
          → most + factor * s.work ≤ factor * work
          → Result c IsGood (Stands u next (with_temp temps d (rvalue value)) ws (record s { work = work }))
          (flat.Stands u (c.layout.address u n) v xs))
          → Result c IsGood (Stands u next (with_temp temps d (rvalue value)) ws (record s { work = work }))
          (flat.Stands u (c.layout.address u n) v xs)
      by false more has on finish =
          let values = put v.values (temporary_register h.code d) (v.values from) in
          finish values 4
          (leads_on c IsGood right u n temps ws s v xs h (c.layout.address u n + 1) (c.layout.address u next)
          (record v { values = values }) 2
          (move_comes (map_of c) c.layout.program u (c.layout.address u n) v xs (temporary_register h.code d) from has.0) on)
          (λ y lt out. put_other v.values (temporary_register h.code d) (v.values from) y (outside y out))
          (record {
            word = put_same v.values (temporary_register h.code d) (v.values from) ∙ is.word;
            entry = λ e. cc;
            sound = is.sound;
          })
          (omega (arith, cost))
        where
          outside : (y : ℕ) → (y < temporary_register h.code d) ⊎ (temporary_register h.code d + 5 ≤ y)
              → y ≢ temporary_register h.code d
          outside y (inl below) e = absurd (omega arith)
          outside y (inr above) e = absurd (omega arith)
      by true more has on finish =
          let list = move_value true (temporary_register h.code d) from in
          let z = moved (temporary_register h.code d) from v.values apart in
          let spells = is.entry (more refl) in
          finish (assigned list v.values) 12
          (leads_on c IsGood right u n temps ws s v xs h (c.layout.address u n + 5) (c.layout.address u next)
          (record v { values = assigned list v.values }) 10
          (assigns (map_of c) c.layout.program u xs list refl (c.layout.address u n) v has) on)
          (λ y lt out. z.others y out)
          (record {
            word = z.value ∙ is.word;
            entry = λ e. record { word = z.value ∙ is.word; tag = z.entry ∙ spells.tag };
            sound = is.sound;
          })
          cost

  -- a plain variable of a type is read
  pub get_plain : (d x next : ℕ) (k : Scalar) → slice_get h.code.code n ≡ Some (tac.GetPlain d x next)
      → plain_type (all_variables h.code) x ≡ Some k
      → Gives (effect c.setting (expansion_of c).code (tac.GetPlain d x next) u temps ws (spent 1 s))
  get_plain d x next k at typed =
      by k typed (subst (λ o. HasAt body pc (get_code o (E next d) (T d) (V x))) typed nd.put.has)
      (subst (λ o. Leads body (pc + length (get_code o (E next d) (T d) (V x))) (c.layout.address u next)) typed
      nd.put.leads)
    where
      nd : IsNode c u n h.code (tac.GetPlain d x next)
      nd = node c IsGood right u n temps ws s v xs h (tac.GetPlain d x next) at

      low : d < most_temporaries h.code.code
      low = omega (arith, nd.temporaries_low)

      by : (k : Scalar) → plain_type (all_variables h.code) x ≡ Some k
          → HasAt (body_of (function_in c.layout.program u)) (c.layout.address u n)
          (get_code (Some k) (c.layout.expansion.entries u next d) (temporary_register h.code d)
          (variable_register h.code x))
          → Leads (body_of (function_in c.layout.program u)) (c.layout.address u n
          + length (get_code (Some k) (c.layout.expansion.entries u next d) (temporary_register h.code d)
          (variable_register h.code x))) (c.layout.address u next)
          → Result c IsGood (Stands u next (with_temp temps d (rvalue (get_or s.plain x (integer 0)))) ws (spent 1 s))
          (flat.Stands u (c.layout.address u n) v xs)
      by (Integer t) e has on =
          let p = h.holds.variables x (Integer t) e in
          let is = integer_is (get_or s.plain x (integer 0)) (v.values (V x)) p.no_tag p.value.word in
          let behind = untagged (E next d) (T d) in
          let place : pc + length (get_code (Some (Integer t)) (E next d) (T d) (V x)) ≡ pc + 1 + length behind =
          omega arith in
          subst (λ z. Gives (Stands u next (with_temp temps d (rvalue z)) ws (spent 1 s))) (sym is)
          (gives_integer c IsGood right u n temps ws s v xs h (tac.GetPlain d x next) nd d next (pc + 1) (v.values (V x))
          (put v.values (T d) (v.values (V x))) 2 (s.work + 1) refl (inl refl) low
          (move_comes (map_of c) c.layout.program u pc v xs (T d) (V x) has.0)
          (set_by_put (first_free h.code) (T d) (v.values (V x)) v.values) has.1
          (subst (λ z. Leads body z (c.layout.address u next)) place on) (omega arith))
      by Pointer e has on =
          let p = h.holds.variables x Pointer e in
          let below = variable_low h.code x Pointer e in
          moves_value (tac.GetPlain d x next) nd d next (V x) true (get_or s.plain x (integer 0)) (s.work + 1) refl
          (inl refl) low p.value (λ b. refl) (inr (inr (omega arith))) has on (omega arith)

  -- ---- zeros and conversions

  zero : (i : Instruction) → IsNode c u n h.code i → (d next work : ℕ) → given i ≡ Some d → LeadsTo i next
      → d < most_temporaries h.code.code
      → HasAt body pc (Constant (T d) 0 ∷ untagged (E next d) (T d))
      → Leads body (pc + length (Constant (T d) 0 ∷ untagged (E next d) (T d))) (c.layout.address u next)
      → 12 + factor * s.work ≤ factor * work
      → Gives (Stands u next (with_temp temps d (rvalue (integer 0))) ws (record s { work = work }))
  zero i k d next work gives leads low has on cost =
      let behind = untagged (E next d) (T d) in
      let place : pc + length (Constant (T d) 0 ∷ untagged (E next d) (T d)) ≡ pc + 1 + length behind = omega arith in
      gives_integer c IsGood right u n temps ws s v xs h i k d next (pc + 1) 0 (put v.values (T d) 0) 2 work gives leads
      low (constant_comes (map_of c) c.layout.program u pc v xs (T d) 0 has.0)
      (set_by_put (first_free h.code) (T d) 0 v.values) has.1
      (subst (λ z. Leads body z (c.layout.address u next)) place on) (omega (arith, cost))

  -- 0 of what is no structure
  pub zero_of_scalar : (k : Scalar) (d next : ℕ) → slice_get h.code.code n ≡ Some (tac.ZeroOf (OfScalar k) d next)
      → Gives (effect c.setting (expansion_of c).code (tac.ZeroOf (OfScalar k) d next) u temps ws (spent 1 s))
  zero_of_scalar k d next at =
      let i = tac.ZeroOf (OfScalar k) d next in
      let nd = node c IsGood right u n temps ws s v xs h i at in
      zero i nd d next (s.work + 1 + 0 + 3 * (s.work + 1 + 0 - (s.work + 1))) refl (inl refl)
      (omega (arith, nd.temporaries_low)) nd.put.has nd.put.leads (omega arith)

  pub zero_of_void : (d next : ℕ) → slice_get h.code.code n ≡ Some (tac.ZeroOf Void d next)
      → Gives (effect c.setting (expansion_of c).code (tac.ZeroOf Void d next) u temps ws (spent 1 s))
  zero_of_void d next at =
      let i = tac.ZeroOf Void d next in
      let nd = node c IsGood right u n temps ws s v xs h i at in
      zero i nd d next (s.work + 1 + 0 + 3 * (s.work + 1 + 0 - (s.work + 1))) refl (inl refl)
      (omega (arith, nd.temporaries_low)) nd.put.has nd.put.leads (omega arith)

  pub zero_of_array : (size d next : ℕ) → slice_get h.code.code n ≡ Some (tac.ZeroOf (Array size) d next)
      → Gives (effect c.setting (expansion_of c).code (tac.ZeroOf (Array size) d next) u temps ws (spent 1 s))
  zero_of_array size d next at =
      let i = tac.ZeroOf (Array size) d next in
      let nd = node c IsGood right u n temps ws s v xs h i at in
      zero i nd d next (s.work + 1 + 0 + 3 * (s.work + 1 + 0 - (s.work + 1))) refl (inl refl)
      (omega (arith, nd.temporaries_low)) nd.put.has nd.put.leads (omega arith)

  pub convert_void : (d a next : ℕ) → slice_get h.code.code n ≡ Some (tac.Convert Void d a next)
      → Gives (effect c.setting (expansion_of c).code (tac.Convert Void d a next) u temps ws (spent 1 s))
  convert_void d a next at =
      let i = tac.Convert Void d a next in
      let nd = node c IsGood right u n temps ws s v xs h i at in
      zero i nd d next (s.work + 1) refl (inl refl) (omega (arith, nd.temporaries_low)) nd.put.has nd.put.leads
      (omega arith)

  pub convert_integer : (t : IntType) (d a next : ℕ)
      → slice_get h.code.code n ≡ Some (tac.Convert (OfScalar (Integer t)) d a next)
      → Gives (effect c.setting (expansion_of c).code (tac.Convert (OfScalar (Integer t)) d a next) u temps ws
      (spent 1 s))
  convert_integer t d a next at =
      let i = tac.Convert (OfScalar (Integer t)) d a next in
      let k = node c IsGood right u n temps ws s v xs h i at in
      let low : d < most_temporaries h.code.code = omega (arith, k.temporaries_low) in
      let from : a < most_temporaries h.code.code = omega (arith, k.temporaries_low) in
      let o = c.layout.expansion.inline.operators in
      let list = o.convert t (T d) (T a) (first_free h.code) in
      subst (λ z. Gives (Stands u next (with_temp temps d (rvalue (integer (fit t z)))) ws (spent 1 s)))
      (sym (taken c IsGood right u n temps ws s v xs h words i k a (eq-eqb a a refl) from))
      (computes_integer c IsGood right u n temps ws s v xs h words i k d next (fit t (v.values (T a))) 2 list refl
      (inl refl) low k.put.has k.put.leads
      (right.inline.operators.convert (map_of c) c.layout.program
      (record { function = u; place = c.layout.address u n; state = v; frames = xs }) t (T d) (T a) (first_free h.code)
      (let f = temporary_free h.code d low in omega arith) (let f = temporary_free h.code a from in omega arith)
      (record { has = has_front body pc list (untagged (E next d) (T d)) k.put.has; words = words }))
      (omega arith))

  -- a value without contents is kept, and its entry where that is (C99 6.3.2.3)
  keeps : (i : Instruction) → IsNode c u n h.code i → (d a next : ℕ) → given i ≡ Some d → LeadsTo i next
      → entry_source i ≡ Some a → takes_word i a ≡ true → d < most_temporaries h.code.code
      → a < most_temporaries h.code.code
      → HasAt body pc (move_value (E next d) (T d) (T a))
      → Leads body (pc + length (move_value (E next d) (T d) (T a))) (c.layout.address u next)
      → Gives (Stands u next (with_temp temps d (rvalue (temps a).value)) ws (spent 1 s))
  keeps i k d a next gives leads source takes low from has on =
      let t = h.holds.temporaries a from refl in
      let none = k.kept.words n a i k.at takes in
      moves_value i k d next (T a) (E n a) (temps a).value (s.work + 1) gives leads low
      (held_of (world c h.keys s v) (E n a) (temps a) _ _ (T a) v.values
      (record { by = t.by; none = λ e. t.none none }))
      (λ e. k.closed.made n next d a i k.at leads gives source e)
      (temporary_apart d a (T d) (T a) (λ ne. temporaries_apart h.code d a ne)
      (λ e. ap (λ z. temporary_register h.code z) e))
      has on (omega arith)

  pub convert_pointer : (d a next : ℕ) → slice_get h.code.code n ≡ Some (tac.Convert (OfScalar Pointer) d a next)
      → Gives (effect c.setting (expansion_of c).code (tac.Convert (OfScalar Pointer) d a next) u temps ws (spent 1 s))
  convert_pointer d a next at =
      let i = tac.Convert (OfScalar Pointer) d a next in
      let k = node c IsGood right u n temps ws s v xs h i at in
      keeps i k d a next refl (inl refl) refl (eq-eqb a a refl) (omega (arith, k.temporaries_low))
      (omega (arith, k.temporaries_low)) k.put.has k.put.leads

  pub convert_structure : (size d a next : ℕ) → slice_get h.code.code n ≡ Some (tac.Convert (Structure size) d a next)
      → Gives (effect c.setting (expansion_of c).code (tac.Convert (Structure size) d a next) u temps ws (spent 1 s))
  convert_structure size d a next at =
      let i = tac.Convert (Structure size) d a next in
      let k = node c IsGood right u n temps ws s v xs h i at in
      keeps i k d a next refl (inl refl) refl (eq-eqb a a refl) (omega (arith, k.temporaries_low))
      (omega (arith, k.temporaries_low)) k.put.has k.put.leads

  pub convert_array : (size d a next : ℕ) → slice_get h.code.code n ≡ Some (tac.Convert (Array size) d a next)
      → Gives (effect c.setting (expansion_of c).code (tac.Convert (Array size) d a next) u temps ws (spent 1 s))
  convert_array size d a next at =
      let i = tac.Convert (Array size) d a next in
      let k = node c IsGood right u n temps ws s v xs h i at in
      keeps i k d a next refl (inl refl) refl (eq-eqb a a refl) (omega (arith, k.temporaries_low))
      (omega (arith, k.temporaries_low)) k.put.has k.put.leads
