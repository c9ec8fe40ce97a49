-- Plain variables that are set.
use Rattle.std.proofs.Common.{◌≡◌, ◌≢◌, ◌⊎◌, inl, inr, ℕ, zero, suc, ◌+◌, ◌*◌, ◌^◌, ◌<◌, ◌≤◌, Bool, true, false, List}
use Rattle.std.proofs.Common.{[], ◌∷◌}
use Rattle.std.proofs.Common.{length, length-set, set, Option, Some, None, refl, sym, ap, ◌∙◌, subst, arith, get_or}
use Rattle.std.proofs.Common.{ltb-true}
use Rattle.std.specs.Prelude.{slice_get, ◌==◌, ◌&&◌}
use Rattle.std.proofs.lemmas.Bool.{and_parts, eq-eqb, eqb-true, eqb-false}
use Rattle.std.proofs.lemmas.List.{get_or-set_same, get_or-set_other, length-map}
use Rattle.std.proofs.lemmas.Option.{same_Some}
use Rattle.obj_memory.specs.declared.value.Tag.{Tag}
use Rattle.obj_memory.specs.declared.value.Tag.TheVariants.{Untagged, OfFunction, OfObject}
use Rattle.obj_memory.specs.declared.value.Value.{Value}
use Rattle.obj_memory.specs.declared.value.Scalar.{Scalar}
use Rattle.obj_memory.specs.declared.value.Scalar.TheVariants.{Integer, Pointer}
use Rattle.obj_memory.specs.Integers.{fit}
use Rattle.obj_memory.specs.Objects.{ObjectState}
use Rattle.obj_memory.specs.Sound.{IsSoundTag}
use Rattle.c_tree.specs.declared.program.Variable.{Variable}
use Rattle.c_tree.specs.Programs.{Function}
use Rattle.source_meaning.specs.State.{State}
use Rattle.source_meaning.specs.Actions.{integer}
use Rattle.source_meaning.specs.Calls.{header_of}
use Rattle.source_meaning.specs.Good.{function_count, IsOfType, plain_type}
use Rattle.tac_ir.specs.declared.instruction.Instruction.{Instruction}
use Rattle.tac_ir.specs.declared.instruction.Instruction.TheVariants as tac
use Rattle.tac_ir.specs.Edges.{LeadsTo}
use Rattle.tac_ir.specs.Fitting.{has_no_tag, is_of_type, is_held}
use Rattle.tac_ir.specs.Accesses.{is_place}
use Rattle.tac_ir.specs.Stage.{Temps, Frame, Stands}
use Rattle.tac_ir.specs.Costs.{spent}
use Rattle.tac_ir.specs.Meaning.{effect, function_in as code_in, variables_in}
use Rattle.flat_code.specs.declared.instruction.FlatInstruction.{FlatInstruction}
use Rattle.flat_code.specs.Memory.{Bytes, put}
use Rattle.flat_code.specs.State as flat
use Rattle.flat_code.specs.Calls.{function_in}
use Rattle.flat_code.specs.Meaning.{body_of}
use Rattle.flat_code.proofs.Stored.{put_same, put_other}
use Rattle.flat_code.specs.Routines.Routine.{HasAt}
use Rattle.metadata_plan.specs.Registers.{all_variables, most_temporaries}
use Rattle.metadata_plan.specs.Entries.{given, is_pointer_type as is_pointer}
use Rattle.metadata_plan.specs.Expanded.{Leads}
use Rattle.metadata_relation.specs.Registers.{variable_register, temporary_register, first_free}
use Rattle.metadata_relation.specs.Blocks.{move_value, set_code}
use Rattle.metadata_relation.specs.Holding.{World, IsHeldAt, IsRvalueAt, HasNoTag, is_pointer_type}
use Rattle.metadata_relation.specs.Scopes.{Names, scope_of, base_of, context_at, AreGood}
use Rattle.metadata_relation.specs.Stages.{factor, Compiled, map_of, views, names, world, activation, expansion_of}
use Rattle.metadata_relation.specs.Stages.{IsAt}
use Rattle.metadata_relation.specs.Steps.{IsCompiled}
use Rattle.metadata_plan.proofs.Flat.{Comes, move_comes}
use Rattle.metadata_relation.proofs.Assigning.{assigned, assigns, moved}
use Rattle.metadata_relation.proofs.Registers.{count_in, variable_low}
use Rattle.metadata_relation.proofs.Holding.{same_world, gives_variable}
use Rattle.metadata_relation.proofs.Standing.{leaves_same, good_then, good_now, counted_as, IsNode, node, none_more}
use Rattle.metadata_relation.proofs.Standing.{none_less, arrives, leads_on, Result}

-- ---- values of types

pub untagged_is : (t : Tag) → has_no_tag t ≡ true → t ≡ Untagged
untagged_is Untagged e = refl
untagged_is (OfFunction f) e = cc
untagged_is (OfObject o b) e = cc

pub type_is : (functions : ℕ) (k : Scalar) (v : Value) → is_of_type k v ≡ true → IsOfType functions k v
type_is functions (Integer t) v e =
    let p = and_parts (has_no_tag v.tag) (fit t v.word == v.word) e in
    (untagged_is v.tag p.0, eqb-true (fit t v.word) v.word p.1)
type_is functions Pointer v e = λ low. ltb-true v.word (2 ^ 64) e

pub no_tag_is : (k : Scalar) (v : Value) → is_of_type k v ≡ true → HasNoTag k v
no_tag_is (Integer t) v e = untagged_is v.tag (and_parts (has_no_tag v.tag) (fit t v.word == v.word) e).0
no_tag_is Pointer v e = tt

pub place_is : (o : Option ObjectState) → is_place o ≡ true → o ≡ None
place_is None e = refl
place_is (Some c) e = cc

pub plain_inside : (vs : List Variable) (x : ℕ) (k : Scalar) → plain_type vs x ≡ Some k → x < length vs
plain_inside [] x k e = cc
plain_inside (v ∷ vs) zero k e = omega arith
plain_inside (v ∷ vs) (suc x) k e = omega (arith, plain_inside vs x k e)

-- ---- states

-- the functions that a scope has are those of the program
pub functions_same : (n : Names) (u : ℕ) → length (base_of n u).functions ≡ length n.typed.functions
functions_same n u = by (slice_get n.typed.functions u)
  where
    by : (o : Option Function) → length (scope_of n.typed o).functions ≡ length n.typed.functions
    by None = length-map n.typed.functions _
    by (Some f) = length-map n.typed.functions _

-- a plain variable that gets a value of its type leaves a good state
pub good_set : (n : Names) (u : ℕ) (ws : List Frame) (s : State) (x w : ℕ) (k : Scalar) (value : Value)
    → plain_type (variables_in (code_in n.tac u)) x ≡ Some k → x < length s.plain → is_of_type k value ≡ true
    → IsSoundTag (length n.typed.functions) s.objects value.tag → AreGood n u ws s
    → AreGood n u ws (record (counted_as s s.input s.output s.taken s.turns w) { plain = set s.plain x value })
good_set n u ws s x w k value typed inside fits sound h =
    let sc = context_at n u ws in
    let good = good_now n u ws s h in
    let l = leaves_same sc s good in
    let count = functions_same n u in
    let value_at = λ (y : ℕ). get_or (set s.plain x value) y (integer 0) in
    good_then n u ws s (record (counted_as s s.input s.output s.taken s.turns w) { plain = set s.plain x value })
    (record {
      good = record {
        kept = good.kept;
        low = good.low;
        statics = good.statics;
        homes = good.homes;
        plain = λ y. tagged y (y == x) refl;
        typed = record {
          there = λ y t e. (let a = good.typed.there y t e in let b = length-set s.plain x value in omega arith);
          value = λ y t e. of_type y t e (y == x) refl;
          named = good.typed.named;
        };
        separate = good.separate;
      };
      lives = l.lives;
      frame = l.frame;
      ended = l.ended;
    }) h
  where
    tagged : (y : ℕ) (b : Bool) → (y == x) ≡ b
        → IsSoundTag (function_count (context_at n u ws)) s.objects (get_or (set s.plain x value) y (integer 0)).tag
    tagged y true e =
        let one : y ≡ x = eqb-true y x e in
        let is : get_or (set s.plain x value) y (integer 0) ≡ value =
        ap (λ z. get_or (set s.plain x value) z (integer 0)) one ∙ get_or-set_same s.plain x value (integer 0) inside in
        subst (λ (z : Value). IsSoundTag (function_count (context_at n u ws)) s.objects z.tag) (sym is)
        (subst (λ z. IsSoundTag z s.objects value.tag) (sym (functions_same n u)) sound)
    tagged y false e =
        subst (λ (z : Value). IsSoundTag (function_count (context_at n u ws)) s.objects z.tag)
        (sym (get_or-set_other s.plain x y value (integer 0) (eqb-false y x e))) ((good_now n u ws s h).plain y)

    of_type : (y : ℕ) (t : Scalar) → plain_type (variables_in (code_in n.tac u)) y ≡ Some t → (b : Bool)
        → (y == x) ≡ b
        → IsOfType (function_count (context_at n u ws)) t (get_or (set s.plain x value) y (integer 0))
    of_type y t e true is =
        let one : y ≡ x = eqb-true y x is in
        let same : k ≡ t = same_Some k t
        (sym typed ∙ ap (plain_type (variables_in (code_in n.tac u))) (sym one) ∙ e) in
        let got : get_or (set s.plain x value) y (integer 0) ≡ value =
        ap (λ z. get_or (set s.plain x value) z (integer 0)) one ∙ get_or-set_same s.plain x value (integer 0) inside in
        subst (λ z. IsOfType (function_count (context_at n u ws)) t z) (sym got)
        (subst (λ z. IsOfType (function_count (context_at n u ws)) z value) same
        (type_is (function_count (context_at n u ws)) k value fits))
    of_type y t e false is =
        subst (λ z. IsOfType (function_count (context_at n u ws)) t z)
        (sym (get_or-set_other s.plain x y value (integer 0) (eqb-false y x is)))
        ((good_now n u ws s h).typed.value y t e)

-- ---- the step

-- a value without contents is held
rvalue_held : (w : World) (b : Bool) (value : Value) (o : Option ObjectState) (greatest area r : ℕ)
    (values : flat.Values) → o ≡ None → IsRvalueAt w b value o greatest area r values → IsHeldAt w b value r values
rvalue_held w b value None greatest area r values e q = q
rvalue_held w b value (Some z) greatest area r values e q = cc

module _ (c : Compiled) (IsGood : Bytes → Type 0) (right : IsCompiled c IsGood) (u n : ℕ) (temps : Temps)
    (ws : List Frame) (s : State) (v : flat.State) (xs : List flat.Frame)
    (h : IsAt c IsGood u n temps ws s u (c.layout.address u n) v xs) where
  abbrev pc : ℕ
  pc = c.layout.address u n

  abbrev T : (temporary : ℕ) → ℕ
  T i = temporary_register h.code i

  abbrev V : (variable : ℕ) → ℕ
  V x = variable_register h.code x

  abbrev body : List FlatInstruction
  body = body_of (function_in c.layout.program u)

  variables_same : variables_in (code_in c.layout.expansion.code u) ≡ all_variables h.code
  variables_same = ap variables_in h.there

  -- registers of a plain variable alone change
  pub gives_plain : (i : Instruction) → IsNode c u n h.code i → (x next : ℕ) (k : Scalar) (value : Value)
      (values : flat.Values) (most work : ℕ) → given i ≡ None → LeadsTo i next
      → plain_type (all_variables h.code) x ≡ Some k → is_of_type k value ≡ true
      → Comes (map_of c) c.layout.program u pc v xs (c.layout.address u next) (record v { values = values }) most
      → ((y : ℕ) → y < first_free h.code → (y < V x) ⊎ (V x + count_in k ≤ y) → values y ≡ v.values y)
      → IsHeldAt (world c h.keys s v) (is_pointer_type k) value (V x) values
      → most + factor * s.work ≤ factor * work
      → Result c IsGood (Stands u next temps ws (record s { work = work; plain = set s.plain x value }))
      (flat.Stands u (c.layout.address u n) v xs)
  gives_plain i nd x next k value values most work gives leads typed fits comes others held cost =
      let shown = h.stands.for.shown in
      let count = h.holds.count in
      let low = plain_inside (all_variables h.code) x k typed in
      let inside : x < length s.plain = omega arith in
      let below = variable_low h.code x k typed in
      let functions : length c.setting.functions ≡ length c.typed.functions =
      ap length (sym right.functions) ∙ length-map c.typed.functions header_of in
      arrives c IsGood right u n temps ws s v xs h next temps (set s.plain x value) s.input s.output s.taken s.turns work
      values v.input v.output v.taken v.turns most comes (shown.input, shown.output, shown.taken, h.stands.turns)
      (good_set (names c) u ws s x work k value
      (ap (λ z. plain_type z x) variables_same ∙ typed) inside fits
      (subst (λ z. IsSoundTag z s.objects value.tag) functions held.sound) h.steady.good)
      (gives_variable (views c) h.keys h.keys s.objects s.objects v.memory v.memory
      (same_world (views c) h.keys s.objects v.memory) (activation c h.code u n s) (c.layout.expansion.entries u next)
      (c.layout.expansion.contents u next) temps s.plain s.frame v.values values x k value typed inside
      (none_more c IsGood right u n temps ws s v xs h i nd next gives leads)
      (none_less c IsGood right u n temps ws s v xs h i nd next gives leads) (λ y o home live held. live) others
      (record { value = held; no_tag = no_tag_is k value fits }) h.holds)
      (λ r from to. others r (omega arith) (inr (omega arith))) cost

  -- a variable is set to the value of a temporary, which is one of its type
  pub set_plain_step : (x a next : ℕ) → slice_get h.code.code n ≡ Some (tac.SetPlain x a next)
      → is_held (plain_type (variables_in (code_in c.layout.expansion.code u)) x) (temps a) ≡ true
      → Result c IsGood (effect c.setting (expansion_of c).code (tac.SetPlain x a next) u temps ws (spent 1 s))
      (flat.Stands u (c.layout.address u n) v xs)
  set_plain_step x a next at fits =
      by (plain_type (all_variables h.code) x) refl
      (subst (λ z. is_held (plain_type z x) (temps a) ≡ true) variables_same fits)
    where
      nd : IsNode c u n h.code (tac.SetPlain x a next)
      nd = node c IsGood right u n temps ws s v xs h (tac.SetPlain x a next) at

      low : a < most_temporaries h.code.code
      low = nd.temporaries_low

      by_type : (k : Scalar) → plain_type (all_variables h.code) x ≡ Some k → is_of_type k (temps a).value ≡ true
          → IsHeldAt (world c h.keys s v) (c.layout.expansion.entries u n a) (temps a).value
          (temporary_register h.code a) v.values
          → HasAt (body_of (function_in c.layout.program u)) (c.layout.address u n)
          (set_code (Some k) (variable_register h.code x) (temporary_register h.code a))
          → Leads (body_of (function_in c.layout.program u)) (c.layout.address u n
          + length (set_code (Some k) (variable_register h.code x) (temporary_register h.code a))) (c.layout.address u next)
          → Result c IsGood
          (Stands u next temps ws (record s { work = s.work + 1; plain = set s.plain x (temps a).value }))
          (flat.Stands u (c.layout.address u n) v xs)
      by_type (Integer t) typed fits is has on =
          let values = put v.values (V x) (v.values (T a)) in
          gives_plain (tac.SetPlain x a next) nd x next (Integer t) (temps a).value values 4 (s.work + 1) refl (inl refl)
          typed fits
          (leads_on c IsGood right u n temps ws s v xs h (c.layout.address u n + 1) (c.layout.address u next)
          (record v { values = values }) 2
          (move_comes (map_of c) c.layout.program u (c.layout.address u n) v xs (V x) (T a) has.0) on)
          (λ y lt out. put_other v.values (V x) (v.values (T a)) y (outside y out))
          (record {
            word = put_same v.values (V x) (v.values (T a)) ∙ is.word;
            entry = λ e. cc;
            sound = is.sound;
          })
          (omega arith)
        where
          outside : (y : ℕ) → (y < variable_register h.code x) ⊎ (variable_register h.code x + 1 ≤ y)
              → y ≢ variable_register h.code x
          outside y (inl below) e = absurd (omega arith)
          outside y (inr above) e = absurd (omega arith)
      by_type Pointer typed fits is has on =
          let list = move_value true (V x) (T a) in
          let below = variable_low h.code x Pointer typed in
          let z = moved (V x) (T a) v.values (inr (inl (omega arith))) in
          let reads : (a == a && is_pointer (plain_type (all_variables h.code) x)) ≡ true =
          ap (λ b. b && is_pointer (plain_type (all_variables h.code) x)) (eq-eqb a a refl) ∙ ap is_pointer typed in
          let spells = is.entry (nd.closed.read n a (tac.SetPlain x a next) at reads) in
          gives_plain (tac.SetPlain x a next) nd x next Pointer (temps a).value (assigned list v.values) 12 (s.work + 1)
          refl (inl refl) typed fits
          (leads_on c IsGood right u n temps ws s v xs h (c.layout.address u n + 5) (c.layout.address u next)
          (record v { values = assigned list v.values }) 10
          (assigns (map_of c) c.layout.program u xs list refl (c.layout.address u n) v has) on)
          (λ y lt out. z.others y out)
          (record {
            word = z.value ∙ is.word;
            entry = λ e. record { word = z.value ∙ is.word; tag = z.entry ∙ spells.tag };
            sound = is.sound;
          })
          (omega arith)

      by : (o : Option Scalar) → plain_type (all_variables h.code) x ≡ o → is_held o (temps a) ≡ true
          → Result c IsGood
          (Stands u next temps ws (record s { work = s.work + 1; plain = set s.plain x (temps a).value }))
          (flat.Stands u (c.layout.address u n) v xs)
      by None e f = cc
      by (Some k) e f =
          let p = and_parts (is_place (temps a).contents) (is_of_type k (temps a).value) f in
          let t = h.holds.temporaries a low refl in
          by_type k e p.1 (rvalue_held (world c h.keys s v) (c.layout.expansion.entries u n a) (temps a).value (temps a).contents
          _ _ (temporary_register h.code a) v.values (place_is (temps a).contents p.0) t.by)
          (subst (λ o. HasAt (body_of (function_in c.layout.program u)) (c.layout.address u n)
          (set_code o (variable_register h.code x) (temporary_register h.code a))) e nd.put.has)
          (subst (λ o. Leads (body_of (function_in c.layout.program u)) (c.layout.address u n
          + length (set_code o (variable_register h.code x) (temporary_register h.code a))) (c.layout.address u next)) e
          nd.put.leads)
