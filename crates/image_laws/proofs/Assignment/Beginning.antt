-- The code with which a function begins assigns what it reads, and makes its plain variables and the homes of its body.
use Rattle.std.proofs.Common.{◌≡◌, ◌⊎◌, inl, inr, ⊎_elim, ℕ, zero, suc, ◌+◌, ◌<◌, ◌≤◌, refl, sym, ap, ◌∙◌, subst}
use Rattle.std.proofs.Common.{arith}
use Rattle.std.proofs.Common.{Bool, true, false, List, [], ◌∷◌, ◌++◌, Some}
use Rattle.std.specs.Prelude.{slice_get, if◌then◌else◌}
use Rattle.std.proofs.lemmas.Bool.{false≢true}
use Rattle.std.proofs.lemmas.Option.{same_Some, none-some}
use Rattle.sb_base.specs.declared.ending.Ending.TheVariants.{Abort}
use Rattle.obj_memory.specs.declared.value.Scalar.{Scalar}
use Rattle.obj_memory.specs.declared.value.Scalar.TheVariants.{Integer, Pointer}
use Rattle.c_tree.specs.declared.expression.Kind.{Kind}
use Rattle.c_tree.specs.declared.expression.Kind.TheVariants.{Void, Scalar as OfScalar, Structure, Array}
use Rattle.c_tree.specs.declared.program.Variable.{Variable}
use Rattle.source_meaning.specs.Blocks.{has_objects}
use Rattle.source_meaning.specs.Good.{plain_type}
use Rattle.tac_ir.specs.declared.function.CodeFunction.{CodeFunction}
use Rattle.flat_code.specs.declared.instruction.FlatInstruction.{FlatInstruction}
use Rattle.flat_code.specs.declared.instruction.FlatInstruction.TheVariants.{Constant}
use Rattle.flat_code.specs.declared.function.FlatProgram.{FlatProgram}
use Rattle.flat_code.specs.Routines.Metadata.{entry_registers}
use Rattle.shadow_space.specs.Form.{EntryCode}
use Rattle.runtime_functions.specs.declared.runtime.RuntimeFunction.TheVariants.{Enter, PutArea}
use Rattle.runtime_functions.specs.Library.{register_count as passed_count}
use Rattle.metadata_plan.specs.Registers.{all_variables}
use Rattle.metadata_plan.specs.OperatorLists.Operators.{operators}
use Rattle.metadata_relation.specs.Homes.{register_count}
use Rattle.metadata_relation.specs.InlineLists.{inline_lists}
use Rattle.metadata_relation.specs.Registers.{passed_as, parameters_end, parameter_words, variable_words}
use Rattle.metadata_relation.specs.Registers.{total}
use Rattle.metadata_relation.specs.Registers.{before, register_in, variable_register, home_register, home_entry}
use Rattle.metadata_relation.specs.Registers.{first_free}
use Rattle.metadata_relation.specs.Registers.{first_object, top_register}
use Rattle.metadata_relation.specs.Blocks.{Expansion, zeros, zero_variables, store_parameter, store_parameters}
use Rattle.metadata_relation.specs.Blocks.{enter_body}
use Rattle.metadata_relation.specs.Blocks.{enter_code, enter_place, prologue, held_scalar, objects_of_body}
use Rattle.metadata_relation.specs.Blocks.{runtime_number}
use Rattle.metadata_relation.specs.Structures.{put_area_place}
use Rattle.metadata_relation.proofs.Registers.{count_in, plain_words}
use Rattle.image_laws.specs.Plans.Assignment.{Registers, IsOneOf, Assigns, Names}
use Rattle.image_laws.specs.Plans.EntryLists.{AssignEntries}
use Rattle.image_laws.specs.Plans.Instructions.{homes_from, entered_registers, numbers_from, begin_made, HasCallees}
use Rattle.image_laws.specs.Plans.Instructions.{stored_register, stored_registers}
use Rattle.image_laws.proofs.Assignment.Flows.{Flows, LastIn, and_then, last_both}
use Rattle.image_laws.proofs.Assignment.Straight.{AllFrom, AreIn, straight, nothing, ends_run}
use Rattle.image_laws.proofs.Assignment.Operators.{are_quiet, quiet_last}
use Rattle.image_laws.proofs.Assignment.Values.{Block, block_assigns}
use Rattle.image_laws.proofs.Assignment.Pieces.{from_first, from_behind, value_in}
use Rattle.image_laws.proofs.Assignment.Calls.{one_left, one_right}
use Rattle.image_laws.proofs.Assignment.Accesses.{AreOwn, fewer_own, scalar_registers, store_flows, store_last}
use Rattle.image_laws.proofs.Assignment.Homes.{entered_block, enter_last}
use Rattle.image_laws.proofs.Assignment.Sites.{home_most}
use Rattle.image_laws.proofs.Assignment.Structures.{Serves, parameter_last, parameter_stored}

-- ---- homes of the objects of a body

-- each object among some variables, the first of which has a number, has its home among theirs
homes_have : (c : CodeFunction) (vs : List Variable) (first x : ℕ) (v : Variable) → slice_get vs x ≡ Some v
    → v.is_object ≡ true → (y : ℕ) → IsOneOf (entry_registers (home_entry c (first + x))) y
    → IsOneOf (homes_from c first vs) y
homes_have c [] first x v at object y h = absurd (none-some v at)
homes_have c (w ∷ vs) first zero v at object y h =
    let here : first + 0 ≡ first = omega arith in
    by w.is_object (ap (λ z. z.is_object) (same_Some w v at) ∙ object)
    (subst (λ k. IsOneOf (entry_registers (home_entry c k)) y) here h)
  where
    by : (b : Bool) → b ≡ true → IsOneOf (entry_registers (home_entry c first)) y
        → IsOneOf (if b then entry_registers (home_entry c first) ++ homes_from c (suc first) vs else homes_from c (suc first) vs) y
    by true e h = one_left (entry_registers (home_entry c first)) (homes_from c (suc first) vs) y h
    by false e h = absurd (false≢true e)
homes_have c (w ∷ vs) first (suc x) v at object y h =
    let there : first + suc x ≡ suc first + x = omega arith in
    by w.is_object
    (homes_have c vs (suc first) x v at object y
    (subst (λ k. IsOneOf (entry_registers (home_entry c k)) y) there h))
  where
    by : (b : Bool) → IsOneOf (homes_from c (suc first) vs) y
        → IsOneOf (if b then entry_registers (home_entry c first) ++ homes_from c (suc first) vs else homes_from c (suc first) vs) y
    by true h = one_right (entry_registers (home_entry c first)) (homes_from c (suc first) vs) y h
    by false h = h

-- ---- where plain variables stand

-- among the arguments, or behind them among those that become 0
pub record IsBehind (first count y : ℕ) : Type 0 where
  pub number : ℕ
  pub low : number < count
  pub is : y ≡ first + number

variables_stand : (vs : List Variable) (x j : ℕ) (k : Scalar) → plain_type vs x ≡ Some k → j < count_in k
    → before variable_words x vs + j < total variable_words vs
variables_stand [] x j k e lt = absurd (none-some k e)
variables_stand (v ∷ vs) zero j k e lt = let w = plain_words v k e in omega (arith, lt, w.0)
variables_stand (v ∷ vs) (suc x) j k e lt = let below = variables_stand vs x j k e lt in omega (arith, below)

pub stands : (ps vs : List Variable) (x j : ℕ) (k : Scalar) → plain_type (ps ++ vs) x ≡ Some k → j < count_in k
    → (register_in ps vs x + j < total parameter_words ps)
    ⊎ IsBehind (total parameter_words ps + 1) (total variable_words vs) (register_in ps vs x + j)
stands [] vs x j k e lt =
    inr (record {
      number = before variable_words x vs + j;
      low = variables_stand vs x j k e lt;
      is = omega arith;
    })
stands (p ∷ ps) vs zero j k e lt = let w = plain_words p k e in inl (omega (arith, lt, w.1))
stands (p ∷ ps) vs (suc x) j k e lt =
    ⊎_elim (λ low. inl (omega (arith, low)))
    (λ b. inr (record { number = b.number; low = b.low; is = let same = b.is in omega (arith, same) }))
    (stands ps vs x j k e lt)

-- a parameter that is an object is handed over as a scalar too
parameter_stands : (ps vs : List Variable) (x : ℕ) (v : Variable) → slice_get ps x ≡ Some v
    → register_in ps vs x + parameter_words v ≤ total parameter_words ps
parameter_stands [] vs x v at = absurd (none-some v at)
parameter_stands (p ∷ ps) vs zero v at =
    let same = ap parameter_words (same_Some p v at) in omega (arith, same)
parameter_stands (p ∷ ps) vs (suc x) v at = let low = parameter_stands ps vs x v at in omega (arith, low)

module _ (p : FlatProgram) (u : ℕ) (whole : Expansion) (read write : EntryCode) (entries : AssignEntries read write)
    (callees : HasCallees p whole.code) (c : CodeFunction) (parameters : ℕ)
    (same : parameters ≡ parameters_end c) where
  abbrev e : Expansion
  e = record whole { inline = inline_lists read write whole.map }

  abbrev P : Registers
  P y = y < register_count c

  -- the arguments are given
  abbrev G : Registers
  G y = y < parameters

  low : (y : ℕ) → G y → P y
  low y lt = omega (arith, lt, same)

  own : AreOwn P (first_free c) 16
  own y le lt = omega (arith, lt)

  home_named : (x : ℕ) → AreIn (entry_registers (home_entry c x)) P
  home_named x =
      let le = home_most (all_variables c) x in
      (omega (arith, le), (omega (arith, le), (omega (arith, le), (omega (arith, le), tt))))

  top_named : (vs : List Variable) → P (top_register c vs)
  top_named vs = let le = home_most (all_variables c) (first_object vs) in omega (arith, le)

  -- ---- plain variables become 0

  zeros_flows : (n r : ℕ) (R : Registers) → ((y : ℕ) → R y → P y) → AllFrom P r n
      → Flows p u P R (zeros r n) 0 (numbers_from r n)
  zeros_flows zero r R low' named = nothing p u P R low'
  zeros_flows (suc n) r R low' named =
      and_then p u P R (Constant r 0 ∷ []) (zeros (r + 1) n) 0 (r ∷ []) (numbers_from (r + 1) n)
      (straight p u P 0 R (Constant r 0 ∷ []) (tt, from_first P r n named, tt, tt) low' (r ∷ []) (inr refl, tt))
      (λ S keeps made low''. zeros_flows n (r + 1) S low'' (from_behind P r n named))

  zeros_quiet : (n r : ℕ) → are_quiet (zeros r n) ≡ true
  zeros_quiet zero r = refl
  zeros_quiet (suc n) r = zeros_quiet n (r + 1)

  -- ---- parameters that are objects

  scalar_given : (k : Scalar) (r : ℕ) (S : Registers) → AllFrom S r (passed_count (passed_as (OfScalar k)))
      → AreIn (scalar_registers (held_scalar k r)) S
  scalar_given (Integer t) r S all = (from_first S r 0 all, tt)
  scalar_given Pointer r S all = value_in S true r all

  -- the function that puts a structure to its home
  puts : Serves p (runtime_number whole.code put_area_place) 7
  puts = callees.runtime put_area_place PutArea refl

  -- those of a list stand at the numbers from one on among all parameters
  abbrev AreParameters : (first : ℕ) → List Variable → Type 0
  AreParameters x vs = (k : ℕ) (v : Variable) → slice_get vs k ≡ Some v → slice_get c.parameters (x + k) ≡ Some v

  one_stored : (kind : Kind) (x : ℕ) (v : Variable) (S : Registers) → ((y : ℕ) → S y → P y) → v.kind ≡ kind
      → slice_get c.parameters x ≡ Some v → ((y : ℕ) → G y → S y) → S (home_register c x)
      → Flows p u P S (store_parameter e.inline whole.code c kind x) 0 (stored_register c kind)
  one_stored (OfScalar k) x v S low' is at keeps home =
      let r = variable_register c x in
      let end = parameter_stands c.parameters c.variables x v at in
      let words : passed_count (passed_as (OfScalar k)) ≡ parameter_words v = ap (λ z. passed_count (passed_as z)) (sym is) in
      store_flows p u P read write entries whole.map S low' (home_register c x) (held_scalar k r) (first_free c) home
      (scalar_given k r S (λ j lt. keeps (r + j) (omega (arith, lt, end, words, same))))
      (fewer_own P (first_free c) 16 (first_free c) 5 (omega arith) (omega arith) own)
  one_stored Void x v S low' is at keeps home = ends_run p u P S (Abort 1) [] low' tt
  one_stored (Structure n) x v S low' is at keeps home =
      let r = variable_register c x in
      let end = parameter_stands c.parameters c.variables x v at in
      let words : 5 ≡ parameter_words v = ap (λ z. passed_count (passed_as z)) (sym is) in
      parameter_stored p u P S low' (runtime_number whole.code) n (home_register c x) r (first_free c) puts home
      (value_in S true r (λ j lt. keeps (r + j) (omega (arith, lt, end, words, same))))
      (fewer_own P (first_free c) 16 (first_free c) 8 (omega arith) (omega arith) own)
  one_stored (Array n) x v S low' is at keeps home = ends_run p u P S (Abort 1) [] low' tt

  one_last : (E : Registers) (kind : Kind) (x : ℕ) → ((y : ℕ) → IsOneOf (stored_register c kind) y → E y)
      → LastIn p E (store_parameter e.inline whole.code c kind x)
  one_last E (OfScalar k) x has =
      store_last p u P read write entries whole.map E (home_register c x) (held_scalar k (variable_register c x)) (first_free c)
  one_last E Void x has = inl refl
  one_last E (Structure n) x has =
      parameter_last p u P E (runtime_number whole.code) n (home_register c x) (variable_register c x) (first_free c) puts
      (has (first_free c + 7) (inl refl))
  one_last E (Array n) x has = inl refl

  stored_flows : (vs : List Variable) (x : ℕ) (S : Registers) → ((y : ℕ) → S y → P y) → AreParameters x vs
      → ((y : ℕ) → G y → S y)
      → ((k : ℕ) (v : Variable) → slice_get c.parameters k ≡ Some v → v.is_object ≡ true → S (home_register c k))
      → Flows p u P S (store_parameters e.inline whole.code c x vs) 0 (stored_registers c vs)
  stored_flows [] x S low' are keeps homes = nothing p u P S low'
  stored_flows (v ∷ vs) x S low' are keeps homes =
      and_then p u P S (if v.is_object then store_parameter e.inline whole.code c v.kind x else [])
      (store_parameters e.inline whole.code c (suc x) vs) 0 (if v.is_object then stored_register c v.kind else [])
      (stored_registers c vs) (by v.is_object refl)
      (λ T keeps' made low''.
      stored_flows vs (suc x) T low''
      (λ k w at. let place : x + suc k ≡ suc x + k = omega arith in
      subst (λ z. slice_get c.parameters z ≡ Some w) place (are (suc k) w at))
      (λ y g. keeps' y (keeps y g)) (λ k w at object. keeps' (home_register c k) (homes k w at object)))
    where
      here : slice_get c.parameters x ≡ Some v
      here = let place : x + 0 ≡ x = omega arith in subst (λ z. slice_get c.parameters z ≡ Some v) place (are 0 v refl)

      by : (b : Bool) → v.is_object ≡ b
          → Flows p u P S (if b then store_parameter e.inline whole.code c v.kind x else []) 0
          (if b then stored_register c v.kind else [])
      by true object = one_stored v.kind x v S low' refl here keeps (homes x v here object)
      by false object = nothing p u P S low'

  stored_last : (E : Registers) (vs : List Variable) (x : ℕ) → ((y : ℕ) → IsOneOf (stored_registers c vs) y → E y)
      → LastIn p E (store_parameters e.inline whole.code c x vs)
  stored_last E [] x has = tt
  stored_last E (v ∷ vs) x has =
      let own = if v.is_object then stored_register c v.kind else [] in
      last_both p E (if v.is_object then store_parameter e.inline whole.code c v.kind x else [])
      (store_parameters e.inline whole.code c (suc x) vs)
      (by v.is_object (λ y one. has y (one_left own (stored_registers c vs) y one)))
      (stored_last E vs (suc x) (λ y one. has y (one_right own (stored_registers c vs) y one)))
    where
      by : (b : Bool) → ((y : ℕ) → IsOneOf (if b then stored_register c v.kind else []) y → E y)
          → LastIn p E (if b then store_parameter e.inline whole.code c v.kind x else [])
      by true has = one_last E v.kind x has
      by false has = tt

  -- ---- all of it

  abbrev zeroed : List ℕ
  zeroed = numbers_from (parameters_end c + 1) (total variable_words c.variables)

  object_home : (k : ℕ) (v : Variable) → slice_get c.parameters k ≡ Some v → v.is_object ≡ true
      → IsOneOf (homes_from c 0 (objects_of_body c)) (home_register c k)
  object_home k v at object =
      let place : 0 + k ≡ k = omega arith in
      homes_have c (objects_of_body c) 0 k v (in_front c.parameters c.entered k v at) object (home_register c k)
      (subst (λ z. IsOneOf (entry_registers (home_entry c z)) (home_register c k)) (sym place) (inl refl))
    where
      in_front : (xs ys : List Variable) (k : ℕ) (v : Variable) → slice_get xs k ≡ Some v
          → slice_get (xs ++ ys) k ≡ Some v
      in_front [] ys k v at = absurd (none-some v at)
      in_front (x ∷ xs) ys zero v at = at
      in_front (x ∷ xs) ys (suc k) v at = in_front xs ys k v at

  body_block : (b : Bool)
      → Block p u P G
      (zero_variables c ++ (if b then enter_body e c else [])) 0
      (zeroed
      ++ (if b then entered_registers c (objects_of_body c) ++ stored_registers c c.parameters else []))
  body_block b = by b
    where
      first : Flows p u P G (zero_variables c) 0 zeroed
      first =
          zeros_flows (total variable_words c.variables) (parameters_end c + 1) G low (λ j lt. omega (arith, lt))

      quiet : (E : Registers) → LastIn p E (zero_variables c)
      quiet E = quiet_last p E (zero_variables c) (zeros_quiet (total variable_words c.variables) (parameters_end c + 1))

      vs : List Variable
      vs = objects_of_body c

      enter : List FlatInstruction
      enter = enter_code operators whole.map whole.code c vs c.line

      store : List FlatInstruction
      store = store_parameters e.inline whole.code c 0 c.parameters

      stored : List ℕ
      stored = stored_registers c c.parameters

      entered : (S : Registers) → ((y : ℕ) → S y → P y) → Block p u P S enter 0 (entered_registers c vs)
      entered S low' =
          let known = callees.runtime enter_place Enter refl in
          entered_block p u P whole.map whole.code c vs c.line home_named (top_named vs) own S low' known.0 known.1

      by : (b : Bool)
          → Block p u P G (zero_variables c ++ (if b then enter ++ store else [])) 0
          (zeroed ++ (if b then entered_registers c vs ++ stored else []))
      by false = record {
        flows = and_then p u P G (zero_variables c) [] 0 zeroed [] first (λ S keeps made low'. nothing p u P S low');
        last = last_both p (λ y. G y ⊎ IsOneOf (zeroed ++ []) y) (zero_variables c) [] (quiet (λ y. G y ⊎ IsOneOf (zeroed ++ []) y)) tt;
      }
      by true =
          let made = entered_registers c vs ++ stored in
          let E = λ (y : ℕ). G y ⊎ IsOneOf (zeroed ++ made) y in
          record {
            flows = and_then p u P G (zero_variables c) (enter ++ store) 0 zeroed made first
                (λ S keeps zeros low'.
                and_then p u P S enter store 0 (entered_registers c vs) stored (entered S low').flows
                (λ T keeps' made' low''.
                stored_flows c.parameters 0 T low''
                (λ k v at. let place : 0 + k ≡ k = omega arith in
                subst (λ z. slice_get c.parameters z ≡ Some v) (sym place) at)
                (λ y g. keeps' y (keeps y g))
                (λ k v at object. made' (home_register c k) (inr (object_home k v at object)))));
            last = last_both p E (zero_variables c) (enter ++ store) (quiet E)
                (last_both p E enter store (enter_last p u P whole.map whole.code c vs c.line E)
                (stored_last E c.parameters 0
                (λ y one. inr (one_right zeroed made y (one_right (entered_registers c vs) stored y one)))));
          }

  begin_block : Block p u P G (prologue e c) 0 (begin_made c)
  begin_block = body_block (has_objects (objects_of_body c))

  pub begin_assigns : Assigns p u G (prologue e c) 0 (begin_made c) × Names p u (prologue e c) P
  begin_assigns = block_assigns p u P G (prologue e c) 0 (begin_made c) begin_block
