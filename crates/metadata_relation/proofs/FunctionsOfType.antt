-- The functions of a type: they take values of the same kinds, and what is tested of all of them holds of each.
use Rattle.std.proofs.Common.{◌≡◌, ℕ, zero, suc, ◌+◌, ◌/◌, ◌%◌, ◌^◌, ◌<◌, Bool, true, false, not, List, [], ◌∷◌, length}
use Rattle.std.proofs.Common.{map, Some, refl, sym, ap, ◌∙◌, subst, arith}
use Rattle.std.specs.Prelude.{slice_get, min, ◌==◌, ◌||◌, if◌then◌else◌}
use Rattle.std.proofs.Math.Nat.{min-le_right}
use Rattle.std.proofs.lemmas.Bool.{and_parts, eq-eqb}
use Rattle.std.proofs.lemmas.Option.{same_Some}
use Rattle.c_tree.specs.declared.expression.Kind.{Kind}
use Rattle.c_tree.specs.declared.program.Variable.{Variable}
use Rattle.c_tree.specs.Programs.{Function}
use Rattle.obj_memory.specs.Heap.{rounded_up}
use Rattle.lib_wrappers.specs.AllocatingRoutines.Entering.{block_bytes}
use Rattle.source_meaning.specs.State.{Header, Rvalue}
use Rattle.source_meaning.specs.Blocks.{has_objects}
use Rattle.source_meaning.specs.Calls.{body_objects}
use Rattle.source_meaning.specs.Good.{signature_in}
use Rattle.source_meaning.specs.Expressions.{has_type, header_at}
use Rattle.source_meaning.proofs.Naming.{names_of, FunctionsName, ProgramNames}
use Rattle.source_meaning.proofs.ValidProgramNames.{valid_names}
use Rattle.tac_ir.specs.declared.function.CodeFunction.{CodeFunction}
use Rattle.tac_ir.specs.declared.function.Tac.{Tac}
use Rattle.tac_ir.specs.Fitting.{are_passed, fit_type, taken_by}
use Rattle.tac_ir.specs.Meaning.{header_of_code}
use Rattle.flat_code.specs.Memory.{Bytes}
use Rattle.runtime_functions.specs.Library.{register_count}
use Rattle.metadata_relation.specs.FunctionTypes.{first_of_type, type_key, object_units, room_told}
use Rattle.metadata_relation.specs.Registers.{passed_as, parameter_words, parameters_end, total}
use Rattle.metadata_relation.specs.Stages.{Compiled}
use Rattle.metadata_relation.specs.Steps.{IsCompiled, are_covered_calls, is_covered_call}
use Rattle.metadata_relation.proofs.CallStates.{function_of}
use Rattle.metadata_relation.proofs.FunctionTypes.{first_low, first_tells, kind_told, type_at}
use Rattle.metadata_relation.proofs.Packing.{ways_of}

-- ---- each of them

pub there_at : (fs : List CodeFunction) (f : ℕ) → f < length fs → (k : CodeFunction) × (slice_get fs f ≡ Some k)
there_at [] f low = absurd (omega arith)
there_at (x ∷ fs) zero low = (x, refl)
there_at (x ∷ fs) (suc f) low = there_at fs f (omega arith)

pub inside_list : (fs : List CodeFunction) (f : ℕ) (k : CodeFunction) → slice_get fs f ≡ Some k → f < length fs
inside_list [] f k found = cc
inside_list (x ∷ fs) zero k found = omega arith
inside_list (x ∷ fs) (suc f) k found = omega (arith, inside_list fs f k found)

pub code_count : (fs : List CodeFunction) → length (map header_of_code fs) ≡ length fs
code_count [] = refl
code_count (x ∷ fs) = ap suc (code_count fs)

-- what holds where a type is another, of one that it is
of_type : (a b : ℕ) (c : Bool) → a ≡ b → (not (a == b) || c) ≡ true → c ≡ true
of_type a b c same e = ap (λ z. not z || c) (sym (eq-eqb a b same)) ∙ e

pub plain_at : (t : Tac) (type : ℕ) (fs : List CodeFunction) (f : ℕ) (k : CodeFunction)
    → are_covered_calls t type fs ≡ true → slice_get fs f ≡ Some k → k.type_number ≡ type
    → is_covered_call t (Some k) ≡ true
plain_at t type [] f k e found same = cc
plain_at t type (x ∷ fs) zero k e found same =
    let is = same_Some x k found in
    subst (λ z. is_covered_call t (Some z) ≡ true) is
    (of_type x.type_number type (is_covered_call t (Some x)) (ap (λ (z : CodeFunction). z.type_number) is ∙ same)
    (and_parts (not (x.type_number == type) || is_covered_call t (Some x)) (are_covered_calls t type fs) e).0)
plain_at t type (x ∷ fs) (suc f) k e found same =
    plain_at t type fs f k
    (and_parts (not (x.type_number == type) || is_covered_call t (Some x)) (are_covered_calls t type fs) e).1 found same

pub passed_to : (type : ℕ) (vs : List Rvalue) (fs : List CodeFunction) (f : ℕ) (k : CodeFunction)
    → fit_type (map header_of_code fs) type vs ≡ true → slice_get fs f ≡ Some k → k.type_number ≡ type
    → are_passed (taken_by (header_of_code k)) vs ≡ true
passed_to type vs [] f k e found same = cc
passed_to type vs (x ∷ fs) zero k e found same =
    let is = same_Some x k found in
    subst (λ (z : CodeFunction). are_passed (taken_by (header_of_code z)) vs ≡ true) is
    (of_type x.type_number type (are_passed (taken_by (header_of_code x)) vs)
    (ap (λ (z : CodeFunction). z.type_number) is ∙ same)
    (and_parts (not (x.type_number == type) || are_passed (taken_by (header_of_code x)) vs)
    (fit_type (map header_of_code fs) type vs) e).0)
passed_to type vs (x ∷ fs) (suc f) k e found same =
    passed_to type vs fs f k
    (and_parts (not (x.type_number == type) || are_passed (taken_by (header_of_code x)) vs)
    (fit_type (map header_of_code fs) type vs) e).1 found same

-- ---- what they take

abbrev pub kinds_of : List Variable → List Kind
kinds_of vs = map (λ v. v.kind) vs

named_kinds : (n : ProgramNames) (fs : List Function) → FunctionsName n fs → (f : ℕ) (x : Function)
    → slice_get fs f ≡ Some x → kinds_of x.parameters ≡ (signature_in n.types x.type_number).parameters
named_kinds n [] h f x found = cc
named_kinds n (y ∷ fs) h zero x found =
    subst (λ (z : Function). kinds_of z.parameters ≡ (signature_in n.types z.type_number).parameters)
    (same_Some y x found) h.0.parameters
named_kinds n (y ∷ fs) h (suc f) x found = named_kinds n fs h.1 f x found

ways_by : (vs : List Variable) → ways_of vs ≡ map passed_as (kinds_of vs)
ways_by [] = refl
ways_by (v ∷ vs) = ap (λ z. passed_as v.kind ∷ z) (ways_by vs)

abbrev words_by : List Kind → ℕ
words_by [] = 0
words_by (k ∷ ks) = register_count (passed_as k) + words_by ks

words_total : (vs : List Variable) → total parameter_words vs ≡ words_by (kinds_of vs)
words_total [] = refl
words_total (v ∷ vs) = ap (λ z. register_count (passed_as v.kind) + z) (words_total vs)

module _ (c : Compiled) (IsGood : Bytes → Type 0) (right : IsCompiled c IsGood) where
  kinds_are : (f : ℕ) (k : CodeFunction) → slice_get c.layout.expansion.code.functions f ≡ Some k
      → kinds_of k.parameters ≡ (signature_in (names_of c.typed).types k.type_number).parameters
  kinds_are f k found =
      let t = function_of c IsGood right f k found in
      sym (ap (λ (h : Header). kinds_of h.parameters) t.header)
      ∙ named_kinds (names_of c.typed) c.typed.functions (valid_names c.typed right.valid).functions f t.function t.found
      ∙ ap (λ (h : Header). (signature_in (names_of c.typed).types h.type_number).parameters) t.header

  -- two functions of a type take values of the same kinds
  pub record TakeAlike (one k : CodeFunction) : Type 0 where
    pub ways : ways_of one.parameters ≡ ways_of k.parameters
    pub words : parameters_end one ≡ parameters_end k

  pub take_alike : (e f : ℕ) (one k : CodeFunction) → slice_get c.layout.expansion.code.functions e ≡ Some one
      → slice_get c.layout.expansion.code.functions f ≡ Some k → one.type_number ≡ k.type_number → TakeAlike one k
  take_alike e f one k first found same =
      let kinds : kinds_of one.parameters ≡ kinds_of k.parameters =
      kinds_are e one first
      ∙ ap (λ t. (signature_in (names_of c.typed).types t).parameters) same
      ∙ sym (kinds_are f k found) in
      record {
        ways = ways_by one.parameters ∙ ap (map passed_as) kinds ∙ sym (ways_by k.parameters);
        words = words_total one.parameters ∙ ap words_by kinds ∙ sym (words_total k.parameters);
      }

  -- ---- what their keys tell

  -- the functions of the setting are those of the code
  pub headers_are : c.setting.functions ≡ map header_of_code c.layout.expansion.code.functions
  headers_are = sym (right.headers ∙ right.functions)

  pub units_low : (k : CodeFunction) → object_units k < 2 ^ 19
  units_low k =
      by (rounded_up 16 (block_bytes (body_objects (header_of_code k))) / 16) (has_objects (body_objects (header_of_code k)))
    where
      by : (x : ℕ) (b : Bool) → (if b then min x (2 ^ 18 + 1) else 0) < 2 ^ 19
      by x true = omega (arith, min-le_right x (2 ^ 18 + 1))
      by x false = omega arith

  pub room_low : (k : CodeFunction) → room_told k < 2 ^ 25
  room_low k = omega (arith, min-le_right k.room (2 ^ 24 + 1))

  pub kind_low : (f : ℕ) (k : CodeFunction) → slice_get c.layout.expansion.code.functions f ≡ Some k
      → f < length c.layout.expansion.code.functions
      → first_of_type c.layout.expansion.code.functions k.type_number < 2 ^ 12
  kind_low f k found low =
      omega (arith, low, first_low c.layout.expansion.code.functions f k found, right.expanded.types.few)

  pub key_is : (f : ℕ) (k : CodeFunction) → slice_get c.layout.expansion.code.functions f ≡ Some k
      → c.layout.expansion.types f ≡ type_key c.layout.expansion.code.functions k
  key_is f k found = right.expanded.types.each f k found

  -- the test of the kind is that of the type
  pub kind_tells : (type : ℕ) (one : CodeFunction)
      → slice_get c.layout.expansion.code.functions (first_of_type c.layout.expansion.code.functions type) ≡ Some one
      → (f : ℕ) → f < length c.setting.functions
      → ((2 ^ 63 + c.layout.expansion.types f) % 2 ^ 12 == first_of_type c.layout.expansion.code.functions type)
      ≡ has_type (header_at c.setting.functions f) type
  kind_tells type one first f low =
      let fs = c.layout.expansion.code.functions in
      let inside = subst (λ z. f < z) (code_count fs) (subst (λ z. f < length z) headers_are low) in
      let there = there_at fs f inside in
      let k = there.0 in
      let found = there.1 in
      let told = kind_told (first_of_type fs k.type_number) (object_units k) (room_told k) (kind_low f k found inside)
      (units_low k) (room_low k) in
      ap (λ z. (2 ^ 63 + z) % 2 ^ 12 == first_of_type fs type) (key_is f k found)
      ∙ ap (λ z. z == first_of_type fs type) told ∙ first_tells fs f type k one found first
      ∙ sym (type_at fs f type k found) ∙ ap (λ z. has_type (header_at z f) type) (sym headers_are)
