-- An object of a complete type behind its initializer (C99 6.7.8 paragraph 22).
use Rattle.std.proofs.Common.{◌≡◌, ℕ, ◌*◌, ◌^◌, ◌≤◌, Bool, true, false, not, refl}
use Rattle.std.proofs.Common.{sym, ap, ◌∙◌, subst, List, [], ◌∷◌, Option, Some, None, if◌then◌else◌, arith}
use Rattle.std.specs.Prelude.{Ok, option_map, slice_get}
use Rattle.std.proofs.lemmas.Bool.{ltb-false}
use Rattle.std.proofs.lemmas.Option.{none-some}
use Rattle.c_tree.specs.declared.c_type.TypeWord.{TypeWord}
use Rattle.c_tree.specs.declared.c_type.TypeWord.TheVariants as word
use Rattle.c_tree.specs.Extents.{TypeExtent, array_extent, capped, extent_of, structure_extent}
use Rattle.c_tree.specs.Kinds.{is_size, size_of_kind}
use Rattle.c_tree.specs.Layout.{array_size}
use Rattle.c_tree.specs.Valid.{Scope}
use Rattle.c_faults.specs.declared.fault.Rule.TheVariants.{LargeType, Redeclared}
use Rattle.c_faults.specs.Answer.{violates}
use Rattle.c_place_rules.specs.Targets.{object_kind}
use Rattle.c_place_laws.proofs.Sizes.{kind_bytes}
use Rattle.c_declarators.specs.Derivations.{array_of, is_large}
use Rattle.c_scope.specs.declared.meaning.Designated.{Designated}
use Rattle.c_scope.specs.Declaring.{sized_by_initializer}
use Rattle.c_scope.specs.Names.{Name}
use Rattle.c_operand_typing.specs.Primaries.{is_aggregate, size_or_zero}
use Rattle.c_typing_state.specs.State.{State, extents}
use Rattle.c_unit_typing.specs.Declarations.{completed, is_same_object, kind_in, with_size}
use Rattle.typing_laws.specs.Validity.Sound.{Covers, IsFormed}
use Rattle.typing_laws.specs.Validity.More.{AreMore}
use Rattle.typing_laws.specs.Validity.Steps.{Structures}
use Rattle.typing_laws.proofs.Validity.Common.{the_same}
use Rattle.typing_laws.proofs.Validity.Kept.{extent_kept}
use Rattle.typing_laws.proofs.Validity.Sound.{IfAnswer}
use Rattle.typing_laws.specs.Declarations.Binding.{IfCompleted, IsCompleteFor}
use Rattle.typing_laws.proofs.Declarations.Completed.{completed_by, size_binds}
use Rattle.typing_laws.proofs.Declarators.Types.{is_size_of, positive_product, size_low, target_is}
use Rattle.typing_laws.specs.Layouts.Listed.{has_array_bytes}
use Rattle.typing_laws.proofs.Layouts.Arrays.{array_arrays}
use Rattle.typing_laws.specs.Initializers.Placing.{HasExtent, whole_type}

-- what is initialized is of a complete type, or an array of unknown size with elements of one

pub record IsBase (es : List (Option TypeExtent)) (type : List TypeWord) : Type 0 where
  pub is_open : Bool
  pub size : ℕ
  pub base : List TypeWord
  pub is : type ≡ whole_type is_open base
  pub has : HasExtent es size base

of_base : (es : List (Option TypeExtent)) (type base : List TypeWord) (b : Bool) → type ≡ whole_type b base
    → (e : TypeExtent) → extent_of es base ≡ Some e → is_size e.size ≡ true → has_array_bytes es base ≡ true
    → IsBase es type
of_base es type base b is e complete object arrays = record {
  is_open = b;
  size = e.size;
  base = base;
  is = is;
  has = record { extent = e; complete = complete; bytes = refl; object = object; arrays = arrays };
}

pub base_of : (es : List (Option TypeExtent)) (type : List TypeWord) → IsCompleteFor es true type
    → has_array_bytes es type ≡ true → IsBase es type
base_of es [] h a = of_base es [] [] false refl h.extent h.is h.object.size a
base_of es (word.OpenArray ∷ ws) h a = of_base es (word.OpenArray ∷ ws) ws true refl h.extent h.is h.object.size a
base_of es (word.Void ∷ ws) h a = of_base es (word.Void ∷ ws) _ false refl h.extent h.is h.object.size a
base_of es (word.Integer t ∷ ws) h a = of_base es (word.Integer t ∷ ws) _ false refl h.extent h.is h.object.size a
base_of es (word.Enumeration n ∷ ws) h a =
    of_base es (word.Enumeration n ∷ ws) _ false refl h.extent h.is h.object.size a
base_of es (word.Pointer ∷ ws) h a = of_base es (word.Pointer ∷ ws) _ false refl h.extent h.is h.object.size a
base_of es (word.Array c b ∷ ws) h a = of_base es (word.Array c b ∷ ws) _ false refl h.extent h.is h.object.size a
base_of es (word.Structure n ∷ ws) h a = of_base es (word.Structure n ∷ ws) _ false refl h.extent h.is h.object.size a
base_of es (word.Const ∷ ws) h a = of_base es (word.Const ∷ ws) _ false refl h.extent h.is h.object.size a
base_of es (word.Takes ∷ ws) h a = of_base es (word.Takes ∷ ws) _ false refl h.extent h.is h.object.size a
base_of es (word.Gives ∷ ws) h a = of_base es (word.Gives ∷ ws) _ false refl h.extent h.is h.object.size a

-- the bytes of the whole
abbrev pub total : (is_open : Bool) → (size count : ℕ) → ℕ
total false size count = size
total true size count = count * size

pub kind_total : (t : State) (size : ℕ) (ws : List TypeWord) → HasExtent (extents t) size ws
    → size_of_kind (kind_in t ws) ≡ size
kind_total t size ws h =
    let target = target_is (extents t) ws h.extent h.complete (ap is_size h.bytes ∙ h.object) in
    ap (λ o. size_of_kind (object_kind (size_or_zero o) ws)) h.complete
    ∙ kind_bytes (extents t) ws h.extent.size target ∙ h.bytes

-- the array behind its initializer

open_by : (es : List (Option TypeExtent)) (count size : ℕ) (element : List TypeWord) (o : Option TypeExtent)
    → extent_of es element ≡ o → (e : TypeExtent) → o ≡ Some e → e.size ≡ size → is_size size ≡ true
    → has_array_bytes es element ≡ true → 1 ≤ count → is_large (array_of count o) ≡ false
    → HasExtent es (count * size) (array_of count o ∷ element)
unfolding extent_of array_size
open_by es count size element None is e known bytes object arrays some small = absurd cc
open_by es count size element (Some x) is e known bytes object arrays some small =
    let same : x.size ≡ size = ap (λ e. e.size) (the_same known) ∙ bytes in
    let product : count * x.size ≡ count * size = ap (λ n. count * n) same in
    let low : capped (count * x.size) ≤ 2 ^ 32 = ltb-false (2 ^ 32) (capped (count * x.size)) small in
    let least = positive_product count size some (size_low size object) in
    record {
      extent = array_extent (capped (count * x.size)) x;
      complete = ap (option_map (array_extent (capped (count * x.size)))) is;
      bytes = omega (arith, product, low);
      object = is_size_of (count * size) least (omega (arith, product, low));
      arrays = array_arrays es count element (Some x) is x refl arrays;
    }

abbrev pub InEnvironment : State → State → Type 0
InEnvironment s t = (t.environment.structures ≡ s.environment.structures) × (t.literals ≡ s.literals)
    × (t.function_types ≡ s.function_types) × (t.undefined ≡ s.undefined)

-- the type behind the initializer, whose bytes are known where an array of unknown size has at least one element
pub record IsSized (is_open : Bool) (size count : ℕ) (s : State) (r : State × List TypeWord) : Type 0 where
  pub same : InEnvironment s r.0
  pub has : (is_open ≡ true → 1 ≤ count) → HasExtent (extents r.0) (total is_open size count) r.1

closed_sized : (s : State) (size count : ℕ) (type : List TypeWord) → HasExtent (extents s) size type
    → IsSized false size count s (s, type)
closed_sized s size count type h = record { same = (refl, refl, refl, refl); has = λ some. h }

unless_large : (s : State) (d : Designated) (name : Name × ℕ) (count size : ℕ) (element : List TypeWord)
    → HasExtent (extents s) size element → (large : Bool)
    → is_large (array_of count (extent_of (extents s) element)) ≡ large
    → IfAnswer (IsSized true size count s)
    (if large then violates LargeType name.1
    else Ok (
      record s {
        environment = with_size d name.0 (array_of count (extent_of (extents s) element) ∷ element) s.environment;
      },
      array_of count (extent_of (extents s) element) ∷ element,
    ))
unless_large s d name count size element h true e = tt
unless_large s d name count size element h false e =
    let type = array_of count (extent_of (extents s) element) ∷ element in
    let binds = size_binds s name.0 d type in
    record {
      same = (binds.structures, binds.literals, binds.types, binds.undefined);
      has = λ some.
          subst (λ z. HasExtent z.extents (count * size) type) (sym binds.structures)
          (open_by (extents s) count size element (extent_of (extents s) element) refl h.extent h.complete h.bytes
          h.object h.arrays (some refl) e);
    }

unless_redeclared : (s : State) (d : Designated) (name : Name × ℕ) (count size : ℕ) (element : List TypeWord)
    → HasExtent (extents s) size element → (b : Bool)
    → IfAnswer (IsSized true size count s)
    (if not b then violates Redeclared name.1
    else if is_large (array_of count (extent_of (extents s) element)) then violates LargeType name.1
    else Ok (
      record s {
        environment = with_size d name.0 (array_of count (extent_of (extents s) element) ∷ element) s.environment;
      },
      array_of count (extent_of (extents s) element) ∷ element,
    ))
unless_redeclared s d name count size element h false = tt
unless_redeclared s d name count size element h true =
    unless_large s d name count size element h (is_large (array_of count (extent_of (extents s) element))) refl

closed_by : (s : State) (d : Designated) (name : Name × ℕ) (count size : ℕ) (type : List TypeWord)
    → HasExtent (extents s) size type → IfAnswer (IsSized false size count s) (completed d name type count s)
unfolding extent_of
closed_by s d name count size [] h = closed_sized s size count [] h
closed_by s d name count size (word.OpenArray ∷ ws) h = absurd (none-some _ h.complete)
closed_by s d name count size (word.Void ∷ ws) h = closed_sized s size count _ h
closed_by s d name count size (word.Integer t ∷ ws) h = closed_sized s size count _ h
closed_by s d name count size (word.Enumeration n ∷ ws) h = closed_sized s size count _ h
closed_by s d name count size (word.Pointer ∷ ws) h = closed_sized s size count _ h
closed_by s d name count size (word.Array c b ∷ ws) h = closed_sized s size count _ h
closed_by s d name count size (word.Structure n ∷ ws) h = closed_sized s size count _ h
closed_by s d name count size (word.Const ∷ ws) h = closed_sized s size count _ h
closed_by s d name count size (word.Takes ∷ ws) h = closed_sized s size count _ h
closed_by s d name count size (word.Gives ∷ ws) h = closed_sized s size count _ h

whole_sized : (s : State) (d : Designated) (name : Name × ℕ) (count : ℕ) (b : Bool) (size : ℕ) (base : List TypeWord)
    → HasExtent (extents s) size base → IfAnswer (IsSized b size count s) (completed d name (whole_type b base) count s)
whole_sized s d name count false size base h = closed_by s d name count size base h
whole_sized s d name count true size base h =
    unless_redeclared s d name count size base h
    (is_same_object d name.0 (array_of count (extent_of (extents s) base) ∷ base) s.environment)

pub completed_sized : (s : State) (d : Designated) (name : Name × ℕ) (type : List TypeWord) (count : ℕ)
    (b : Bool) (size : ℕ) (base : List TypeWord) → type ≡ whole_type b base → HasExtent (extents s) size base
    → IfAnswer (IsSized b size count s) (completed d name type count s)
completed_sized s d name type count b size base is h =
    subst (λ z. IfAnswer (IsSized b size count s) (completed d name z count s)) (sym is)
    (whole_sized s d name count b size base h)

-- the size of a complete type does not come of the initializer
same_count : (s : State) (d : Designated) (name : Name × ℕ) (count size : ℕ) (type : List TypeWord)
    → HasExtent (extents s) size type → completed d name type 1 s ≡ completed d name type count s
unfolding extent_of
same_count s d name count size [] h = refl
same_count s d name count size (word.OpenArray ∷ ws) h = absurd (none-some _ h.complete)
same_count s d name count size (word.Void ∷ ws) h = refl
same_count s d name count size (word.Integer t ∷ ws) h = refl
same_count s d name count size (word.Enumeration n ∷ ws) h = refl
same_count s d name count size (word.Pointer ∷ ws) h = refl
same_count s d name count size (word.Array c b ∷ ws) h = refl
same_count s d name count size (word.Structure n ∷ ws) h = refl
same_count s d name count size (word.Const ∷ ws) h = refl
same_count s d name count size (word.Takes ∷ ws) h = refl
same_count s d name count size (word.Gives ∷ ws) h = refl

pub completes : (s : State) → IsFormed s → (d : Designated) (name : Name × ℕ) (type : List TypeWord) (count : ℕ)
    (b : Bool) (size : ℕ) (base : List TypeWord) → type ≡ whole_type b base → HasExtent (extents s) size base
    → (b ≡ true → 1 ≤ count) → IsCompleteFor (extents s) true type
    → IfCompleted d name.0 s (completed d name type count s)
completes s formed d name type count true size base is h some complete =
    completed_by s formed d name type count (some refl) complete
completes s formed d name type count false size base is h some complete =
    subst (IfCompleted d name.0 s) (same_count s d name count size type (subst (HasExtent (extents s) size) (sym is) h))
    (completed_by s formed d name type 1 (omega arith) complete)

pub scalar_completed : (s : State) (d : Designated) (name : Name × ℕ) (type : List TypeWord) (count : ℕ)
    → is_aggregate type ≡ false → completed d name type count s ≡ Ok (s, type)
scalar_completed s d name [] count e = refl
scalar_completed s d name (word.OpenArray ∷ ws) count e = absurd cc
scalar_completed s d name (word.Void ∷ ws) count e = refl
scalar_completed s d name (word.Integer t ∷ ws) count e = refl
scalar_completed s d name (word.Enumeration n ∷ ws) count e = refl
scalar_completed s d name (word.Pointer ∷ ws) count e = refl
scalar_completed s d name (word.Array c b ∷ ws) count e = absurd cc
scalar_completed s d name (word.Structure n ∷ ws) count e = absurd cc
scalar_completed s d name (word.Const ∷ ws) count e = refl
scalar_completed s d name (word.Takes ∷ ws) count e = refl
scalar_completed s d name (word.Gives ∷ ws) count e = refl

pub complete_kept : (es more : List (Option TypeExtent)) → AreMore es more → (type : List TypeWord)
    → IsCompleteFor es true type → IsCompleteFor more true type
complete_kept es more h type is = record {
  extent = is.extent;
  is = extent_kept es more h (sized_by_initializer type) is.extent is.is;
  object = is.object;
}

-- what the program covers behind, it covers before

pub covers_before : (scope : Scope) (last : Structures) (s t : State) → InEnvironment s t → Covers scope last t
    → Covers scope last s
covers_before scope last s t e h = record {
  more = record { kept = λ n x is. h.more.kept n x (ap (λ z. structure_extent z.extents n) e.0 ∙ is) };
  undefined = sym e.3 ∙ h.undefined;
  literals = λ n l is. h.literals n l (ap (λ z. slice_get z n) e.1 ∙ is);
  types = λ n type is. h.types n type (ap (λ z. slice_get z n) e.2 ∙ is);
}
