-- Variables and static objects without linkage are of the kind of their type.
use Rattle.std.proofs.Common.{◌≡◌, ℕ, Bool, true, false, ◌||◌, refl, ap, sym, ◌∙◌, List, Option, Some, get_or}
use Rattle.std.proofs.lemmas.Bool.{or_left}
use Rattle.c_tree.specs.declared.c_type.TypeWord.{TypeWord}
use Rattle.c_tree.specs.declared.expression.Kind.{Kind}
use Rattle.c_tree.specs.declared.expression.Kind.TheVariants as kind
use Rattle.c_tree.specs.Extents.{TypeExtent, extent_of}
use Rattle.c_tree.specs.Kinds.{has_size, is_size}
use Rattle.c_tree.specs.Valid.{Scope, is_named_as, variable_at}
use Rattle.c_tree.specs.ValidProgram.{is_variable}
use Rattle.c_rules.specs.declared.class.Target.TheVariants as target
use Rattle.c_rules.proofs.FineUnary.{same_kind}
use Rattle.c_place_rules.specs.Targets.{object_kind}
use Rattle.c_place_laws.specs.FinePlaces.{IsSized, complete}
use Rattle.c_place_laws.proofs.Sizes.{kind_bytes}
use Rattle.c_operand_typing.specs.Primaries.{is_aggregate, is_marked, size_or_zero}
use Rattle.c_typing_state.specs.State.{State, extents}
use Rattle.typing_laws.specs.Validity.More.{AreMore}
use Rattle.typing_laws.specs.Validity.Names.{IsStaticOf, IsVariableOf, kind_among}
use Rattle.typing_laws.specs.Validity.Sound.{IsObjectExtent}
use Rattle.c_unit_typing.specs.Declarations.{kind_in, variable_in}
use Rattle.typing_laws.proofs.Validity.Kept.{extent_kept}
use Rattle.typing_laws.proofs.Validity.Primaries.{scalar_by}
use Rattle.typing_laws.proofs.Declarators.Types.{target_is}
use Rattle.typing_laws.specs.Declarations.Binding.{HasStatic, HasVariable}

kind_is : (s : State) (type : List TypeWord) (e : TypeExtent) → extent_of (extents s) type ≡ Some e
    → object_kind (size_or_zero (extent_of (extents s) type)) type ≡ object_kind e.size type
kind_is s type e is = ap (λ o. object_kind (size_or_zero o) type) is

-- a type that is complete where an object is declared is so at the end

last_size : (last : List (Option TypeExtent)) (type : List TypeWord) (e : TypeExtent) → extent_of last type ≡ Some e
    → IsObjectExtent e → IsSized last type (size_or_zero (extent_of last type))
last_size last type e is object =
    complete (target_is last type e is object.size ∙ ap (λ o. target.Object (size_or_zero o)) (sym is))

last_kind : (s : State) (last : List (Option TypeExtent)) (type : List TypeWord) (e : TypeExtent) (k : Kind)
    → extent_of (extents s) type ≡ Some e → extent_of last type ≡ Some e → k ≡ kind_in s type
    → is_named_as k (kind_among last type) ≡ true
last_kind s last type e k is later same =
    let named : k ≡ kind_among last type =
    same ∙ kind_is s type e is ∙ sym (ap (λ o. object_kind (size_or_zero o) type) later) in
    ap (λ z. is_named_as z (kind_among last type)) named ∙ or_left _ _ (same_kind (kind_among last type))

pub variable_is : (scope : Scope) (s : State) (last : List (Option TypeExtent)) → AreMore (extents s) last → (n : ℕ)
    (type : List TypeWord) (e : TypeExtent) → extent_of (extents s) type ≡ Some e → IsObjectExtent e
    → HasVariable scope s n type → IsVariableOf scope last s n type
variable_is scope s last more n type e is object has =
    let later = extent_kept (extents s) last more type e is in
    record {
      sized = last_size last type e later object;
      kind = last_kind s last type e (variable_at scope n).kind is later (ap (λ v. v.kind) has);
      object = ap (λ v. v.is_object) has;
    }

pub static_is : (scope : Scope) (s : State) (last : List (Option TypeExtent)) → AreMore (extents s) last → (n : ℕ)
    (type : List TypeWord) (e : TypeExtent) → extent_of (extents s) type ≡ Some e → IsObjectExtent e
    → HasStatic scope s n type → IsStaticOf scope last n type
static_is scope s last more n type e is object has =
    let later = extent_kept (extents s) last more type e is in
    record {
      sized = last_size last type e later object;
      there = has.there;
      kind = last_kind s last type e (get_or scope.statics n kind.Void) is later has.kind;
    }

-- a declared variable holds a scalar or is an object, as those of a valid function

variable_by : (s : State) (type : List TypeWord) (e : TypeExtent) → extent_of (extents s) type ≡ Some e
    → IsObjectExtent e → (marked aggregate : Bool) → is_aggregate type ≡ aggregate
    → is_variable (record { kind = object_kind e.size type; is_object = aggregate || marked }) ≡ true
variable_by s type e is object marked true g =
    ap is_size (kind_bytes (extents s) type e.size (target_is (extents s) type e is object.size)) ∙ object.size
variable_by s type e is object true false g =
    ap is_size (kind_bytes (extents s) type e.size (target_is (extents s) type e is object.size)) ∙ object.size
variable_by s type e is object false false g =
    scalar_by (extents s) type e.size (target_is (extents s) type e is object.size) g

pub declared_is_variable : (s : State) (n : ℕ) (type : List TypeWord) (e : TypeExtent)
    → extent_of (extents s) type ≡ Some e → IsObjectExtent e → is_variable (variable_in s n type) ≡ true
declared_is_variable s n type e is object =
    ap (λ k. is_variable (record { kind = k; is_object = is_aggregate type || is_marked s.objects n }))
    (kind_is s type e is)
    ∙ variable_by s type e is object (is_marked s.objects n) (is_aggregate type) refl

pub declared_has_size : (s : State) (type : List TypeWord) (e : TypeExtent) → extent_of (extents s) type ≡ Some e
    → IsObjectExtent e → has_size (kind_in s type) ≡ true
declared_has_size s type e is object =
    ap has_size (kind_is s type e is)
    ∙ ap is_size (kind_bytes (extents s) type e.size (target_is (extents s) type e is object.size)) ∙ object.size
