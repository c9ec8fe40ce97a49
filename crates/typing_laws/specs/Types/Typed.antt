-- What typing carries of types: each type that a name, a member or a value has is spelled, and each type of functions
-- that are defined, or called through pointers, has kinds of its parameters and result (C99 6.2.5, 6.7.5).
use Rattle.std.specs.Prelude.{◌≡◌, ◌⊎◌, true, false, List, [], ◌∷◌, Option, Some, None, Ok, Err, Bool, not, ◌&&◌}
use Rattle.std.specs.List.{list_any}
use Rattle.c_tree.specs.declared.c_type.TypeWord.{TypeWord}
use Rattle.c_tree.specs.Tree.{lvalue_kind}
use Rattle.c_tree.specs.TypesAgree.{same_words}
use Rattle.c_faults.specs.Answer.{Answer}
use Rattle.c_rules.specs.Values.{Value}
use Rattle.c_place_rules.specs.Operands.{Operand, Place, a_value, a_place, a_variable, a_function}
use Rattle.c_assignment_rules.specs.Assignable.{is_unsized_structure}
use Rattle.c_declarators.specs.Derivations.{Derivation, to_pointer, to_open_array, to_array, to_function}
use Rattle.c_scope.specs.declared.meaning.Designated.{Designated}
use Rattle.c_scope.specs.declared.meaning.Designated.TheVariants as what
use Rattle.c_scope.specs.declared.meaning.Entity.{Entity}
use Rattle.c_scope.specs.declared.meaning.Meaning.{Meaning}
use Rattle.c_scope.specs.declared.meaning.Meaning.TheVariants as meaning
use Rattle.c_scope.specs.Names.{Names, Scopes}
use Rattle.c_scope.specs.Parameters.{ParameterScope}
use Rattle.c_scope.specs.Structures.{Body}
use Rattle.c_operand_typing.specs.Calls.{Called, a_function, a_routine, a_printf, a_pointer}
use Rattle.c_declarator_typing.specs.Declarators.{Shape}
use Rattle.c_declarator_typing.specs.Members.{Entry}
use Rattle.c_declarator_typing.specs.Specifications.{Gathered, Specification}
use Rattle.c_typing_state.specs.State.{State, extents}
use Rattle.typing_laws.specs.Validity.Steps.{Structures}
use Rattle.typing_laws.specs.SpelledTypes.Spelled.{IsFunctionType, IsValueType, is_readable, is_spelled}

abbrev pub IsSpelled : Structures → List TypeWord → Type 0
IsSpelled es type = is_spelled es 1 type ≡ true

abbrev pub Each : {A : Type 0} → (A → Type 0) → List A → Type 0
Each p [] = Unit {0}
Each p (x ∷ xs) = p x × Each p xs

-- what names stand for; `printf` has no words

abbrev pub HasType : Structures → Designated → List TypeWord → Type 0
HasType es (what.Library f) type = (type ≡ []) ⊎ IsSpelled es type
HasType es what type = IsSpelled es type

abbrev pub IsNamed : Structures → Meaning → Type 0
IsNamed es (meaning.Typedef type) = IsSpelled es type
IsNamed es (meaning.Constant w) = Unit {0}
IsNamed es (meaning.Named what type) = HasType es what type

abbrev pub AreNamed : Structures → Names Meaning → Type 0
AreNamed es names = Each (λ e. IsNamed es e.1) names

abbrev pub IsEntity : Structures → Entity → Type 0
IsEntity es e = HasType es e.what e.c_type

abbrev pub AreMembers : Structures → Body → Type 0
AreMembers es b = Each (λ e. IsValueType es e.1.c_type) b.members

-- types of which no two are the same
abbrev pub are_different : List (List TypeWord) → Bool
are_different [] = true
are_different (t ∷ ts) = not (list_any (λ u. same_words t u) ts) && are_different ts

pub record HaveTypes (es : Structures) (names : Scopes Meaning) (bodies : List Body) (linked : Names Entity)
    (types : List (List TypeWord)) : Type 0 where
  pub outer : Each (AreNamed es) names.outer
  pub current : AreNamed es names.current
  pub members : Each (AreMembers es) bodies
  pub entities : Each (λ e. IsEntity es e.1) linked
  pub functions : Each (IsFunctionType es) types
  pub different : are_different types ≡ true

abbrev pub Types : State → Type 0
Types s =
    HaveTypes (extents s) s.environment.names s.environment.structures.bodies s.environment.entities s.function_types

-- what a construct is typed to has a property with the structures behind it
abbrev pub Typed : {A : Type 0} → (gives : Structures → A → Type 0) → Answer (State × A) → Type 0
Typed gives (Ok r) = Types r.0 × gives (extents r.0) r.1
Typed gives (Err f) = Unit {0}

abbrev pub nothing : {A : Type 0} → Structures → A → Type 0
nothing es x = Unit {0}

-- what an lvalue designates: where the bytes of a structure or union are counted, it is complete
pub record IsPlaceType (es : Structures) (place : Place) : Type 0 where
  pub spelled : IsSpelled es place.type
  pub readable : is_unsized_structure (lvalue_kind place.tree) ≡ false → is_readable es place.type ≡ true

abbrev pub OfType : Structures → Operand → Type 0
OfType es (a_value v) = IsValueType es v.type
OfType es (a_place p) = IsPlaceType es p
OfType es (a_variable x) = IsValueType es x.type
OfType es (a_function f) = IsSpelled es f.type

abbrev pub OfValueType : Structures → Value → Type 0
OfValueType es v = IsValueType es v.type

abbrev pub OfValueTypes : Structures → List Value → Type 0
OfValueTypes es vs = Each (OfValueType es) vs

abbrev pub IsCalled : Structures → Called → Type 0
IsCalled es (a_function n type) = IsSpelled es type
IsCalled es (a_routine r) = Unit {0}
IsCalled es a_printf = Unit {0}
IsCalled es (a_pointer v) = IsValueType es v.type

-- specifiers and declarators

abbrev pub IsSpelledIf : Structures → Option (List TypeWord) → Type 0
IsSpelledIf es None = Unit {0}
IsSpelledIf es (Some type) = IsSpelled es type

abbrev pub OfGathered : Structures → Gathered → Type 0
OfGathered es g = IsSpelledIf es g.type

abbrev pub OfSpecification : Structures → Specification → Type 0
OfSpecification es spec = IsSpelled es spec.type

abbrev pub AreSpelled : Structures → List (List TypeWord) → Type 0
AreSpelled es types = Each (IsSpelled es) types

abbrev pub IsDerived : Structures → Derivation → Type 0
IsDerived es (to_pointer is_const) = Unit {0}
IsDerived es to_open_array = Unit {0}
IsDerived es (to_array count) = Unit {0}
IsDerived es (to_function ps) = AreSpelled es ps

abbrev pub OfParameters : Structures → Option ParameterScope → Type 0
OfParameters es None = Unit {0}
OfParameters es (Some p) = AreNamed es p.names

pub record OfShape (es : Structures) (sh : Shape) : Type 0 where
  pub derived : Each (IsDerived es) sh.derivations
  pub parameters : OfParameters es sh.parameters

abbrev pub OfEntries : Structures → List Entry → Type 0
OfEntries es entries = Each (λ e. IsValueType es e.type) entries
