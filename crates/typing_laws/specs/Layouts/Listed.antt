-- Arrays that have the bytes of their elements, and listed members that lie in their structures and unions (C99 6.2.5,
-- 6.7.2.1).
use Rattle.std.specs.Prelude.{◌≡◌, ℕ, Bool, true, ◌&&◌, List, ◌∷◌, map, Option, Some, None, Ok, Err, slice_get}
use Rattle.c_tree.specs.declared.c_type.TypeWord.{TypeWord}
use Rattle.c_tree.specs.declared.c_type.TypeWord.TheVariants as word
use Rattle.c_tree.specs.Arrays.{has_bytes}
use Rattle.c_tree.specs.Extents.{TypeExtent, extent_of}
use Rattle.c_faults.specs.Answer.{Answer}
use Rattle.c_tree.specs.declared.member.Member.{Member}
use Rattle.c_place_rules.specs.Places.{member_view}
use Rattle.c_place_laws.specs.FinePlaces.{IsMemberOf}
use Rattle.c_scope.specs.declared.meaning.Meaning.{Meaning}
use Rattle.c_scope.specs.declared.meaning.Meaning.TheVariants as meaning
use Rattle.c_scope.specs.Declaring.{is_linked}
use Rattle.c_scope.specs.Names.{Name}
use Rattle.c_scope.specs.Names as names
use Rattle.c_current_object.specs.Members.{MemberList, MemberLists, lists_in}
use Rattle.c_declarator_typing.specs.Specifications.{Specification}
use Rattle.c_typing_state.specs.State.{State, extents}
use Rattle.typing_laws.specs.Validity.Sound.{is_sized_array}
use Rattle.typing_laws.specs.Declarations.Binding.{IsCompleteFor}

-- whether an array, if the type is one, has the bytes of its elements, and these have those of theirs
abbrev pub has_array_bytes : List (Option TypeExtent) → List TypeWord → Bool
has_array_bytes es (word.Array count bytes ∷ element) =
    has_bytes count bytes (extent_of es element) && has_array_bytes es element
has_array_bytes es (word.OpenArray ∷ element) = has_array_bytes es element
has_array_bytes es (word.Const ∷ type) = has_array_bytes es type
has_array_bytes es type = true

-- a member that lies in the structure or union with a number, and whose arrays have the bytes of their elements
pub record IsListed (es : List (Option TypeExtent)) (number : ℕ) (m : Member) : Type 0 where
  pub member : IsMemberOf es number (member_view m)
  pub arrays : has_array_bytes es m.c_type ≡ true

-- so is each member of a list
pub record AreListed (es : List (Option TypeExtent)) (lists : MemberLists) : Type 0 where
  pub each : (number : ℕ) (l : MemberList) → lists number ≡ Some l → (k : ℕ) (m : Member)
      → slice_get (map (λ e. e.1) l.members) k ≡ Some m → IsListed es number m

-- a type whose arrays have the bytes of their elements, and at most 2^32 of them
pub record HasSizes (es : List (Option TypeExtent)) (type : List TypeWord) : Type 0 where
  pub arrays : has_array_bytes es type ≡ true
  pub sized : is_sized_array type ≡ true

-- so have that of a typedef name, and that of an object or function with linkage
abbrev pub HasArraysIn : List (Option TypeExtent) → Meaning → Type 0
HasArraysIn es (meaning.Typedef type) = has_array_bytes es type ≡ true
HasArraysIn es (meaning.Constant w) = Unit {0}
HasArraysIn es (meaning.Named what type) = is_linked what ≡ true → HasSizes es type

-- and that of any object
abbrev pub HasArraysOf : List (Option TypeExtent) → Option Meaning → Type 0
HasArraysOf es None = Unit {0}
HasArraysOf es (Some (meaning.Typedef type)) = has_array_bytes es type ≡ true
HasArraysOf es (Some (meaning.Constant w)) = Unit {0}
HasArraysOf es (Some (meaning.Named what type)) = HasSizes es type

-- a state whose listed members lie in their structures and unions, and whose arrays have the bytes of their elements
pub record IsLaidOut (state : State) : Type 0 where
  pub lists : AreListed (extents state) (lists_in state.environment.structures)
  pub names : (name : Name) (m : Meaning) → names.meaning name state.environment.names ≡ Some m
      → HasArraysIn (extents state) m

-- what a construct is typed to has a property in a state that is laid out
abbrev pub IfLaidOut : {A : Type 0} → (gives : State → A → Type 0) → Answer (State × A) → Type 0
IfLaidOut gives (Ok r) = IsLaidOut r.0 × gives r.0 r.1
IfLaidOut gives (Err f) = Unit {0}

abbrev pub HasArrays : State → Specification → Type 0
HasArrays s spec = has_array_bytes (extents s) spec.type ≡ true

-- what a declarator declares has such a type, which is complete where it has an initializer, or is that of an array of
-- unknown size with complete elements
abbrev pub IsCompleteIf : List (Option TypeExtent) → (has_initializer : Bool) → Option Meaning → Type 0
IsCompleteIf es true (Some (meaning.Named what type)) = IsCompleteFor es true type
IsCompleteIf es has_initializer m = Unit {0}

pub record IsDeclared (has_initializer : Bool) (state : State) (meaning : Option Meaning) : Type 0 where
  pub arrays : HasArraysOf (extents state) meaning
  pub complete : IsCompleteIf (extents state) has_initializer meaning
