-- What typing carries, beside the program that it makes: what is known where a construct stands, and what a state has
-- that the scope of the function in that program has too.
use Rattle.std.specs.Prelude.{◌≡◌, ℕ, ◌<◌, ◌≤◌, ◌++◌, Bool, true, List, ◌∷◌, length, get_or, slice_get, Option, Some}
use Rattle.std.specs.Prelude.{None, Ok, Err}
use Rattle.obj_memory.specs.declared.int_type.IntType.TheVariants.{Int}
use Rattle.obj_memory.specs.Integers.{fit}
use Rattle.c_tree.specs.declared.c_type.TypeWord.{TypeWord}
use Rattle.c_tree.specs.declared.c_type.TypeWord.TheVariants as word
use Rattle.c_tree.specs.declared.expression.Kind.TheVariants as kind
use Rattle.c_tree.specs.Extents.{TypeExtent, structure_extent}
use Rattle.c_tree.specs.Kinds.{Signature, is_size}
use Rattle.c_tree.specs.Valid.{Scope, has_number}
use Rattle.c_faults.specs.Answer.{Answer}
use Rattle.c_call_rules.specs.FineCalls.{HasSignature, Spells}
use Rattle.c_scope.specs.declared.meaning.Meaning.TheVariants.{Constant, Typedef}
use Rattle.c_scope.specs.declared.meaning.Tag.{Tag}
use Rattle.c_scope.specs.declared.meaning.Tag.TheVariants as tag
use Rattle.c_scope.specs.Names.{Name, meaning}
use Rattle.c_scope.specs.Structures.{is_begun}
use Rattle.c_typing_state.specs.State.{Literal, State, extents}
use Rattle.typing_laws.specs.Validity.More.{AreMore}
use Rattle.typing_laws.specs.Validity.Names.{IsMeant}
use Rattle.typing_laws.specs.Validity.Typed.{HaveMembers}

-- names stand for something of the kind of their type, and members lie in their structures
pub record Knows (scope : Scope) (last : List (Option TypeExtent)) (state : State) : Type 0 where
  pub names : (name : Name) → IsMeant scope last state (meaning name state.environment.names)
  pub members : HaveMembers state

-- a string literal is an array among the static objects
pub record IsLiteral (scope : Scope) (literal : Literal) : Type 0 where
  pub sized : is_size (length literal.bytes) ≡ true
  pub there : has_number scope.statics literal.number ≡ true
  pub kind : get_or scope.statics literal.number kind.Void ≡ kind.Array (length literal.bytes)

-- a type of functions that are called through pointers has its number, and a signature that it spells at the end
pub record IsTypeOf (scope : Scope) (last : List (Option TypeExtent)) (number : ℕ) (type : List TypeWord) : Type 0 where
  pub signature : Signature
  pub has : HasSignature scope.types number signature
  pub spelled : Spells last type signature

-- the string literals and the types of functions so far are those of the program, at whose end these structures are
-- complete, and no function is used that is not defined
pub record Covers (scope : Scope) (last : List (Option TypeExtent)) (state : State) : Type 0 where
  pub more : AreMore (extents state) last
  pub undefined : state.undefined ≡ None
  pub literals : (n : ℕ) (l : Literal) → slice_get state.literals n ≡ Some l → IsLiteral scope l
  pub types : (n : ℕ) (type : List TypeWord) → slice_get state.function_types n ≡ Some type → IsTypeOf scope last n type

-- a list that goes on
pub record Extended {A : Type 0} (list longer : List A) : Type 0 where
  pub rest : List A
  pub is : longer ≡ list ++ rest

-- the structures and unions of a state: those that are complete have begun, and have from 1 to 2^32 bytes, and a tag
-- stands for one that is declared; an enumerator is an int, and an array that a typedef name stands for has such a size

abbrev pub IsNumbered : (count : ℕ) → Tag → Type 0
IsNumbered count (tag.Structure n) = n < count
IsNumbered count (tag.Union n) = n < count
IsNumbered count (tag.Enumeration n) = Unit {0}

-- of an object (C99 6.2.5)
pub record IsObjectExtent (extent : TypeExtent) : Type 0 where
  pub size : is_size extent.size ≡ true
  pub least : 1 ≤ extent.alignment
  pub greatest : extent.alignment ≤ 8

-- whether an array, if it is one of a known size, has that of an object, and of an unknown size its elements have
abbrev pub is_sized_array : List TypeWord → Bool
is_sized_array (word.Array count bytes ∷ element) = is_size bytes
is_sized_array (word.OpenArray ∷ element) = is_sized_array element
is_sized_array (word.Const ∷ type) = is_sized_array type
is_sized_array type = true

pub record IsFormed (state : State) : Type 0 where
  pub same : length (extents state) ≡ length state.environment.structures.bodies
  pub begun : (n : ℕ) (e : TypeExtent) → structure_extent (extents state) n ≡ Some e
      → is_begun n state.environment.structures.bodies ≡ true
  pub sizes : (n : ℕ) (e : TypeExtent) → structure_extent (extents state) n ≡ Some e → IsObjectExtent e
  pub tags : (name : Name) (t : Tag) → meaning name state.environment.tags ≡ Some t
      → IsNumbered (length (extents state)) t
  pub constants : (name : Name) (w : ℕ) → meaning name state.environment.names ≡ Some (Constant w) → fit Int w ≡ w
  pub typedefs : (name : Name) (type : List TypeWord) → meaning name state.environment.names ≡ Some (Typedef type)
      → is_sized_array type ≡ true

-- a structure or union whose members are read
pub record IsPending (state : State) (number : ℕ) : Type 0 where
  pub begun : is_begun number state.environment.structures.bodies ≡ true
  pub incomplete : structure_extent (extents state) number ≡ None

-- a state behind another
pub record Keeps (scope : Scope) (last : List (Option TypeExtent)) (s behind : State) : Type 0 where
  pub more : AreMore (extents s) (extents behind)
  pub literals : Extended s.literals behind.literals
  pub types : Extended s.function_types behind.function_types
  pub knows : Knows scope last s → Knows scope last behind
  pub pending : (n : ℕ) → IsPending s n → IsPending behind n
  pub formed : IsFormed behind
  pub undefined : behind.undefined ≡ None → s.undefined ≡ None

-- what a construct is typed to from a state on has a property, given another that holds there
abbrev pub Sound : {A : Type 0} → Scope → (last : List (Option TypeExtent)) → State
    → (given : List (Option TypeExtent) → Type 0) → (gives : List (Option TypeExtent) → A → Type 0)
    → Answer (State × A) → Type 0
Sound scope last s given gives (Ok r) =
    IsFormed s
    → Keeps scope last s r.0 × (Knows scope last s → given (extents s) → Covers scope last r.0
    → gives (extents r.0) r.1)
Sound scope last s given gives (Err f) = Unit {0}
