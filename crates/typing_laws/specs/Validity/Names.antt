-- What names stand for, as the scope of a function in a program has it (C99 6.2.1, 6.5.1).
use Rattle.std.specs.Prelude.{◌≡◌, ℕ, true, false, ◌||◌, List, get_or, Option, Some, None}
use Rattle.obj_memory.specs.declared.int_type.IntType.TheVariants.{Int}
use Rattle.obj_memory.specs.Integers.{fit}
use Rattle.c_tree.specs.declared.c_type.TypeWord.{TypeWord}
use Rattle.c_tree.specs.declared.expression.Kind.TheVariants as kind
use Rattle.c_tree.specs.declared.expression.Kind.{Kind}
use Rattle.c_tree.specs.Extents.{TypeExtent, extent_of}
use Rattle.c_tree.specs.Kinds.{Signature}
use Rattle.c_tree.specs.Valid.{Scope, has_number, is_named_as, variable_at}
use Rattle.c_place_rules.specs.Targets.{object_kind}
use Rattle.c_place_laws.specs.FinePlaces.{IsSized}
use Rattle.c_call_rules.specs.FineCalls.{HasSignature, Spells}
use Rattle.c_scope.specs.declared.meaning.Designated.{Designated}
use Rattle.c_scope.specs.declared.meaning.Designated.TheVariants as what
use Rattle.c_scope.specs.declared.meaning.Meaning.{Meaning}
use Rattle.c_scope.specs.declared.meaning.Meaning.TheVariants as meaning
use Rattle.c_operand_typing.specs.Primaries.{is_aggregate, is_marked, is_undefined, size_or_zero}
use Rattle.c_typing_state.specs.State.{State}

-- the kind of an object of a type, of which the bytes are counted that it has with these structures
abbrev pub kind_among : (structures : List (Option TypeExtent)) → (type : List TypeWord) → Kind
kind_among structures type = object_kind (size_or_zero (extent_of structures type)) type

-- a static object that is named by a type: at the end it is of the kind of that type, or of one of which that type
-- tells
-- no size
pub record IsStaticOf (scope : Scope) (last : List (Option TypeExtent)) (number : ℕ) (type : List TypeWord) : Type 0
  where
    pub sized : IsSized last type (size_or_zero (extent_of last type))
    pub there : has_number scope.statics number ≡ true
    pub kind : is_named_as (get_or scope.statics number kind.Void) (kind_among last type) ≡ true

-- a variable of the function, which is an object where it is an array or a structure, or is marked as one
pub record IsVariableOf (scope : Scope) (last : List (Option TypeExtent)) (state : State) (number : ℕ)
    (type : List TypeWord) : Type 0 where
  pub sized : IsSized last type (size_or_zero (extent_of last type))
  pub kind : is_named_as (variable_at scope number).kind (kind_among last type) ≡ true
  pub object : (variable_at scope number).is_object ≡ (is_aggregate type || is_marked state.objects number)

-- a function, whose type spells its signature with the structures that are complete at the end
pub record IsFunctionOf (scope : Scope) (last : List (Option TypeExtent)) (number : ℕ)
    (type : List TypeWord) : Type 0 where
  pub signature : Signature
  pub has : HasSignature scope.functions number signature
  pub spelled : Spells last type signature

-- a function that the file does not define needs none, as long as it is not used
abbrev pub IsDesignated : Scope → (last : List (Option TypeExtent)) → State → Designated → List TypeWord → Type 0
IsDesignated scope last s (what.Object n) type = IsStaticOf scope last n type
IsDesignated scope last s (what.Static n) type = IsStaticOf scope last n type
IsDesignated scope last s (what.Function n) type = is_undefined n s ≡ false → IsFunctionOf scope last n type
IsDesignated scope last s (what.Library f) type = Unit {0}
IsDesignated scope last s (what.Variable n) type = IsVariableOf scope last s n type

abbrev pub IsMeant : Scope → (last : List (Option TypeExtent)) → State → Option Meaning → Type 0
IsMeant scope last s None = Unit {0}
IsMeant scope last s (Some (meaning.Typedef type)) = Unit {0}
IsMeant scope last s (Some (meaning.Constant w)) = fit Int w ≡ w
IsMeant scope last s (Some (meaning.Named what type)) = IsDesignated scope last s what type
