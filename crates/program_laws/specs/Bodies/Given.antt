-- What initializers are typed to, in the scope of the function in a program (C99 6.7.8).
use Rattle.std.specs.Prelude.{◌≡◌, true, false, List, [], ◌∷◌, Ok, Err}
use Rattle.c_tree.specs.declared.c_type.TypeWord.{TypeWord}
use Rattle.c_tree.specs.declared.expression.Kind.{Kind}
use Rattle.c_tree.specs.Kinds.{size_of_kind}
use Rattle.c_tree.specs.Statements.{Part, value_content}
use Rattle.c_tree.specs.Tree.{Expression, kind_of}
use Rattle.c_tree.specs.Valid.{Scope, is_valid}
use Rattle.c_tree.specs.ValidProgram.{are_parts}
use Rattle.c_faults.specs.Answer.{Answer}
use Rattle.c_operand_typing.specs.Primaries.{is_aggregate}
use Rattle.c_typing_state.specs.State.{State, extents}
use Rattle.c_unit_typing.specs.Declarations.{kind_in}
use Rattle.typing_laws.specs.Validity.Sound.{Covers}
use Rattle.typing_laws.specs.Validity.Steps.{Structures}
use Rattle.typing_laws.specs.Declarations.Binding.{IsObjectType}

-- a scalar has one value, of its kind
pub record IsScalarPart (scope : Scope) (k : Kind) (parts : List Part) : Type 0 where
  pub tree : Expression
  pub is : parts ≡ record { offset = 0; content = value_content tree } ∷ []
  pub valid : is_valid scope tree ≡ true
  pub kind : kind_of tree ≡ k

-- an object of a complete type, with what its initializer stores
pub record AreInitialized (scope : Scope) (state : State) (type : List TypeWord) (parts : List Part) : Type 0 where
  pub complete : IsObjectType (extents state) type
  pub within : are_parts scope (size_of_kind (kind_in state type)) parts ≡ true
  pub scalar : is_aggregate type ≡ false → IsScalarPart scope (kind_in state type) parts

abbrev pub IfInitialized : Scope → (last : Structures) → Answer (State × (List TypeWord × List Part)) → Type 0
IfInitialized scope last (Ok r) = Covers scope last r.0 → AreInitialized scope r.0 r.1.0 r.1.1
IfInitialized scope last (Err f) = Unit {0}
