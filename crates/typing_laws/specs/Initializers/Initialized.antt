-- What initializers are typed to (C99 6.7.8).
use Rattle.std.specs.Prelude.{◌≡◌, true, List, [], ◌∷◌, Ok, Err}
use Rattle.c_tree.specs.declared.c_type.TypeWord.{TypeWord}
use Rattle.c_tree.specs.declared.expression.Kind.{Kind}
use Rattle.c_tree.specs.Kinds.{is_value, size_of_kind}
use Rattle.c_tree.specs.Statements.{Part, value_content}
use Rattle.c_tree.specs.Tree.{Expression, kind_of}
use Rattle.c_tree.specs.Valid.{Scope, is_valid}
use Rattle.c_tree.specs.ValidProgram.{are_parts, is_content}
use Rattle.c_faults.specs.Answer.{Answer}
use Rattle.c_scope.specs.declared.meaning.Designated.{Designated}
use Rattle.c_scope.specs.Names.{Name}
use Rattle.c_initializer_rules.specs.Placed.{PlacedPart}
use Rattle.c_typing_state.specs.State.{State, extents}
use Rattle.c_unit_typing.specs.Declarations.{kind_in}
use Rattle.typing_laws.specs.Validity.Sound.{Covers, Keeps, Knows}
use Rattle.typing_laws.specs.Validity.Steps.{Structures}
use Rattle.typing_laws.specs.Declarations.Binding.{Completes}
use Rattle.typing_laws.specs.Layouts.Listed.{HasSizes, IsLaidOut}

-- a part that stores a valid value of a kind that may be stored, or a literal
abbrev pub IsValidPart : Scope → PlacedPart → Type 0
IsValidPart scope p = is_content scope p.part.content ≡ true

-- an object of some type behind its initializer, if it has one: the name is bound to its complete type; the parts are
-- valid and lie in it, where names stood for what they do in the program
pub record IsInitialized (scope : Scope) (last : Structures) (what : Designated) (name : Name) (state : State)
    (r : State × (List TypeWord × List Part)) : Type 0 where
  -- behind the tokens of the initializer, where the name is still bound to the type with which it was declared
  pub ended : State
  pub keeps : Keeps scope last state ended
  pub completes : Completes what name ended r.0 r.1.0
  pub sizes : HasSizes (extents r.0) r.1.0
  pub laid_out : IsLaidOut r.0
  pub parts : Knows scope last state → Covers scope last r.0
      → are_parts scope (size_of_kind (kind_in r.0 r.1.0)) r.1.1 ≡ true

abbrev pub IfInitialized : Scope → (last : Structures) → Designated → Name → State
    → Answer (State × (List TypeWord × List Part)) → Type 0
IfInitialized scope last what name s (Ok r) = IsInitialized scope last what name s r
IfInitialized scope last what name s (Err f) = Unit {0}

-- one part, which stores a valid value of a kind in the whole object
pub record IsValueOf (scope : Scope) (k : Kind) (parts : List Part) : Type 0 where
  pub value : Expression
  pub valid : is_valid scope value ≡ true
  pub kind : kind_of value ≡ k
  pub stored : is_value k ≡ true
  pub is : parts ≡ record { offset = 0; content = value_content value } ∷ []

-- an object of scalar type behind its initializer
pub record IsScalarWith (scope : Scope) (last : Structures) (type : List TypeWord) (state : State)
    (r : State × (List TypeWord × List Part)) : Type 0 where
  pub same : r.1.0 ≡ type
  pub value : Knows scope last state → Covers scope last r.0 → IsValueOf scope (kind_in r.0 type) r.1.1

abbrev pub IfScalar : Scope → (last : Structures) → (type : List TypeWord) → State
    → Answer (State × (List TypeWord × List Part)) → Type 0
IfScalar scope last type s (Ok r) = IsScalarWith scope last type s r
IfScalar scope last type s (Err f) = Unit {0}
