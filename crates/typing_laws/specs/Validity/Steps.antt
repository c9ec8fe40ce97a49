-- What the parts of an expression give, and what its type names and calls through pointers are taken to do.
use Rattle.std.specs.Prelude.{◌≡◌, ℕ, Bool, true, List, Option}
use Rattle.c_syntax.specs.Tree.{TypedDeclarator}
use Rattle.c_tree.specs.declared.c_type.TypeWord.{TypeWord}
use Rattle.c_tree.specs.Extents.{TypeExtent}
use Rattle.c_tree.specs.Valid.{Scope}
use Rattle.c_rules.specs.Fine.{IsFine}
use Rattle.c_rules.specs.Values.{Value}
use Rattle.c_place_rules.specs.Operands.{Operand}
use Rattle.c_place_laws.specs.FinePlaces.{IsEarlierOperand, IsFineOperand}
use Rattle.c_call_rules.specs.FineCalls.{AreFine}
use Rattle.c_operand_typing.specs.Calls.{pointer_applied}
use Rattle.c_typing_state.specs.State.{State}
use Rattle.c_expression_typing.specs.Typed.{type_name}
use Rattle.typing_laws.specs.Validity.Regular.{is_regular_name}
use Rattle.typing_laws.specs.Validity.Sound.{Sound}

abbrev pub Structures : Type 0
Structures = List (Option TypeExtent)

abbrev pub nothing : Structures → Type 0
nothing es = Unit {0}

-- what is evaluated is valid

abbrev pub Fine : Scope → (is_evaluated : Bool) → Structures → Operand → Type 0
Fine scope is es o = is ≡ true → IsFineOperand scope es o

-- what is written may be typed where fewer structures are complete
abbrev pub Written : Scope → (is_evaluated : Bool) → Structures → Operand → Type 0
Written scope is es o = is ≡ true → IsEarlierOperand scope es o

abbrev pub FineValue : Scope → (is_evaluated : Bool) → Structures → Value → Type 0
FineValue scope is es v = is ≡ true → IsFine scope es v

abbrev pub FineAll : Scope → (is_evaluated : Bool) → Structures → List Value → Type 0
FineAll scope is es vs = is ≡ true → AreFine scope es vs

-- type names keep what is known
pub record TypeNames (scope : Scope) (last : Structures) : Type 0 where
  pub each : (x : TypedDeclarator) → is_regular_name x ≡ true → (s : State)
      → Sound scope last s nothing (λ (es : Structures) (type : List TypeWord). Unit {0}) (type_name x s)

-- calls through pointers give what is valid
pub record PointerCalls (scope : Scope) (last : Structures) : Type 0 where
  pub each : (s : State) (is_evaluated : Bool) (line : ℕ) (v : Value) (vs : List Value)
      → Sound scope last s (λ es. FineValue scope is_evaluated es v × FineAll scope is_evaluated es vs)
      (Fine scope is_evaluated) (pointer_applied line v vs s)
