-- What typing gives from a state on, where something is known of that state beside what its names stand for.
use Rattle.std.specs.Prelude.{◌≡◌, ℕ, Bool, true, false, List, Ok, Err}
use Rattle.c_syntax.specs.Tree as t
use Rattle.c_tree.specs.declared.c_type.TypeWord.{TypeWord}
use Rattle.c_tree.specs.Tree.{Expression}
use Rattle.c_tree.specs.Valid.{Scope}
use Rattle.c_faults.specs.Answer.{Answer}
use Rattle.c_rules.specs.Conversions.{assigned}
use Rattle.c_rules.specs.Fine.{IsFine, IsFineAs}
use Rattle.c_rules.specs.Values.{Value}
use Rattle.c_typing_state.specs.State.{State, extents}
use Rattle.c_expression_typing.specs.Typed.{typed}
use Rattle.typing_laws.specs.Validity.Regular.{is_regular}
use Rattle.typing_laws.specs.Validity.Sound.{Covers, IsFormed, Keeps, Knows}
use Rattle.typing_laws.specs.Validity.Steps.{Structures}

-- what is known of names, if it is: what they stand for before, and what the program covers behind
abbrev pub AreKnown : (is_known : Bool) → Scope → (last : Structures) → (s behind : State) → Type 0
AreKnown true scope last s behind = Knows scope last s × Covers scope last behind
AreKnown false scope last s behind = Unit {0}

-- a value is valid where that is known
abbrev pub IsFineIf : (is_known : Bool) → Scope → Structures → Value → Type 0
IsFineIf true scope es v = IsFine scope es v
IsFineIf false scope es v = Unit {0}

-- a tree to which a value is converted as by assignment
pub record IsAssigned (es : Structures) (type : List TypeWord) (expression : Expression) : Type 0 where
  pub line : ℕ
  pub value : Value
  pub is : assigned es line type value ≡ Ok expression

-- it is valid where that is known
abbrev pub IsStored : (is_known : Bool) → Scope → Structures → (type : List TypeWord) → Expression → Type 0
IsStored true scope es type e = IsFineAs scope es type e
IsStored false scope es type e = IsAssigned es type e

-- what is known of a state is known of the state behind, and what was typed has a property, given another that holds
-- before
pub record Gives {A : Type 0} (is_known : Bool) (scope : Scope) (last : Structures) (Known : State
    → Type 0) (state : State)
    (given : Structures → Type 0) (gives : Structures → A → Type 0) (r : State × A) : Type 0 where
  pub keeps : Keeps scope last state r.0
  pub known : Known state → Known r.0
  pub has : AreKnown is_known scope last state r.0 → Known state → given (extents state) → gives (extents r.0) r.1

abbrev pub Giving : {A : Type 0} → (is_known : Bool) → Scope → (last : Structures) → (Known : State → Type 0) → State
    → (given : Structures → Type 0) → (gives : Structures → A → Type 0) → Answer (State × A) → Type 0
Giving is_known scope last Known s given gives (Ok r) = IsFormed s → Gives is_known scope last Known s given gives r
Giving is_known scope last Known s given gives (Err f) = Unit {0}

abbrev pub IfKept : {A : Type 0} → (Known : State → Type 0) → State → Answer (State × A) → Type 0
IfKept Known s (Ok r) = Known s → Known r.0
IfKept Known s (Err f) = Unit {0}

-- expressions keep what is known
pub record ExpressionsKeep (Known : State → Type 0) : Type 0 where
  pub each : (is_evaluated : Bool) (e : t.Expression) → is_regular e ≡ true → (s : State) → IsFormed s
      → IfKept Known s (typed is_evaluated e s)
