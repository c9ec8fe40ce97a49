-- Values that are valid, of the kind that their type has.
use Rattle.std.specs.Prelude.{◌≡◌, true, false, List, Option, Some, Ok, Err}
use Rattle.c_tree.specs.declared.c_type.TypeWord.{TypeWord}
use Rattle.c_tree.specs.Extents.{TypeExtent}
use Rattle.c_tree.specs.Kinds.{is_value}
use Rattle.c_tree.specs.Tree.{Expression, kind_of}
use Rattle.c_tree.specs.TypesAgree.{kind_of_type}
use Rattle.c_tree.specs.Valid.{Scope, is_valid, is_converted}
use Rattle.c_faults.specs.Answer.{Answer}
use Rattle.c_rules.specs.Values.{Value}

-- a value whose tree is valid where names stand for this, has the kind of its type, and is no implicit conversion, so
-- that one may stand above it
pub record IsFine (scope : Scope) (structures : List (Option TypeExtent)) (value : Value) : Type 0 where
  pub valid : is_valid scope value.tree ≡ true
  pub kind : kind_of_type structures value.type ≡ Some (kind_of value.tree)
  pub bare : is_converted value.tree ≡ false

abbrev pub IfFine : Scope → List (Option TypeExtent) → Answer Value → Type 0
IfFine scope structures (Ok v) = IsFine scope structures v
IfFine scope structures (Err f) = Unit {0}

-- a tree that is valid, has the kind of a type, and may be stored in an object of it
pub record IsFineAs (scope : Scope) (structures : List (Option TypeExtent)) (type : List TypeWord)
    (expression : Expression) : Type 0 where
  pub valid : is_valid scope expression ≡ true
  pub kind : kind_of_type structures type ≡ Some (kind_of expression)
  pub value : is_value (kind_of expression) ≡ true

abbrev pub IfFineAs : Scope → List (Option TypeExtent) → (type : List TypeWord) → Answer Expression → Type 0
IfFineAs scope structures type (Ok e) = IsFineAs scope structures type e
IfFineAs scope structures type (Err f) = Unit {0}
