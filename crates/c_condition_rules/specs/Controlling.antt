-- Valid controlling expressions (C99 6.8.4, 6.8.5).
use Rattle.std.specs.Prelude.{◌≡◌, true, ◌&&◌, List, Option, Some, Ok, Err}
use Rattle.c_tree.specs.Extents.{TypeExtent}
use Rattle.c_tree.specs.Kinds.{is_promoted}
use Rattle.c_tree.specs.Tree.{Expression, kind_of}
use Rattle.c_tree.specs.TypesAgree.{kind_of_type}
use Rattle.c_tree.specs.Valid.{Scope, is_valid, is_condition}
use Rattle.c_faults.specs.Answer.{Answer}
use Rattle.c_rules.specs.Values.{Value}

abbrev pub IfCondition : Scope → Answer Expression → Type 0
IfCondition scope (Ok e) = is_condition scope e ≡ true
IfCondition scope (Err f) = Unit {0}

-- a valid value of a promoted integer type, as the labels of its switch are
pub record IsSwitchValue (scope : Scope) (structures : List (Option TypeExtent)) (value : Value) : Type 0 where
  pub valid : (is_valid scope value.tree && is_promoted (kind_of value.tree)) ≡ true
  pub kind : kind_of_type structures value.type ≡ Some (kind_of value.tree)

abbrev pub IfSwitchValue : Scope → List (Option TypeExtent) → Answer Value → Type 0
IfSwitchValue scope structures (Ok v) = IsSwitchValue scope structures v
IfSwitchValue scope structures (Err f) = Unit {0}
