-- Valid callees and arguments (C99 6.5.2.2).
use Rattle.std.specs.Prelude.{◌≡◌, ℕ, true, List, [], ◌∷◌, get_or, Option}
use Rattle.c_tree.specs.declared.c_type.TypeWord.{TypeWord}
use Rattle.c_tree.specs.Extents.{TypeExtent}
use Rattle.c_tree.specs.Kinds.{pointer, Signature, routine_signature}
use Rattle.c_tree.specs.Tree.{Expression, kind_of}
use Rattle.c_tree.specs.TypesAgree.{agrees}
use Rattle.c_tree.specs.Valid.{Scope, is_valid, has_number, no_signature}
use Rattle.c_rules.specs.Values.{Value}
use Rattle.c_rules.specs.Fine.{IsFine}
use Rattle.c_call_rules.specs.Calls.{Callee, of_function, of_pointer, of_routine}

-- a number has a signature in a list
pub record HasSignature (list : List Signature) (number : ℕ) (signature : Signature) : Type 0 where
  pub there : has_number list number ≡ true
  pub same : get_or list number no_signature ≡ signature

-- a valid pointer to a function of the type with a number
pub record IsFinePointer (scope : Scope) (number : ℕ) (expression : Expression) (signature : Signature) : Type 0 where
  pub valid : is_valid scope expression ≡ true
  pub kind : kind_of expression ≡ pointer
  pub type : HasSignature scope.types number signature

abbrev pub IsFineCallee : Scope → Callee → Signature → Type 0
IsFineCallee scope (of_function n) s = HasSignature scope.functions n s
IsFineCallee scope (of_pointer n e) s = IsFinePointer scope n e s
IsFineCallee scope (of_routine r) s = routine_signature r ≡ s

abbrev pub AreFine : Scope → List (Option TypeExtent) → List Value → Type 0
AreFine scope structures [] = Unit {0}
AreFine scope structures (v ∷ vs) = IsFine scope structures v × AreFine scope structures vs

-- the words of a function type are those of a signature
abbrev pub Spells : List (Option TypeExtent) → List TypeWord → Signature → Type 0
Spells structures words s = agrees structures words s.parameters s.result ≡ true
