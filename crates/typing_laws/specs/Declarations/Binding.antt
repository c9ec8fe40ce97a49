-- A name that a declarator binds in the innermost scope (C99 6.2.1, 6.2.2, 6.7).
use Rattle.std.specs.Prelude.{◌≡◌, ◌⊎◌, ℕ, ◌≤◌, Bool, true, false, if◌then◌else◌, List, get_or, Option, Some, Ok, Err}
use Rattle.c_tree.specs.declared.c_type.TypeWord.{TypeWord}
use Rattle.c_tree.specs.declared.expression.Kind.TheVariants as kind
use Rattle.c_tree.specs.Extents.{TypeExtent, extent_of}
use Rattle.c_tree.specs.Valid.{Scope, has_number, variable_at}
use Rattle.c_faults.specs.Answer.{Answer}
use Rattle.c_scope.specs.declared.meaning.Designated.{Designated}
use Rattle.c_scope.specs.declared.meaning.Designated.TheVariants as what
use Rattle.c_scope.specs.declared.meaning.Meaning.{Meaning}
use Rattle.c_scope.specs.declared.meaning.Meaning.TheVariants as meaning
use Rattle.c_scope.specs.declared.meaning.Storage.{Storage}
use Rattle.c_scope.specs.declared.meaning.Storage.TheVariants as storage
use Rattle.c_scope.specs.Declaring.{Declaration, has_linkage, is_typedef, sized_by_initializer}
use Rattle.c_scope.specs.Environment.{Environment, entity_with, in_file, visible_type}
use Rattle.c_scope.specs.Names.{Name, declared}
use Rattle.c_scope.specs.Names as names
use Rattle.c_typing_state.specs.State.{State, extents}
use Rattle.c_unit_typing.specs.Declarations.{kind_in, variable_in}
use Rattle.typing_laws.specs.Validity.Sound.{IsFormed, IsObjectExtent, is_sized_array}
use Rattle.typing_laws.specs.Declarators.Extending.{IsSameOr}

-- in the state behind, a name stands for this in the innermost scope, and every other for what it did
pub record Binds (name : Name) (meaning : Meaning) (s behind : State) : Type 0 where
  pub structures : behind.environment.structures ≡ s.environment.structures
  pub tags : behind.environment.tags ≡ s.environment.tags
  pub facts : behind.environment.facts ≡ s.environment.facts
  pub objects : behind.objects ≡ s.objects
  pub function : behind.function ≡ s.function
  pub literals : behind.literals ≡ s.literals
  pub types : behind.function_types ≡ s.function_types
  pub undefined : behind.undefined ≡ s.undefined
  pub statics : s.environment.statics ≤ behind.environment.statics
  pub variables : s.environment.variables ≤ behind.environment.variables
  pub outer : behind.environment.names.outer ≡ s.environment.names.outer
  pub here : declared name behind.environment.names.current ≡ Some meaning
  pub names : (other : Name)
      → IsSameOr (λ x. x ≡ meaning) (declared other s.environment.names.current)
      (declared other behind.environment.names.current)

-- what a declarator binds its name to: with linkage to the object or function of that name, without to the next object
-- or variable, or to the type

abbrev pub linked_meaning : Environment → Declaration → Meaning
linked_meaning env d =
    meaning.Named (entity_with env d (declared d.name env.entities)).what
    (visible_type d.type (names.meaning d.name env.names))

abbrev pub unlinked_meaning : Storage → Environment → Declaration → Meaning
unlinked_meaning storage.Typedef env d = meaning.Typedef d.type
unlinked_meaning storage.Static env d = meaning.Named (what.Static env.statics) d.type
unlinked_meaning _ env d = meaning.Named (what.Variable env.variables) d.type

abbrev pub bound_meaning : Environment → Declaration → Meaning
bound_meaning env d = if has_linkage (in_file env) d then linked_meaning env d else unlinked_meaning d.storage env d

-- the type of an object, or of the elements of an array that has its size from its initializer, is complete
pub record IsCompleteFor (structures : List (Option TypeExtent)) (has_initializer : Bool) (type : List TypeWord)
    : Type 0 where
  pub extent : TypeExtent
  pub is : extent_of structures (if has_initializer then sized_by_initializer type else type) ≡ Some extent
  pub object : IsObjectExtent extent

-- a declarator that is declared: its name is bound, what has no linkage and is no typedef name is complete, and the
-- state stays formed
pub record Declares (declaration : Declaration) (s behind : State) : Type 0 where
  pub binds : Binds declaration.name (bound_meaning s.environment declaration) s behind
  pub complete : has_linkage (in_file s.environment) declaration ≡ false → is_typedef declaration.storage ≡ false
      → IsCompleteFor (extents s) declaration.has_initializer declaration.type
  pub sized : is_sized_array declaration.type ≡ true
  pub formed : IsFormed behind

abbrev pub IfDeclared : Declaration → State → Answer (State × Option Meaning) → Type 0
IfDeclared d s (Ok r) = Declares d s r.0 × (r.1 ≡ Some (bound_meaning s.environment d))
IfDeclared d s (Err f) = Unit {0}

-- an object of a complete type
pub record IsObjectType (structures : List (Option TypeExtent)) (type : List TypeWord) : Type 0 where
  pub extent : TypeExtent
  pub is : extent_of structures type ≡ Some extent
  pub object : IsObjectExtent extent

-- behind its initializer an object has a complete type: its name may be bound again, to an array whose size is known
-- now
pub record Completes (what : Designated) (name : Name) (s behind : State) (type : List TypeWord) : Type 0 where
  pub complete : IsObjectType (extents behind) type
  pub formed : IsFormed behind
  pub binds : (behind ≡ s) ⊎ Binds name (meaning.Named what type) s behind

abbrev pub IfCompleted : Designated → Name → State → Answer (State × List TypeWord) → Type 0
IfCompleted what name s (Ok r) = Completes what name s r.0 r.1
IfCompleted what name s (Err f) = Unit {0}

-- the scope of a function has a variable as it is declared, and a program a static object

abbrev pub HasVariable : Scope → State → (number : ℕ) → (type : List TypeWord) → Type 0
HasVariable scope s n type = variable_at scope n ≡ variable_in s n type

pub record HasStatic (scope : Scope) (state : State) (number : ℕ) (type : List TypeWord) : Type 0 where
  pub there : has_number scope.statics number ≡ true
  pub kind : get_or scope.statics number kind.Void ≡ kind_in state type
