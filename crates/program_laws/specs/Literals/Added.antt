-- String literals that typing adds to a state, and those of a file (C99 6.4.5).
use Rattle.std.specs.Prelude.{◌≡◌, ℕ, ◌≤◌, true, List, ◌++◌, length, Option, Some, None}
use Rattle.c_scope.specs.declared.meaning.Designated.TheVariants as what
use Rattle.c_scope.specs.declared.meaning.Entity.{Entity}
use Rattle.c_scope.specs.Names.{Name, Names, declared}
use Rattle.c_typing_state.specs.State.{Literal, State}
use Rattle.c_unit_typing.specs.Files.{File}
use Rattle.typing_laws.specs.Types.Typed.{Each}

-- a literal that stands in the function with this number, or outside of functions; a 0 ends its bytes
pub record IsOf (owner : Option ℕ) (literal : Literal) : Type 0 where
  pub function : literal.function ≡ owner
  pub bytes : 1 ≤ length literal.bytes

-- each literal that is new in the state behind stands in the function of the state before
pub record AddsLiterals (s behind : State) : Type 0 where
  pub rest : List Literal
  pub is : behind.literals ≡ s.literals ++ rest
  pub each : Each (IsOf s.function) rest
  pub function : behind.function ≡ s.function

-- a name of a function that is defined stands for the function with this number
pub record IsDefinedFunction (es : Names Entity) (number : ℕ) : Type 0 where
  pub name : Name
  pub entity : Entity
  pub there : declared name es ≡ Some entity
  pub what : entity.what ≡ what.Function number
  pub defined : entity.is_defined ≡ true

abbrev pub IsOutsideOrDefined : Names Entity → Option ℕ → Type 0
IsOutsideOrDefined es None = Unit {0}
IsOutsideOrDefined es (Some n) = IsDefinedFunction es n

-- a literal outside of functions or in a function that is defined
pub record IsPlaced (es : Names Entity) (literal : Literal) : Type 0 where
  pub function : IsOutsideOrDefined es literal.function
  pub bytes : 1 ≤ length literal.bytes

-- a file outside of the blocks of functions, with its literals
pub record PlacesLiterals (file : File) : Type 0 where
  pub outside : file.state.function ≡ None
  pub each : Each (IsPlaced file.state.environment.entities) file.state.literals
