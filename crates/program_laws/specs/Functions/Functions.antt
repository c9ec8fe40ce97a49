-- The functions that a file defines, in the order of their definitions (C99 6.9.1).
use Rattle.std.specs.Prelude.{◌≡◌, ℕ, ◌==◌, true, false, List, length, Some, codes, slice_get}
use Rattle.c_tree.specs.declared.c_type.TypeWord.{TypeWord}
use Rattle.c_tree.specs.Programs.{Function, Program}
use Rattle.c_tree.specs.Room.{room}
use Rattle.c_tree.specs.Valid.{has_number}
use Rattle.c_tree.specs.ValidProgram.{signature_at}
use Rattle.c_scope.specs.declared.meaning.Entity.{Entity}
use Rattle.c_scope.specs.Declaring.{is_function}
use Rattle.c_scope.specs.Names.{Name, Names, declared}
use Rattle.c_unit_typing.specs.Files.{Definition}
use Rattle.program_laws.specs.Functions.Entities.{is_library, names_function, without_sizes}

-- a name that is that of a definition
pub record IsDefinition (ds : List Definition) (es : Names Entity) (name : Name) (number : ℕ) : Type 0 where
  pub definition : Definition
  pub there : slice_get ds number ≡ Some definition
  pub entity : Entity
  pub linked : declared name es ≡ Some entity
  pub defined : entity.is_defined ≡ true
  pub words : without_sizes definition.type ≡ without_sizes entity.c_type

pub record Defines (ds : List Definition) (es : Names Entity) (numbers : Names ℕ) : Type 0 where
  pub count : length numbers ≡ length ds
  pub each : (name : Name) (k : ℕ) → declared name numbers ≡ Some k → IsDefinition ds es name k
  pub all : (name : Name) (x : Entity) → declared name es ≡ Some x → names_function x.what ≡ true
      → x.is_defined ≡ true → (k : ℕ) × (declared name numbers ≡ Some k)
  pub kinds : (name : Name) (x : Entity) → declared name es ≡ Some x → is_library x.what ≡ false
      → names_function x.what ≡ is_function x.c_type
  pub library : (name : Name) (x : Entity) → declared name es ≡ Some x → is_library x.what ≡ true
      → x.is_defined ≡ true
  pub main : (x : Entity) → declared (codes "main") es ≡ Some x → is_library x.what ≡ false

-- the type of each definition is among the types of functions

pub record Registered (ds : List Definition) (types : List (List TypeWord)) : Type 0 where
  pub each : (k : ℕ) (d : Definition) → slice_get ds k ≡ Some d → (n : ℕ) × (slice_get types n ≡ Some d.type)

-- what holds behind declarations and definitions
pub record Functions (ds : List Definition) (es : Names Entity) (types : List (List TypeWord))
    (numbers : Names ℕ) : Type 0 where
  pub defines : Defines ds es numbers
  pub registered : Registered ds types

-- in the program each function has the number of its type, and the bytes that a call of it takes
pub record HasTypeAndRoom (program : Program) (number : ℕ) (function : Function) : Type 0 where
  pub type : has_number program.function_types function.type_number ≡ true
  pub room : (function.room == room program.statics number (signature_at program function.type_number).result function)
      ≡ true
