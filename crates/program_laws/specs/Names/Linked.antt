-- Objects and functions with linkage at the end of a file (C99 6.2.2, 6.9.2), and the program that a scope is of.
use Rattle.std.specs.Prelude.{◌≡◌, ℕ, true, List, length, map, Option, Some, slice_get}
use Rattle.c_tree.specs.declared.c_type.TypeWord.{TypeWord}
use Rattle.c_tree.specs.Kinds.{has_size, is_size}
use Rattle.c_tree.specs.Programs.{Program}
use Rattle.c_tree.specs.Valid.{Scope}
use Rattle.c_tree.specs.ValidProgram.{signature_at, signatures_of}
use Rattle.c_scope.specs.declared.meaning.Designated.{Designated}
use Rattle.c_scope.specs.declared.meaning.Designated.TheVariants as what
use Rattle.c_scope.specs.declared.meaning.Entity.{Entity}
use Rattle.c_scope.specs.declared.meaning.Meaning.TheVariants as meaning
use Rattle.c_scope.specs.Declaring.{is_linked}
use Rattle.c_scope.specs.Environment.{Environment}
use Rattle.c_scope.specs.Names.{Name, declared}
use Rattle.c_scope.specs.Names as names
use Rattle.c_typing_state.specs.State.{Literal, extents}
use Rattle.c_unit_typing.specs.Declarations.{kind_in}
use Rattle.c_unit_typing.specs.Files.{File}
use Rattle.c_unit_typing.specs.Programs.{final_type}
use Rattle.program_laws.specs.Functions.Entities.{Fills}

-- each object with linkage, and each string literal, has the size of an object
pub record HaveSizes (file : File) : Type 0 where
  pub linked : (name : Name) (x : Entity) (n : ℕ) → declared name file.state.environment.entities ≡ Some x
      → x.what ≡ what.Object n → has_size (kind_in file.state (final_type (extents file.state) x.c_type)) ≡ true
  pub literals : (n : ℕ) (l : Literal) → slice_get file.state.literals n ≡ Some l → is_size (length l.bytes) ≡ true

-- a scope has the static objects, the functions and the types of functions of a program
pub record IsOf (program : Program) (scope : Scope) : Type 0 where
  pub statics : scope.statics ≡ map (λ s. s.kind) program.statics
  pub functions : scope.functions ≡ map (λ f. signature_at program f.type_number) program.functions
  pub types : scope.types ≡ signatures_of program

-- what a name stands for, where it has linkage: the object or function of that name, whose type has the sizes that the
-- name's type has (6.2.7)
pub record IsFilled (designated : Designated) (type : List TypeWord) (o : Option Entity) : Type 0 where
  pub entity : Entity
  pub is : o ≡ Some entity
  pub same : entity.what ≡ designated
  pub fills : Fills type entity.c_type

pub record AreFilled (env : Environment) : Type 0 where
  pub each : (name : Name) (d : Designated) (type : List TypeWord)
      → names.meaning name env.names ≡ Some (meaning.Named d type) → is_linked d ≡ true
      → IsFilled d type (declared name env.entities)
