-- The initializers of objects with linkage, where they stand in a file and at its end (C99 6.2.7, 6.7.8, 6.9.2).
use Rattle.std.specs.Prelude.{◌≡◌, ℕ, true, List, [], ◌∷◌, None}
use Rattle.c_tree.specs.declared.c_type.TypeWord.{TypeWord}
use Rattle.c_tree.specs.Kinds.{size_of_kind}
use Rattle.c_tree.specs.Statements.{Part}
use Rattle.c_tree.specs.Valid.{Scope}
use Rattle.c_tree.specs.ValidProgram.{are_parts}
use Rattle.c_scope.specs.declared.meaning.Designated.TheVariants as what
use Rattle.c_scope.specs.declared.meaning.Entity.{Entity}
use Rattle.c_scope.specs.Names.{Name, Names, declared}
use Rattle.c_typing_state.specs.State.{extents}
use Rattle.c_unit_typing.specs.Declarations.{kind_in}
use Rattle.c_unit_typing.specs.Files.{File}
use Rattle.typing_laws.specs.Validity.Sound.{Covers, Knows}
use Rattle.typing_laws.specs.Validity.Steps.{Structures}
use Rattle.typing_laws.specs.Validity.Typed.{HaveMembers}
use Rattle.typing_laws.specs.Declarations.Binding.{IsObjectType}
use Rattle.typing_laws.specs.Scopes.Leaving.{Grows}
use Rattle.program_laws.specs.Bodies.Parameters.{IsOutside}
use Rattle.program_laws.specs.Functions.Entities.{Continue}
use Rattle.program_laws.specs.Names.Linked.{AreFilled, IsFilled}

-- each name stands once in a list
abbrev pub AreOwn : Names Entity → Type 0
AreOwn [] = Unit {0}
AreOwn (e ∷ es) = (declared e.0 es ≡ None) × AreOwn es

-- What the initializer of an object with a number stores: it stands behind the name of the object, at file scope, where
-- names with linkage stood for what they stand for at the end of the file, but for sizes of arrays; behind it the
-- object has a complete type, which the type that it has at the end fills; and the parts are valid in it.
pub record IsInitializer (end : File) (number : ℕ) (parts : List Part) : Type 0 where
  pub before : File
  pub outside : IsOutside before.state
  pub filled : AreFilled before.state.environment
  pub members : HaveMembers before.state
  pub grown : Grows before end
  pub continues : Continue before.state.environment.entities end.state.environment.entities
  pub behind : File
  pub grows : Grows behind end
  pub name : Name
  pub type : List TypeWord
  pub complete : IsObjectType (extents behind.state) type
  pub entity : IsFilled (what.Object number) type (declared name end.state.environment.entities)
  pub valid : (scope : Scope) (last : Structures) → Knows scope last before.state → Covers scope last behind.state
      → are_parts scope (size_of_kind (kind_in behind.state type)) parts ≡ true

abbrev pub AreInitializers : File → List (ℕ × List Part) → Type 0
AreInitializers end [] = Unit {0}
AreInitializers end (i ∷ is) = IsInitializer end i.0 i.1 × AreInitializers end is
