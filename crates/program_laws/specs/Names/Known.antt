-- Definitions of a file, where it is known what names with linkage stand for (C99 6.9).
use Rattle.std.specs.Prelude.{List, [], ◌∷◌}
use Rattle.c_unit_typing.specs.Files.{Definition, File}
use Rattle.typing_laws.specs.Validity.Typed.{HaveMembers}
use Rattle.program_laws.specs.Bodies.Whole.{IsDefinition}
use Rattle.program_laws.specs.Names.Linked.{AreFilled}

-- a definition of a file: behind it each name with linkage has an object or function whose type has its sizes too
pub record IsKnown (end : File) (d : Definition) : Type 0 where
  pub definition : IsDefinition end d
  pub filled : AreFilled definition.behind.state.environment
  pub members : HaveMembers definition.before.state

abbrev pub AreKnown : File → List Definition → Type 0
AreKnown end [] = Unit {0}
AreKnown end (d ∷ ds) = IsKnown end d × AreKnown end ds
