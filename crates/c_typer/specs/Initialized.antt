-- An object with its initializer, without where this lies in memory.
use Rattle.std.specs.Prelude.{List, map}
use Rattle.c_tree.specs.declared.c_type.TypeWord.{TypeWord}
use Rattle.c_tree.specs.Statements.{Part}
use Rattle.c_tree.specs.View.{part_of}
use Rattle.c_typer.specs.declared.declarations.sizing.Initialized as code

abbrev pub initialized_of : code.Initialized → List TypeWord × List Part
initialized_of r = (r.c_type, map part_of r.parts.items)
