-- What a program is made of, before it is known what calls of its functions take.
use Rattle.std.specs.Prelude.{ℕ, List, map, Option, codes}
use Rattle.c_tree.specs.declared.c_type.TypeWord.{TypeWord}
use Rattle.c_tree.specs.Extents.{TypeExtent}
use Rattle.c_tree.specs.Programs.{Program, StaticObject}
use Rattle.c_tree.specs.View.{static_of}
use Rattle.c_scope.specs.Names.{declared}
use Rattle.c_typing_state.specs.State.{extents}
use Rattle.c_programs.specs.FileState.{definition_of}
use Rattle.c_unit_typing.specs.Files.{Definition, File}
use Rattle.c_unit_typing.specs.Programs.{function_type, number_or_zero, static_objects}
use Rattle.c_programs.specs.declared.outline.Outline as code
use Rattle.c_programs.specs.Rooms.{functions_among}

pub record Outline : Type 0 where
  pub structures : List (Option TypeExtent)
  pub statics : List StaticObject
  pub types : List (List TypeWord)
  pub definitions : List Definition
  pub main : ℕ

abbrev pub outline_of : code.Outline → Outline
outline_of o = record {
  structures = o.structures.items;
  statics = map static_of o.statics.items;
  types = o.types.items;
  definitions = map definition_of o.definitions.items;
  main = o.main;
}

abbrev pub outline_in : File → Outline
outline_in f = record {
  structures = extents f.state;
  statics = static_objects f;
  types = f.state.function_types;
  definitions = f.definitions;
  main = number_or_zero (declared (codes "main") f.state.environment.facts.functions);
}

abbrev pub program_in : Outline → Program
program_in o = record {
  structures = o.structures;
  statics = o.statics;
  function_types = map (function_type o.structures) o.types;
  functions = functions_among o.structures o.types o.statics 0 o.definitions;
  main = o.main;
}
