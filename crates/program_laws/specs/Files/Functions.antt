-- Types of functions in typed programs: they are valid, and all different (C99 6.7.5.3).
use Rattle.std.specs.Prelude.{◌≡◌, true}
use Rattle.std.specs.List.{list_all}
use Rattle.c_tree.specs.ValidProgram.{are_all_different, is_function_type}
use Rattle.c_unit_typing.specs.Files.{File}
use Rattle.c_unit_typing.specs.Programs.{program_of}

pub record AreFunctionTypes (file : File) : Type 0 where
  pub valid : list_all (is_function_type (program_of file)) (program_of file).function_types ≡ true
  pub different : are_all_different (program_of file).function_types ≡ true
