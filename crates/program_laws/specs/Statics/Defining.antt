-- The functions of the program of a file: each definition has its own, by its number (C99 6.9.1).
use Rattle.std.specs.Prelude.{[]}
use Rattle.c_tree.specs.Valid.{Scope}
use Rattle.c_unit_typing.specs.Files.{File}
use Rattle.c_unit_typing.specs.Programs.{program_of}
use Rattle.typing_laws.specs.Validity.Sound.{Covers}
use Rattle.program_laws.specs.Bodies.Whole.{AreInTurn}
use Rattle.program_laws.specs.Statics.Program.{AreFunctionsOf}

-- the definitions, in turn, have their functions; in some scope the program has what the file has
pub record HasFunctions (file : File) : Type 0 where
  pub turn : AreInTurn file file.definitions [] file.statics
  pub functions : AreFunctionsOf (program_of file) (program_of file).structures file file.definitions [] file.statics
      turn
  pub scope : Scope
  pub covers : Covers scope (program_of file).structures file.state
