-- What is asked of a program so that it has an expansion: numbers that fit, and names of what is there.
use Rattle.std.specs.Prelude.{◌≡◌, ℕ, ◌+◌, ◌^◌, ◌<◌, ◌≤◌, Bool, true, ◌&&◌, nat_le, List, length}
use Rattle.std.specs.Prelude.{Some, slice_get}
use Rattle.std.specs.List.{list_all}
use Rattle.c_tree.specs.declared.program.Variable.{Variable}
use Rattle.c_tree.specs.Kinds.{size_of_kind}
use Rattle.c_tree.specs.Valid.{at_number}
use Rattle.tac_ir.specs.declared.instruction.Instruction.{Instruction}
use Rattle.tac_ir.specs.declared.function.CodeFunction.{CodeFunction}
use Rattle.tac_ir.specs.declared.function.Tac.{Tac}
use Rattle.metadata_plan.specs.Registers.{most_temporaries}
use Rattle.metadata_relation.specs.Registers.{total}
use Rattle.metadata_relation.specs.StartData.{statics_end}
use Rattle.metadata_relation.specs.Structures.{HasAreas}
use Rattle.instruction_selection.specs.Registers.{HasFewRegisters, last_handed, function_named}
use Rattle.metadata_expansion.specs.Areas.{structure_taken}
use Rattle.instruction_selection.specs.Registers.{leaves_objects}

-- the bytes of a variable, and of what may stand before it so that it begins at a multiple of 16
abbrev pub padded_size : Variable → ℕ
padded_size v = size_of_kind v.kind + 15

-- the bytes of variables have numbers of 62 bits
abbrev pub HaveFewBytes : (parameters others : List Variable) → Type 0
HaveFewBytes ps vs = total padded_size ps + total padded_size vs ≤ 2 ^ 62

-- each object of a list is one of some variables, by its number
abbrev pub HaveObjectsOf : (all declared : List Variable) → Type 0
HaveObjectsOf all vs = (x : ℕ) → (at_number vs x).is_object ≡ true → (at_number all x).is_object ≡ true

-- an instruction names temporaries of its function, and functions that have an address in the jump table, and puts
-- structures of 2^62 bytes at most into temporaries
abbrev pub names_own : Tac → CodeFunction → Instruction → Bool
names_own t c i =
    nat_le (last_handed t i) (most_temporaries c.code)
    && (nat_le (function_named i) (2 ^ 12) && (leaves_objects c i && nat_le (structure_taken t i) (2 ^ 62)))

-- its registers and the bytes of its variables have small numbers, and its body declares objects of its own
pub record IsSmall (function : CodeFunction) : Type 0 where
  pub registers : HasFewRegisters function
  pub objects : HaveFewBytes function.parameters function.variables
  pub body : HaveFewBytes function.parameters function.entered
  pub entered : HaveObjectsOf function.variables function.entered

-- what the calls are charged for it has room for its structures by value
pub record IsWithinLimits (code : Tac) (function : CodeFunction) : Type 0 where
  pub small : IsSmall function
  pub areas : HasAreas code function
  pub names : list_all (names_own code function) function.code ≡ true

pub record AreWithinLimits (code : Tac) : Type 0 where
  pub count : length code.functions ≤ 2 ^ 12
  pub main : code.main < length code.functions
  pub statics : statics_end code.statics 0 ≤ 0x400000
  pub functions : (u : ℕ) (c : CodeFunction) → slice_get code.functions u ≡ Some c → IsWithinLimits code c
