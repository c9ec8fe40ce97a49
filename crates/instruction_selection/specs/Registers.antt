-- The numbers of a function's virtual registers, as a struct has them.
use Rattle.std.specs.Prelude.{◌≡◌, ℕ, ◌+◌, ◌*◌, ◌^◌, ◌≤◌, Bool, true, length, Some, get_or}
use Rattle.c_tree.specs.Format.{directives, pieces}
use Rattle.source_meaning.specs.Printing.{pieces_or_none}
use Rattle.source_meaning.specs.Blocks.{has_objects}
use Rattle.tac_ir.specs.declared.instruction.Instruction.{Instruction}
use Rattle.tac_ir.specs.declared.instruction.Instruction.TheVariants as tac
use Rattle.tac_ir.specs.declared.function.Tac.{Tac}
use Rattle.tac_ir.specs.Meaning.{objects_in, text_in}
use Rattle.tac_ir.specs.declared.function.CodeFunction.{CodeFunction}
use Rattle.tac_ir.specs.Temporaries.{temporaries}
use Rattle.metadata_plan.specs.Registers.{most_temporaries}
use Rattle.metadata_relation.specs.Registers.{variable_register, variables_end, home_register, homes_end}
use Rattle.metadata_relation.specs.Registers.{first_free}
use Rattle.metadata_expansion.specs.Areas.{structure_taken}
use Rattle.instruction_selection.specs.declared.registers.Registers.{Registers}
use Rattle.instruction_selection.specs.Calls.{argument_count}

-- so many registers from the first free one on a block needs for itself at most
abbrev pub block_registers : ℕ
block_registers = 16

-- Virtual registers have numbers below 2^31, so that a routine may have more behind those of its block.
abbrev pub HasFewRegisters : CodeFunction → Type 0
HasFewRegisters c = first_free c + block_registers ≤ 2 ^ 31

pub record AreRegisters (registers : Registers) (function : CodeFunction) : Type 0 where
  pub variables : (x : ℕ) → get_or registers.variables x registers.first_home ≡ variable_register function x
  pub homes : (x : ℕ) → get_or registers.homes x registers.first_temporary ≡ home_register function x
  pub begin : registers.first_home ≡ variables_end function
  pub temporaries : registers.first_temporary ≡ homes_end function
  pub moved : registers.first_moved ≡ homes_end function + 5 * most_temporaries function.code
  pub free : registers.free ≡ first_free function
  pub small : HasFewRegisters function

-- the arguments of a routine of the library, and of the directives of a format, are temporaries of the function
abbrev pub last_handed : Tac → Instruction → ℕ
last_handed t (tac.Library r line d n m) = d + argument_count r
last_handed t (tac.Print x line d n m) = d + length (directives (pieces_or_none (pieces (text_in t x))))
last_handed t i = 0

abbrev pub function_named : Instruction → ℕ
function_named (tac.FunctionPointer d f m) = f
function_named i = 0

-- a block that is left has objects
abbrev pub leaves_objects : CodeFunction → Instruction → Bool
leaves_objects c (tac.LeaveBlock b m) = has_objects (objects_in (Some c) b)
leaves_objects c i = true

-- an instruction names temporaries of its function, and functions that have an address in the jump table, and puts
-- structures of 2^62 bytes at most into temporaries
pub record IsAmong (program : Tac) (function : CodeFunction) (instruction : Instruction) : Type 0 where
  pub temporaries : temporaries instruction ≤ most_temporaries function.code
  pub handed : last_handed program instruction ≤ most_temporaries function.code
  pub functions : function_named instruction ≤ 2 ^ 12
  pub left : leaves_objects function instruction ≡ true
  pub taken : structure_taken program instruction ≤ 2 ^ 62
