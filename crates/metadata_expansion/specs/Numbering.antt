-- The numbers of a function's virtual registers, as a table has them.
use Rattle.std.specs.Prelude.{◌≡◌, ℕ, ◌+◌, ◌^◌, ◌<◌, ◌≤◌, get_or}
use Rattle.tac_ir.specs.declared.instruction.Instruction.{Instruction}
use Rattle.tac_ir.specs.declared.function.CodeFunction.{CodeFunction}
use Rattle.tac_ir.specs.Temporaries.{temporaries}
use Rattle.metadata_plan.specs.Registers.{words_in, all_variables, variable_register, most_temporaries, first_free}
use Rattle.metadata_expansion.specs.declared.registers.Registers.{Registers}
use Rattle.metadata_expansion.specs.Homes.{argument_count, free_count}
use Rattle.metadata_expansion.specs.Numbers.{callee}

pub record AreRegisters (registers : Registers) (function : CodeFunction) : Type 0 where
  pub variables : (x : ℕ) → get_or registers.variables x registers.words ≡ variable_register function x
  pub words : registers.words ≡ words_in (all_variables function)
  pub temporaries : registers.temporaries ≡ most_temporaries function.code
  pub free : registers.free ≡ first_free function
  pub small : registers.free + free_count function < 2 ^ 32

-- an instruction names no more than those of its function
pub record IsAmong (function : CodeFunction) (instruction : Instruction) : Type 0 where
  pub temporaries : temporaries instruction ≤ most_temporaries function.code
  pub arguments : argument_count instruction ≤ free_count function
  pub callee : callee instruction < 2 ^ 32
