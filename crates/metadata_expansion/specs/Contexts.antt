-- What the code of a function is made from, and that code.
use Rattle.std.specs.Prelude.{List}
use Rattle.tac_ir.specs.declared.instruction.Instruction.{Instruction}
use Rattle.flat_code.specs.declared.instruction.FlatInstruction.{FlatInstruction}
use Rattle.metadata_plan.specs.Blocks.{block, prologue}
use Rattle.metadata_plan.specs.OperatorLists.Operators.{operators}
use Rattle.metadata_expansion.specs.declared.context.FunctionContext.{FunctionContext}
use Rattle.metadata_expansion.specs.Numbering.{AreRegisters, IsAmong}

-- the numbers of the registers are those of the function
abbrev pub HasRegisters : FunctionContext → Type 0
HasRegisters x = AreRegisters x.registers.now x.function.now

-- the block of an instruction
abbrev pub block_in : FunctionContext → Instruction → List FlatInstruction
block_in x i = block operators x.map.now x.program.now x.function.now i

-- the code with which it begins
abbrev pub begin_in : FunctionContext → List FlatInstruction
begin_in x = prologue x.function.now

-- an instruction has a block that can be put
abbrev pub CanPutIn : FunctionContext → Instruction → Type 0
CanPutIn x i = HasRegisters x × IsAmong x.function.now i
