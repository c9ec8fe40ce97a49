-- Lists of instructions that take no input and put no output.
use Rattle.std.proofs.Common.{◌≡◌, false, List}
use Rattle.flat_code.specs.declared.instruction.FlatInstruction.{FlatInstruction}
use Rattle.flat_code.specs.Routines.InputOutput.{has_input_output, IsWithoutInputOutput}

pub computes : (is : List FlatInstruction) → has_input_output is ≡ false → IsWithoutInputOutput is
computes is e = record { none = e }
