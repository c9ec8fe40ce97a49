-- Lists of which one is run, as a register tells.
use Rattle.std.specs.Prelude.{ℕ, ◌+◌, List, ◌∷◌, ◌++◌, length}
use Rattle.rv_isa.specs.declared.instruction.BranchOp.TheVariants.{Bne}
use Rattle.flat_code.specs.declared.instruction.RightOperand.TheVariants.{Number}
use Rattle.flat_code.specs.declared.instruction.FlatInstruction.{FlatInstruction}
use Rattle.flat_code.specs.declared.instruction.FlatInstruction.TheVariants.{Branch, JumpForward}

-- the first where it is 0, and else the second
abbrev pub either_code : (register : ℕ) → (first second : List FlatInstruction) → List FlatInstruction
either_code r xs ys = Branch Bne r (Number 0) (length xs + 1) ∷ (xs ++ (JumpForward (length ys) ∷ ys))
