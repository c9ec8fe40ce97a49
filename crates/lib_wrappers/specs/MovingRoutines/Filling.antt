-- The instructions that fill a range with one byte.
use Rattle.std.specs.Prelude.{ℕ, List, [], ◌∷◌, ◌++◌}
use Rattle.rv_isa.specs.declared.instruction.BranchOp.TheVariants.{Beq}
use Rattle.rv_isa.specs.declared.instruction.RegOp.TheVariants.{Add}
use Rattle.rv_isa.specs.declared.instruction.StoreOp.TheVariants.{Sb}
use Rattle.flat_code.specs.declared.instruction.RightOperand.TheVariants.{Register, Number}
use Rattle.flat_code.specs.declared.instruction.FlatInstruction.{FlatInstruction}
use Rattle.flat_code.specs.declared.instruction.FlatInstruction.TheVariants.{Move, Operate, Store}
use Rattle.flat_code.specs.Routines.Routine.{until_code}

-- the first address, and the one behind the last
abbrev pub fill_places : (to bytes cursor end : ℕ) → List FlatInstruction
fill_places to bytes u e = Move u to ∷ Operate Add e to (Register bytes) ∷ []

abbrev pub fill_body : (byte cursor : ℕ) → List FlatInstruction
fill_body byte u = Store Sb u 0 byte ∷ Operate Add u u (Number 1) ∷ []

abbrev pub fill_code : (to byte bytes cursor end : ℕ) → List FlatInstruction
fill_code to byte bytes u e = fill_places to bytes u e ++ until_code Beq u (Register e) (fill_body byte u)
