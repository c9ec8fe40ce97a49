-- Lists of instructions of which actions are made.
use Rattle.std.specs.Prelude.{ℕ, List, [], ◌∷◌, ◌++◌}
use Rattle.rv_isa.specs.declared.instruction.BranchOp.TheVariants.{Beq}
use Rattle.flat_code.specs.declared.instruction.RightOperand.TheVariants.{Number}
use Rattle.flat_code.specs.declared.instruction.FlatInstruction.{FlatInstruction}
use Rattle.flat_code.specs.declared.instruction.FlatInstruction.TheVariants.{Move}
use Rattle.flat_code.specs.declared.registers.Held.{Held}
use Rattle.flat_code.specs.Routines.Routine.{unless_code}

-- a pointer is given with its tag
abbrev pub give_code : (from into : Held) → List FlatInstruction
give_code a b =
    Move b.value a.value
    ∷ Move b.tag.base a.tag.base
    ∷ Move b.tag.bound a.tag.bound
    ∷ Move b.tag.key a.tag.key
    ∷ Move b.tag.lock a.tag.lock
    ∷ []

-- where there are no bytes nothing is done; a pointer is given in any case
abbrev pub guarded_code : (size : ℕ) → (from into : Held) → (act : List FlatInstruction) → List FlatInstruction
guarded_code n a b act = unless_code Beq n (Number 0) act ++ give_code a b
