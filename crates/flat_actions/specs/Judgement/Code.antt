-- The instructions of the two tests of an access, and of the judgement, which is both.
use Rattle.std.specs.Prelude.{ℕ, List, [], ◌∷◌, ◌++◌}
use Rattle.sb_base.specs.declared.ending.Ending.TheVariants.{Spatial, Temporal}
use Rattle.rv_isa.specs.declared.instruction.BranchOp.TheVariants.{Beq, Bgeu}
use Rattle.rv_isa.specs.declared.instruction.RegOp.TheVariants.{Sub}
use Rattle.rv_isa.specs.declared.instruction.LoadOp.TheVariants.{Ld}
use Rattle.flat_code.specs.declared.instruction.RightOperand.{RightOperand}
use Rattle.flat_code.specs.declared.instruction.RightOperand.TheVariants.{Register}
use Rattle.flat_code.specs.declared.instruction.FlatInstruction.{FlatInstruction}
use Rattle.flat_code.specs.declared.instruction.FlatInstruction.TheVariants.{Operate, Load, Branch, End}
use Rattle.flat_code.specs.declared.registers.Held.{Held}

-- the bytes from the address to the bound are counted without a sum that could wrap
abbrev pub spatial_code : Held → (size : RightOperand) → (line scratch : ℕ) → List FlatInstruction
spatial_code h size line t =
    Branch Bgeu h.value (Register h.tag.base) 1
    ∷ End (Spatial line)
    ∷ Branch Bgeu h.tag.bound (Register h.value) 1
    ∷ End (Spatial line)
    ∷ Operate Sub t h.tag.bound (Register h.value)
    ∷ Branch Bgeu t size 1
    ∷ End (Spatial line)
    ∷ []

-- the lock word holds the key just while the object lives
abbrev pub temporal_code : Held → (line scratch : ℕ) → List FlatInstruction
temporal_code h line t =
    Load Ld t h.tag.lock 0 ∷ Branch Beq t (Register h.tag.key) 1 ∷ End (Temporal line) ∷ []

-- the bounds are tested first, then the key of the lock word
abbrev pub judge_code : Held → (size line scratch : ℕ) → List FlatInstruction
judge_code h n line t = spatial_code h (Register n) line t ++ temporal_code h line t
