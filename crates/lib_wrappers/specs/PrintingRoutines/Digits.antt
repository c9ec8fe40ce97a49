-- The digits of a number put out in flat code, from the highest on.
use Rattle.std.specs.Prelude.{◌≡◌, ℕ, ◌+◌, ◌*◌, ◌%◌, ◌^◌, false, List, [], ◌∷◌, ◌++◌, length}
use Rattle.std.specs.Fmt.{digits}
use Rattle.addr_map.specs.Places.{MapSizes}
use Rattle.rv_isa.specs.declared.instruction.BranchOp.TheVariants.{Beq, Bltu}
use Rattle.rv_isa.specs.declared.instruction.RegOp.TheVariants.{Add, Sub, Mul, Divu, Remu, Sltu}
use Rattle.flat_code.specs.declared.instruction.RightOperand.TheVariants.{Register, Number}
use Rattle.flat_code.specs.declared.instruction.FlatInstruction.{FlatInstruction}
use Rattle.flat_code.specs.declared.instruction.FlatInstruction.TheVariants.{Constant, Move, Operate, Put}
use Rattle.flat_code.specs.State.{State}
use Rattle.flat_code.specs.Routines.Registers.{OthersStay}
use Rattle.flat_code.specs.Routines.Routine.{until_code}
use Rattle.flat_actions.specs.Ranges.{DoesInRuntime}

-- just these bytes were put out, and so many more counted
pub record HasPrinted (bytes : List ℕ) (count scratch : ℕ) (before after : State) : Type 0 where
  pub output : after.output ≡ before.output ++ bytes
  pub counted : after.values count ≡ (before.values count + length bytes) % 2 ^ 64
  pub memory : after.memory ≡ before.memory
  pub input : after.input ≡ before.input
  pub taken : after.taken ≡ before.taken
  pub accesses : after.accesses ≡ before.accesses
  pub turns : after.turns ≡ before.turns
  pub others : OthersStay (count ∷ []) scratch before after

-- within 4 steps and 15 for each digit of the number in a register
abbrev pub IsDigitsRoutine : MapSizes → (base value count scratch : ℕ) → List FlatInstruction → Type 0
IsDigitsRoutine map base value count t r =
    (n : ℕ)
    → DoesInRuntime map r (λ s. s.values value ≡ n) (4 + 15 * length (digits base false n))
    (HasPrinted (digits base false n) count t)

-- the highest power of the base that does not exceed the number
abbrev pub seek_power : (base value power quotient : ℕ) → List FlatInstruction
seek_power base v p q = Operate Mul p p (Number base) ∷ Operate Divu q v (Register p) ∷ []

-- the digit that stands for the power: 48 and more, or behind 9 as many as from 97 on
abbrev pub put_digit : (base value count power quotient less : ℕ) → List FlatInstruction
put_digit base v c p q z =
    Operate Divu q v (Register p)
    ∷ Operate Remu q q (Number base)
    ∷ Operate Sltu z q (Number 10)
    ∷ Operate Mul z z (Number 39)
    ∷ Operate Add q q (Number 87)
    ∷ Operate Sub q q (Register z)
    ∷ Put q
    ∷ Operate Add c c (Number 1)
    ∷ Operate Divu p p (Number base)
    ∷ []

abbrev pub digits_code : (base value count power quotient less : ℕ) → List FlatInstruction
digits_code base v c p q z =
    (Constant p 1 ∷ Move q v ∷ [])
    ++ (until_code Bltu q (Number base) (seek_power base v p q)
    ++ until_code Beq p (Number 0) (put_digit base v c p q z))
