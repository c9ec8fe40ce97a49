-- What a list of instructions is made of: how many they are, which virtual registers they name, and which numbers
-- stand in them.
use Rattle.std.specs.Prelude.{◌≡◌, ℕ, ◌-◌, ◌^◌, ◌≤◌, Bool, true, false, ◌&&◌, ◌||◌, nat_lt, nat_le, List, [], ◌∷◌}
use Rattle.std.specs.Prelude.{length}
use Rattle.sb_base.specs.Endings.{code_of}
use Rattle.flat_code.specs.declared.instruction.RightOperand.{RightOperand}
use Rattle.flat_code.specs.declared.instruction.RightOperand.TheVariants.{Register, Number}
use Rattle.flat_code.specs.declared.instruction.FlatInstruction.{FlatInstruction}
use Rattle.flat_code.specs.declared.instruction.FlatInstruction.TheVariants.{Constant, Move, Operate, Operate32}
use Rattle.flat_code.specs.declared.instruction.FlatInstruction.TheVariants.{Load, Store, Branch, JumpForward}
use Rattle.flat_code.specs.declared.instruction.FlatInstruction.TheVariants.{JumpBack, Turn, Call, CallAddress}
use Rattle.flat_code.specs.declared.instruction.FlatInstruction.TheVariants.{Return, Get, Put, Exit, End, Charged}

-- a number that `lui` with `addi` makes, sign-extended from 32 bits (RISC-V unprivileged ISA manual, 2.4.1)
abbrev pub is_short : ℕ → Bool
is_short n = nat_lt n (2 ^ 31 - 2 ^ 11) || (nat_le (2 ^ 64 - 2 ^ 31) n && nat_lt n (2 ^ 64))

-- an offset that is no negative immediate of a load or store (2.6)
abbrev pub is_offset : ℕ → Bool
is_offset n = nat_lt n (2 ^ 11)

abbrev pub has_right : (registers : ℕ) → RightOperand → Bool
has_right m (Register z) = nat_lt z m
has_right m (Number n) = is_short n

-- whether an instruction is no call and no return, names registers below a number alone, and has numbers that machine
-- instructions hold
abbrev pub is_shaped : (registers : ℕ) → FlatInstruction → Bool
is_shaped m (Constant x n) = nat_lt x m && is_short n
is_shaped m (Move x y) = nat_lt x m && nat_lt y m
is_shaped m (Operate op x y z) = nat_lt x m && (nat_lt y m && has_right m z)
is_shaped m (Operate32 op x y z) = nat_lt x m && (nat_lt y m && has_right m z)
is_shaped m (Load op x y offset) = nat_lt x m && (nat_lt y m && is_offset offset)
is_shaped m (Store op y offset x) = nat_lt y m && (nat_lt x m && is_offset offset)
is_shaped m (Branch op y z past) = nat_lt y m && has_right m z
is_shaped m (JumpForward past) = true
is_shaped m (JumpBack back) = true
is_shaped m Turn = true
is_shaped m (Call g first x) = false
is_shaped m (CallAddress y first n x r) = false
is_shaped m (Return y) = false
is_shaped m (Get x) = nat_lt x m
is_shaped m (Put x) = nat_lt x m
is_shaped m (Exit x) = nat_lt x m
is_shaped m (End e) = nat_lt (code_of e) 256
is_shaped m (Charged x) = nat_lt x m

abbrev pub are_shaped : (registers : ℕ) → List FlatInstruction → Bool
are_shaped m [] = true
are_shaped m (i ∷ is) = is_shaped m i && are_shaped m is

-- so many instructions at most, over registers below a number
pub record HasShape (instructions : List FlatInstruction) (most registers : ℕ) : Type 0 where
  pub few : length instructions ≤ most
  pub each : are_shaped registers instructions ≡ true
