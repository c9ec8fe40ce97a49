-- An instruction is its name and the numbers in its fields, in the order in which a line has them.
use Rattle.std.specs.Prelude.{◌≡◌, ℕ, ◌*◌, ◌%◌, ◌^◌, ◌<◌, ◌≤◌}
use Rattle.rv_isa.specs.declared.instruction.Instr.{Instr}
use Rattle.rv_isa.specs.declared.instruction.Instr.TheVariants.{Lui, Auipc, Jal, Jalr, Branch, Load, Store, OpImm}
use Rattle.rv_isa.specs.declared.instruction.Instr.TheVariants.{ShiftImm, Addiw, ShiftImm32, Op, Op32, Fence, Ecall}
use Rattle.rv_isa.specs.declared.instruction.Instr.TheVariants.{Ebreak}
use Rattle.rv_listing.specs.declared.mnemonic.Mnemonic.{Mnemonic}
use Rattle.rv_listing.specs.declared.mnemonic.Mnemonic.TheVariants as mnemonic
use Rattle.rv_listing.specs.declared.operands.Field.{Field}
use Rattle.rv_listing.specs.declared.operands.Field.TheVariants.{Register, Unsigned, Signed, Offset}
use Rattle.rv_listing.specs.declared.operands.Shape.{Shape}
use Rattle.rv_listing.specs.declared.operands.Shape.TheVariants.{Empty, Pair, Triple, Based}
use Rattle.rv_listing.specs.declared.operands.Operands.{Operands}

abbrev pub operands : (first second third : ℕ) → Operands
operands a b c = record { first = a; second = b; third = c }

-- a field of an instruction: none has more than 21 bits
abbrev pub IsField : Field → Type 0
IsField Register = Unit {0}
IsField (Unsigned count) = count ≤ 2 ^ 20
IsField (Signed half) = (1 ≤ half) × (half ≤ 2 ^ 20)
IsField (Offset half) = (1 ≤ half) × (half ≤ 2 ^ 20)

abbrev pub IsShape : Shape → Type 0
IsShape Empty = Unit {0}
IsShape (Pair f) = IsField f
IsShape (Triple f) = IsField f
IsShape Based = Unit {0}

-- that a number fits its field
abbrev pub Fits : Field → ℕ → Type 0
Fits Register n = n < 2 ^ 5
Fits (Unsigned count) n = n < count
Fits (Signed half) n = n < 2 * half
Fits (Offset half) n = (n < 2 * half) × (n % 2 ≡ 0)

abbrev pub FitShape : Shape → Operands → Type 0
FitShape Empty o = Unit {0}
FitShape (Pair f) o = Fits Register o.first × Fits f o.second
FitShape (Triple f) o = Fits Register o.first × Fits Register o.second × Fits f o.third
FitShape Based o = Fits Register o.first × Fits (Signed (2 ^ 11)) o.second × Fits Register o.third

unfoldable pub mnemonic_of : Instr → Mnemonic
mnemonic_of (Lui rd imm) = mnemonic.Lui
mnemonic_of (Auipc rd imm) = mnemonic.Auipc
mnemonic_of (Jal rd imm) = mnemonic.Jal
mnemonic_of (Jalr rd rs1 imm) = mnemonic.Jalr
mnemonic_of (Branch op rs1 rs2 imm) = mnemonic.Branch op
mnemonic_of (Load op rd rs1 imm) = mnemonic.Load op
mnemonic_of (Store op rs1 rs2 imm) = mnemonic.Store op
mnemonic_of (OpImm op rd rs1 imm) = mnemonic.OpImm op
mnemonic_of (ShiftImm op rd rs1 shamt) = mnemonic.ShiftImm op
mnemonic_of (Addiw rd rs1 imm) = mnemonic.Addiw
mnemonic_of (ShiftImm32 op rd rs1 shamt) = mnemonic.ShiftImm32 op
mnemonic_of (Op op rd rs1 rs2) = mnemonic.Op op
mnemonic_of (Op32 op rd rs1 rs2) = mnemonic.Op32 op
mnemonic_of (Fence rd rs1 fields) = mnemonic.Fence
mnemonic_of Ecall = mnemonic.Ecall
mnemonic_of Ebreak = mnemonic.Ebreak

-- a store has the stored register first, and a load and JALR the base last
unfoldable pub operands_of : Instr → Operands
operands_of (Lui rd imm) = operands rd imm 0
operands_of (Auipc rd imm) = operands rd imm 0
operands_of (Jal rd imm) = operands rd imm 0
operands_of (Jalr rd rs1 imm) = operands rd imm rs1
operands_of (Branch op rs1 rs2 imm) = operands rs1 rs2 imm
operands_of (Load op rd rs1 imm) = operands rd imm rs1
operands_of (Store op rs1 rs2 imm) = operands rs2 imm rs1
operands_of (OpImm op rd rs1 imm) = operands rd rs1 imm
operands_of (ShiftImm op rd rs1 shamt) = operands rd rs1 shamt
operands_of (Addiw rd rs1 imm) = operands rd rs1 imm
operands_of (ShiftImm32 op rd rs1 shamt) = operands rd rs1 shamt
operands_of (Op op rd rs1 rs2) = operands rd rs1 rs2
operands_of (Op32 op rd rs1 rs2) = operands rd rs1 rs2
operands_of (Fence rd rs1 fields) = operands rd rs1 fields
operands_of Ecall = operands 0 0 0
operands_of Ebreak = operands 0 0 0

-- and backwards
unfoldable pub instruction_of : Mnemonic → Operands → Instr
instruction_of mnemonic.Lui o = Lui o.first o.second
instruction_of mnemonic.Auipc o = Auipc o.first o.second
instruction_of mnemonic.Jal o = Jal o.first o.second
instruction_of mnemonic.Jalr o = Jalr o.first o.third o.second
instruction_of (mnemonic.Branch op) o = Branch op o.first o.second o.third
instruction_of (mnemonic.Load op) o = Load op o.first o.third o.second
instruction_of (mnemonic.Store op) o = Store op o.third o.first o.second
instruction_of (mnemonic.OpImm op) o = OpImm op o.first o.second o.third
instruction_of (mnemonic.ShiftImm op) o = ShiftImm op o.first o.second o.third
instruction_of mnemonic.Addiw o = Addiw o.first o.second o.third
instruction_of (mnemonic.ShiftImm32 op) o = ShiftImm32 op o.first o.second o.third
instruction_of (mnemonic.Op op) o = Op op o.first o.second o.third
instruction_of (mnemonic.Op32 op) o = Op32 op o.first o.second o.third
instruction_of mnemonic.Fence o = Fence o.first o.second o.third
instruction_of mnemonic.Ecall o = Ecall
instruction_of mnemonic.Ebreak o = Ebreak
