-- The words of RV64IM: one table, `word_of`, to be held beside the RISC-V unprivileged ISA manual, chapter
-- "RV32/64G Instruction Set Listings". Fields are numbers, so `n * 2 ^ k` puts a field from bit k on.
use Rattle.std.specs.Prelude.{◌≡◌, ℕ, ◌+◌, ◌-◌, ◌*◌, ◌/◌, ◌%◌, ◌^◌, ◌<◌}
use Rattle.rv_isa.specs.declared.instruction.BranchOp.{BranchOp}
use Rattle.rv_isa.specs.declared.instruction.BranchOp.TheVariants.{Beq, Bne, Blt, Bge, Bltu, Bgeu}
use Rattle.rv_isa.specs.declared.instruction.LoadOp.{LoadOp}
use Rattle.rv_isa.specs.declared.instruction.LoadOp.TheVariants.{Lb, Lh, Lw, Ld, Lbu, Lhu, Lwu}
use Rattle.rv_isa.specs.declared.instruction.StoreOp.{StoreOp}
use Rattle.rv_isa.specs.declared.instruction.StoreOp.TheVariants.{Sb, Sh, Sw, Sd}
use Rattle.rv_isa.specs.declared.instruction.ImmOp.{ImmOp}
use Rattle.rv_isa.specs.declared.instruction.ImmOp.TheVariants.{Addi, Slti, Sltiu, Xori, Ori, Andi}
use Rattle.rv_isa.specs.declared.instruction.ShiftOp.{ShiftOp}
use Rattle.rv_isa.specs.declared.instruction.ShiftOp.TheVariants.{Slli, Srli, Srai}
use Rattle.rv_isa.specs.declared.instruction.ShiftOp32.{ShiftOp32}
use Rattle.rv_isa.specs.declared.instruction.ShiftOp32.TheVariants.{Slliw, Srliw, Sraiw}
use Rattle.rv_isa.specs.declared.instruction.RegOp.{RegOp}
use Rattle.rv_isa.specs.declared.instruction.RegOp.TheVariants.{Add, Sub, Sll, Slt, Sltu, Xor, Srl, Sra, Or, And, Mul}
use Rattle.rv_isa.specs.declared.instruction.RegOp.TheVariants.{Mulh, Mulhsu, Mulhu, Div, Divu, Rem, Remu}
use Rattle.rv_isa.specs.declared.instruction.RegOp32.{RegOp32}
use Rattle.rv_isa.specs.declared.instruction.RegOp32.TheVariants.{Addw, Subw, Sllw, Srlw, Sraw, Mulw, Divw, Divuw}
use Rattle.rv_isa.specs.declared.instruction.RegOp32.TheVariants.{Remw, Remuw}
use Rattle.rv_isa.specs.declared.instruction.Instr.{Instr}
use Rattle.rv_isa.specs.declared.instruction.Instr.TheVariants.{Lui, Auipc, Jal, Jalr, Branch, Load, Store, OpImm}
use Rattle.rv_isa.specs.declared.instruction.Instr.TheVariants.{ShiftImm, Addiw, ShiftImm32, Op, Op32, Fence, Ecall}
use Rattle.rv_isa.specs.declared.instruction.Instr.TheVariants.{Ebreak}

-- funct3 of BRANCH
unfoldable pub branch_code : BranchOp → ℕ
branch_code Beq = 0b000
branch_code Bne = 0b001
branch_code Blt = 0b100
branch_code Bge = 0b101
branch_code Bltu = 0b110
branch_code Bgeu = 0b111

-- funct3 of LOAD
unfoldable pub load_code : LoadOp → ℕ
load_code Lb = 0b000
load_code Lh = 0b001
load_code Lw = 0b010
load_code Ld = 0b011
load_code Lbu = 0b100
load_code Lhu = 0b101
load_code Lwu = 0b110

-- funct3 of STORE
unfoldable pub store_code : StoreOp → ℕ
store_code Sb = 0b000
store_code Sh = 0b001
store_code Sw = 0b010
store_code Sd = 0b011

-- funct3 of OP-IMM
unfoldable pub imm_code : ImmOp → ℕ
imm_code Addi = 0b000
imm_code Slti = 0b010
imm_code Sltiu = 0b011
imm_code Xori = 0b100
imm_code Ori = 0b110
imm_code Andi = 0b111

-- the upper 6 bits and funct3 of the shifts of OP-IMM
unfoldable pub shift_code : ShiftOp → ℕ × ℕ
shift_code Slli = (0b000000, 0b001)
shift_code Srli = (0b000000, 0b101)
shift_code Srai = (0b010000, 0b101)

-- funct7 and funct3 of the shifts of OP-IMM-32
unfoldable pub shift32_code : ShiftOp32 → ℕ × ℕ
shift32_code Slliw = (0b0000000, 0b001)
shift32_code Srliw = (0b0000000, 0b101)
shift32_code Sraiw = (0b0100000, 0b101)

-- funct7 and funct3 of OP
unfoldable pub reg_code : RegOp → ℕ × ℕ
reg_code Add = (0b0000000, 0b000)
reg_code Sub = (0b0100000, 0b000)
reg_code Sll = (0b0000000, 0b001)
reg_code Slt = (0b0000000, 0b010)
reg_code Sltu = (0b0000000, 0b011)
reg_code Xor = (0b0000000, 0b100)
reg_code Srl = (0b0000000, 0b101)
reg_code Sra = (0b0100000, 0b101)
reg_code Or = (0b0000000, 0b110)
reg_code And = (0b0000000, 0b111)
reg_code Mul = (0b0000001, 0b000)
reg_code Mulh = (0b0000001, 0b001)
reg_code Mulhsu = (0b0000001, 0b010)
reg_code Mulhu = (0b0000001, 0b011)
reg_code Div = (0b0000001, 0b100)
reg_code Divu = (0b0000001, 0b101)
reg_code Rem = (0b0000001, 0b110)
reg_code Remu = (0b0000001, 0b111)

-- funct7 and funct3 of OP-32
unfoldable pub reg32_code : RegOp32 → ℕ × ℕ
reg32_code Addw = (0b0000000, 0b000)
reg32_code Subw = (0b0100000, 0b000)
reg32_code Sllw = (0b0000000, 0b001)
reg32_code Srlw = (0b0000000, 0b101)
reg32_code Sraw = (0b0100000, 0b101)
reg32_code Mulw = (0b0000001, 0b000)
reg32_code Divw = (0b0000001, 0b100)
reg32_code Divuw = (0b0000001, 0b101)
reg32_code Remw = (0b0000001, 0b110)
reg32_code Remuw = (0b0000001, 0b111)

-- the manual's n[high:low]
abbrev pub bits : ℕ → ℕ → ℕ → ℕ
bits n high low = n / 2 ^ low % 2 ^ (high + 1 - low)

-- the six formats, section "Base Instruction Formats" and its "Immediate Encoding Variants"
abbrev pub r_word : (opcode funct7 funct3 rd rs1 rs2 : ℕ) → ℕ
r_word opcode funct7 funct3 rd rs1 rs2 =
    funct7 * 2 ^ 25 + rs2 * 2 ^ 20 + rs1 * 2 ^ 15 + funct3 * 2 ^ 12 + rd * 2 ^ 7 + opcode

abbrev pub i_word : (opcode funct3 rd rs1 imm : ℕ) → ℕ
i_word opcode funct3 rd rs1 imm = imm * 2 ^ 20 + rs1 * 2 ^ 15 + funct3 * 2 ^ 12 + rd * 2 ^ 7 + opcode

abbrev pub s_word : (opcode funct3 rs1 rs2 imm : ℕ) → ℕ
s_word opcode funct3 rs1 rs2 imm =
    bits imm 11 5 * 2 ^ 25 + rs2 * 2 ^ 20 + rs1 * 2 ^ 15 + funct3 * 2 ^ 12 + bits imm 4 0 * 2 ^ 7 + opcode

abbrev pub b_word : (opcode funct3 rs1 rs2 imm : ℕ) → ℕ
b_word opcode funct3 rs1 rs2 imm =
    bits imm 12 12 * 2 ^ 31 + bits imm 10 5 * 2 ^ 25 + rs2 * 2 ^ 20 + rs1 * 2 ^ 15 + funct3 * 2 ^ 12
    + bits imm 4 1 * 2 ^ 8 + bits imm 11 11 * 2 ^ 7 + opcode

abbrev pub u_word : (opcode rd imm : ℕ) → ℕ
u_word opcode rd imm = imm * 2 ^ 12 + rd * 2 ^ 7 + opcode

abbrev pub j_word : (opcode rd imm : ℕ) → ℕ
j_word opcode rd imm =
    bits imm 20 20 * 2 ^ 31 + bits imm 10 1 * 2 ^ 21 + bits imm 11 11 * 2 ^ 20 + bits imm 19 12 * 2 ^ 12
    + rd * 2 ^ 7 + opcode

-- the word of each instruction
unfoldable pub word_of : Instr → ℕ
word_of (Lui rd imm) = u_word 0b0110111 rd imm
word_of (Auipc rd imm) = u_word 0b0010111 rd imm
word_of (Jal rd imm) = j_word 0b1101111 rd imm
word_of (Jalr rd rs1 imm) = i_word 0b1100111 0b000 rd rs1 imm
word_of (Branch op rs1 rs2 imm) = b_word 0b1100011 (branch_code op) rs1 rs2 imm
word_of (Load op rd rs1 imm) = i_word 0b0000011 (load_code op) rd rs1 imm
word_of (Store op rs1 rs2 imm) = s_word 0b0100011 (store_code op) rs1 rs2 imm
word_of (OpImm op rd rs1 imm) = i_word 0b0010011 (imm_code op) rd rs1 imm
word_of (ShiftImm op rd rs1 shamt) =
    i_word 0b0010011 (shift_code op).1 rd rs1 ((shift_code op).0 * 2 ^ 6 + shamt)
word_of (Addiw rd rs1 imm) = i_word 0b0011011 0b000 rd rs1 imm
word_of (ShiftImm32 op rd rs1 shamt) =
    r_word 0b0011011 (shift32_code op).0 (shift32_code op).1 rd rs1 shamt
word_of (Op op rd rs1 rs2) = r_word 0b0110011 (reg_code op).0 (reg_code op).1 rd rs1 rs2
word_of (Op32 op rd rs1 rs2) = r_word 0b0111011 (reg32_code op).0 (reg32_code op).1 rd rs1 rs2
word_of (Fence rd rs1 fields) = i_word 0b0001111 0b000 rd rs1 fields
word_of Ecall = 0x00000073
word_of Ebreak = 0x00100073

-- what fits a register's field
abbrev pub IsReg : ℕ → Type 0
IsReg r = r < 2 ^ 5

-- that each operand fits its field: so it is at every value of the Rust type, whose operands keep these
-- ranges, while an instruction in a clause has plain numbers
abbrev pub IsOfTable : Instr → Type 0
IsOfTable (Lui rd imm) = IsReg rd × (imm < 2 ^ 20)
IsOfTable (Auipc rd imm) = IsReg rd × (imm < 2 ^ 20)
IsOfTable (Jal rd imm) = IsReg rd × (imm < 2 ^ 21) × (imm % 2 ≡ 0)
IsOfTable (Jalr rd rs1 imm) = IsReg rd × IsReg rs1 × (imm < 2 ^ 12)
IsOfTable (Branch op rs1 rs2 imm) = IsReg rs1 × IsReg rs2 × (imm < 2 ^ 13) × (imm % 2 ≡ 0)
IsOfTable (Load op rd rs1 imm) = IsReg rd × IsReg rs1 × (imm < 2 ^ 12)
IsOfTable (Store op rs1 rs2 imm) = IsReg rs1 × IsReg rs2 × (imm < 2 ^ 12)
IsOfTable (OpImm op rd rs1 imm) = IsReg rd × IsReg rs1 × (imm < 2 ^ 12)
IsOfTable (ShiftImm op rd rs1 shamt) = IsReg rd × IsReg rs1 × (shamt < 2 ^ 6)
IsOfTable (Addiw rd rs1 imm) = IsReg rd × IsReg rs1 × (imm < 2 ^ 12)
IsOfTable (ShiftImm32 op rd rs1 shamt) = IsReg rd × IsReg rs1 × (shamt < 2 ^ 5)
IsOfTable (Op op rd rs1 rs2) = IsReg rd × IsReg rs1 × IsReg rs2
IsOfTable (Op32 op rd rs1 rs2) = IsReg rd × IsReg rs1 × IsReg rs2
IsOfTable (Fence rd rs1 fields) = IsReg rd × IsReg rs1 × (fields < 2 ^ 12)
IsOfTable Ecall = Unit {0}
IsOfTable Ebreak = Unit {0}
