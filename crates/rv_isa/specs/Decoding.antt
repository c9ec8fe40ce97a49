-- The table of RV64IM read backwards: the instruction of a word. A reader need not compare it with the manual,
-- since `decode` ties it to `word_of` both ways: what it gives has that word, and what has that word is given.
use Rattle.std.specs.Prelude.{ℕ, ◌+◌, ◌*◌, ◌^◌, ◌==◌, if◌then◌else◌, Option, Some, None, option_map}
use Rattle.rv_isa.specs.declared.instruction.BranchOp.{BranchOp}
use Rattle.rv_isa.specs.declared.instruction.BranchOp.TheVariants.{Beq, Bne, Blt, Bge, Bltu, Bgeu}
use Rattle.rv_isa.specs.declared.instruction.LoadOp.{LoadOp}
use Rattle.rv_isa.specs.declared.instruction.LoadOp.TheVariants.{Lb, Lh, Lw, Ld, Lbu, Lhu, Lwu}
use Rattle.rv_isa.specs.declared.instruction.StoreOp.{StoreOp}
use Rattle.rv_isa.specs.declared.instruction.StoreOp.TheVariants.{Sb, Sh, Sw, Sd}
use Rattle.rv_isa.specs.declared.instruction.ImmOp.{ImmOp}
use Rattle.rv_isa.specs.declared.instruction.ImmOp.TheVariants.{Addi, Slti, Sltiu, Xori, Ori, Andi}
use Rattle.rv_isa.specs.declared.instruction.ShiftOp.{ShiftOp}
use Rattle.rv_isa.specs.declared.instruction.ShiftOp.TheVariants.{Slli, Srli, Srai}
use Rattle.rv_isa.specs.declared.instruction.ShiftOp32.{ShiftOp32}
use Rattle.rv_isa.specs.declared.instruction.ShiftOp32.TheVariants.{Slliw, Srliw, Sraiw}
use Rattle.rv_isa.specs.declared.instruction.RegOp.{RegOp}
use Rattle.rv_isa.specs.declared.instruction.RegOp.TheVariants.{Add, Sub, Sll, Slt, Sltu, Xor, Srl, Sra, Or, And, Mul}
use Rattle.rv_isa.specs.declared.instruction.RegOp.TheVariants.{Mulh, Mulhsu, Mulhu, Div, Divu, Rem, Remu}
use Rattle.rv_isa.specs.declared.instruction.RegOp32.{RegOp32}
use Rattle.rv_isa.specs.declared.instruction.RegOp32.TheVariants.{Addw, Subw, Sllw, Srlw, Sraw, Mulw, Divw, Divuw}
use Rattle.rv_isa.specs.declared.instruction.RegOp32.TheVariants.{Remw, Remuw}
use Rattle.rv_isa.specs.declared.instruction.Instr.{Instr}
use Rattle.rv_isa.specs.declared.instruction.Instr.TheVariants.{Lui, Auipc, Jal, Jalr, Branch, Load, Store, OpImm}
use Rattle.rv_isa.specs.declared.instruction.Instr.TheVariants.{ShiftImm, Addiw, ShiftImm32, Op, Op32, Fence, Ecall}
use Rattle.rv_isa.specs.declared.instruction.Instr.TheVariants.{Ebreak}
use Rattle.rv_isa.specs.Table.{bits}

unfoldable pub branch_at : ℕ → Option BranchOp
branch_at funct3 =
    if funct3 == 0b000 then Some Beq else (
    if funct3 == 0b001 then Some Bne else (
    if funct3 == 0b100 then Some Blt else (
    if funct3 == 0b101 then Some Bge else (
    if funct3 == 0b110 then Some Bltu else (
    if funct3 == 0b111 then Some Bgeu else (
    None))))))

unfoldable pub load_at : ℕ → Option LoadOp
load_at funct3 =
    if funct3 == 0b000 then Some Lb else (
    if funct3 == 0b001 then Some Lh else (
    if funct3 == 0b010 then Some Lw else (
    if funct3 == 0b011 then Some Ld else (
    if funct3 == 0b100 then Some Lbu else (
    if funct3 == 0b101 then Some Lhu else (
    if funct3 == 0b110 then Some Lwu else (
    None)))))))

unfoldable pub store_at : ℕ → Option StoreOp
store_at funct3 =
    if funct3 == 0b000 then Some Sb else (
    if funct3 == 0b001 then Some Sh else (
    if funct3 == 0b010 then Some Sw else (
    if funct3 == 0b011 then Some Sd else (
    None))))

unfoldable pub imm_at : ℕ → Option ImmOp
imm_at funct3 =
    if funct3 == 0b000 then Some Addi else (
    if funct3 == 0b010 then Some Slti else (
    if funct3 == 0b011 then Some Sltiu else (
    if funct3 == 0b100 then Some Xori else (
    if funct3 == 0b110 then Some Ori else (
    if funct3 == 0b111 then Some Andi else (
    None))))))

unfoldable pub shift_at : ℕ → ℕ → Option ShiftOp
shift_at funct6 funct3 =
    if funct6 == 0b000000 then (
    if funct3 == 0b001 then Some Slli else (
    if funct3 == 0b101 then Some Srli else (
    None))
    ) else (
    if funct6 == 0b010000 then (
    if funct3 == 0b101 then Some Srai else (
    None)
    ) else (
    None))

unfoldable pub shift32_at : ℕ → ℕ → Option ShiftOp32
shift32_at funct7 funct3 =
    if funct7 == 0b0000000 then (
    if funct3 == 0b001 then Some Slliw else (
    if funct3 == 0b101 then Some Srliw else (
    None))
    ) else (
    if funct7 == 0b0100000 then (
    if funct3 == 0b101 then Some Sraiw else (
    None)
    ) else (
    None))

unfoldable pub reg_at : ℕ → ℕ → Option RegOp
reg_at funct7 funct3 =
    if funct7 == 0b0000000 then (
    if funct3 == 0b000 then Some Add else (
    if funct3 == 0b001 then Some Sll else (
    if funct3 == 0b010 then Some Slt else (
    if funct3 == 0b011 then Some Sltu else (
    if funct3 == 0b100 then Some Xor else (
    if funct3 == 0b101 then Some Srl else (
    if funct3 == 0b110 then Some Or else (
    if funct3 == 0b111 then Some And else (
    None))))))))
    ) else (
    if funct7 == 0b0100000 then (
    if funct3 == 0b000 then Some Sub else (
    if funct3 == 0b101 then Some Sra else (
    None))
    ) else (
    if funct7 == 0b0000001 then (
    if funct3 == 0b000 then Some Mul else (
    if funct3 == 0b001 then Some Mulh else (
    if funct3 == 0b010 then Some Mulhsu else (
    if funct3 == 0b011 then Some Mulhu else (
    if funct3 == 0b100 then Some Div else (
    if funct3 == 0b101 then Some Divu else (
    if funct3 == 0b110 then Some Rem else (
    if funct3 == 0b111 then Some Remu else (
    None))))))))
    ) else (
    None)))

unfoldable pub reg32_at : ℕ → ℕ → Option RegOp32
reg32_at funct7 funct3 =
    if funct7 == 0b0000000 then (
    if funct3 == 0b000 then Some Addw else (
    if funct3 == 0b001 then Some Sllw else (
    if funct3 == 0b101 then Some Srlw else (
    None)))
    ) else (
    if funct7 == 0b0100000 then (
    if funct3 == 0b000 then Some Subw else (
    if funct3 == 0b101 then Some Sraw else (
    None))
    ) else (
    if funct7 == 0b0000001 then (
    if funct3 == 0b000 then Some Mulw else (
    if funct3 == 0b100 then Some Divw else (
    if funct3 == 0b101 then Some Divuw else (
    if funct3 == 0b110 then Some Remw else (
    if funct3 == 0b111 then Some Remuw else (
    None)))))
    ) else (
    None)))

-- the fields of a word
abbrev pub rd_of : ℕ → ℕ
rd_of w = bits w 11 7

abbrev pub rs1_of : ℕ → ℕ
rs1_of w = bits w 19 15

abbrev pub rs2_of : ℕ → ℕ
rs2_of w = bits w 24 20

abbrev pub funct3_of : ℕ → ℕ
funct3_of w = bits w 14 12

abbrev pub funct7_of : ℕ → ℕ
funct7_of w = bits w 31 25

-- the immediate of each format
abbrev pub i_imm : ℕ → ℕ
i_imm w = bits w 31 20

abbrev pub s_imm : ℕ → ℕ
s_imm w = bits w 31 25 * 2 ^ 5 + bits w 11 7

abbrev pub b_imm : ℕ → ℕ
b_imm w = bits w 31 31 * 2 ^ 12 + bits w 7 7 * 2 ^ 11 + bits w 30 25 * 2 ^ 5 + bits w 11 8 * 2

abbrev pub u_imm : ℕ → ℕ
u_imm w = bits w 31 12

abbrev pub j_imm : ℕ → ℕ
j_imm w = bits w 31 31 * 2 ^ 20 + bits w 19 12 * 2 ^ 12 + bits w 20 20 * 2 ^ 11 + bits w 30 21 * 2

-- the instructions of each opcode
unfoldable pub jalr_of : ℕ → Option Instr
jalr_of w = if funct3_of w == 0b000 then Some (Jalr (rd_of w) (rs1_of w) (i_imm w)) else None

unfoldable pub branch_of : ℕ → Option Instr
branch_of w = option_map (λ op. Branch op (rs1_of w) (rs2_of w) (b_imm w)) (branch_at (funct3_of w))

unfoldable pub load_of : ℕ → Option Instr
load_of w = option_map (λ op. Load op (rd_of w) (rs1_of w) (i_imm w)) (load_at (funct3_of w))

unfoldable pub store_of : ℕ → Option Instr
store_of w = option_map (λ op. Store op (rs1_of w) (rs2_of w) (s_imm w)) (store_at (funct3_of w))

-- OP-IMM: funct3 001 and 101 are its shifts
unfoldable pub shift_imm_of : ℕ → Option Instr
shift_imm_of w =
    option_map (λ op. ShiftImm op (rd_of w) (rs1_of w) (bits w 25 20)) (shift_at (bits w 31 26) (funct3_of w))

unfoldable pub imm_of : ℕ → Option Instr
imm_of w = option_map (λ op. OpImm op (rd_of w) (rs1_of w) (i_imm w)) (imm_at (funct3_of w))

unfoldable pub op_imm_of : ℕ → Option Instr
op_imm_of w =
    if funct3_of w == 0b001 then shift_imm_of w else (
    if funct3_of w == 0b101 then shift_imm_of w else imm_of w)

-- OP-IMM-32: all but funct3 000 are its shifts
unfoldable pub op_imm32_of : ℕ → Option Instr
op_imm32_of w =
    if funct3_of w == 0b000 then Some (Addiw (rd_of w) (rs1_of w) (i_imm w)) else
    option_map (λ op. ShiftImm32 op (rd_of w) (rs1_of w) (rs2_of w)) (shift32_at (funct7_of w) (funct3_of w))

unfoldable pub op_of : ℕ → Option Instr
op_of w = option_map (λ op. Op op (rd_of w) (rs1_of w) (rs2_of w)) (reg_at (funct7_of w) (funct3_of w))

unfoldable pub op32_of : ℕ → Option Instr
op32_of w = option_map (λ op. Op32 op (rd_of w) (rs1_of w) (rs2_of w)) (reg32_at (funct7_of w) (funct3_of w))

unfoldable pub fence_of : ℕ → Option Instr
fence_of w = if funct3_of w == 0b000 then Some (Fence (rd_of w) (rs1_of w) (i_imm w)) else None

unfoldable pub system_of : ℕ → Option Instr
system_of w = if w == 0x00000073 then Some Ecall else (if w == 0x00100073 then Some Ebreak else None)

unfoldable pub by_opcode : ℕ → ℕ → Option Instr
by_opcode opcode w =
    if opcode == 0b0110111 then Some (Lui (rd_of w) (u_imm w)) else (
    if opcode == 0b0010111 then Some (Auipc (rd_of w) (u_imm w)) else (
    if opcode == 0b1101111 then Some (Jal (rd_of w) (j_imm w)) else (
    if opcode == 0b1100111 then jalr_of w else (
    if opcode == 0b1100011 then branch_of w else (
    if opcode == 0b0000011 then load_of w else (
    if opcode == 0b0100011 then store_of w else (
    if opcode == 0b0010011 then op_imm_of w else (
    if opcode == 0b0011011 then op_imm32_of w else (
    if opcode == 0b0110011 then op_of w else (
    if opcode == 0b0111011 then op32_of w else (
    if opcode == 0b0001111 then fence_of w else (
    if opcode == 0b1110011 then system_of w else None))))))))))))

unfoldable pub decoded : ℕ → Option Instr
decoded w = by_opcode (bits w 6 0) w
