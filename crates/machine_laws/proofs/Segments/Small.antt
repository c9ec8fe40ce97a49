-- The words of instructions that fit their fields have 32 bits.
use Rattle.std.proofs.Common.{◌≡◌, ℕ, zero, suc, ◌^◌, ◌<◌, List, [], ◌∷◌, ◌++◌, map, arith}
use Rattle.rv_isa.specs.declared.instruction.BranchOp.{BranchOp}
use Rattle.rv_isa.specs.declared.instruction.BranchOp.TheVariants.{Beq, Bne, Blt, Bge, Bltu, Bgeu}
use Rattle.rv_isa.specs.declared.instruction.LoadOp.{LoadOp}
use Rattle.rv_isa.specs.declared.instruction.LoadOp.TheVariants.{Lb, Lh, Lw, Ld, Lbu, Lhu, Lwu}
use Rattle.rv_isa.specs.declared.instruction.StoreOp.{StoreOp}
use Rattle.rv_isa.specs.declared.instruction.StoreOp.TheVariants.{Sb, Sh, Sw, Sd}
use Rattle.rv_isa.specs.declared.instruction.ImmOp.{ImmOp}
use Rattle.rv_isa.specs.declared.instruction.ImmOp.TheVariants.{Addi, Slti, Sltiu, Xori, Ori, Andi}
use Rattle.rv_isa.specs.declared.instruction.ShiftOp.{ShiftOp}
use Rattle.rv_isa.specs.declared.instruction.ShiftOp.TheVariants.{Slli, Srli, Srai}
use Rattle.rv_isa.specs.declared.instruction.ShiftOp32.{ShiftOp32}
use Rattle.rv_isa.specs.declared.instruction.ShiftOp32.TheVariants.{Slliw, Srliw, Sraiw}
use Rattle.rv_isa.specs.declared.instruction.RegOp.{RegOp}
use Rattle.rv_isa.specs.declared.instruction.RegOp.TheVariants.{Add, Sub, Sll, Slt, Sltu, Xor, Srl, Sra, Or, And, Mul}
use Rattle.rv_isa.specs.declared.instruction.RegOp.TheVariants.{Mulh, Mulhsu, Mulhu, Div, Divu, Rem, Remu}
use Rattle.rv_isa.specs.declared.instruction.RegOp32.{RegOp32}
use Rattle.rv_isa.specs.declared.instruction.RegOp32.TheVariants.{Addw, Subw, Sllw, Srlw, Sraw, Mulw, Divw, Divuw}
use Rattle.rv_isa.specs.declared.instruction.RegOp32.TheVariants.{Remw, Remuw}
use Rattle.rv_isa.specs.declared.instruction.Instr.{Instr}
use Rattle.rv_isa.specs.declared.instruction.Instr.TheVariants.{Lui, Auipc, Jal, Jalr, Branch, Load, Store, OpImm}
use Rattle.rv_isa.specs.declared.instruction.Instr.TheVariants.{ShiftImm, Addiw, ShiftImm32, Op, Op32, Fence, Ecall}
use Rattle.rv_isa.specs.declared.instruction.Instr.TheVariants.{Ebreak}
use Rattle.rv_isa.specs.Table.{branch_code, load_code, store_code, imm_code, shift_code, shift32_code, reg_code}
use Rattle.rv_isa.specs.Table.{reg32_code, word_of, IsOfTable}
use Rattle.machine_laws.specs.Layout.Lists.{AreWords32}
use Rattle.machine_laws.proofs.CodeLayout.Table.{AllOfTable}

branch_small : (op : BranchOp) → branch_code op < 8
unfolding branch_code
branch_small Beq = omega arith
branch_small Bne = omega arith
branch_small Blt = omega arith
branch_small Bge = omega arith
branch_small Bltu = omega arith
branch_small Bgeu = omega arith

load_small : (op : LoadOp) → load_code op < 8
unfolding load_code
load_small Lb = omega arith
load_small Lh = omega arith
load_small Lw = omega arith
load_small Ld = omega arith
load_small Lbu = omega arith
load_small Lhu = omega arith
load_small Lwu = omega arith

store_small : (op : StoreOp) → store_code op < 8
unfolding store_code
store_small Sb = omega arith
store_small Sh = omega arith
store_small Sw = omega arith
store_small Sd = omega arith

imm_small : (op : ImmOp) → imm_code op < 8
unfolding imm_code
imm_small Addi = omega arith
imm_small Slti = omega arith
imm_small Sltiu = omega arith
imm_small Xori = omega arith
imm_small Ori = omega arith
imm_small Andi = omega arith

shift_small : (op : ShiftOp) → ((shift_code op).0 < 64) × ((shift_code op).1 < 8)
unfolding shift_code
shift_small Slli = (omega arith, omega arith)
shift_small Srli = (omega arith, omega arith)
shift_small Srai = (omega arith, omega arith)

shift32_small : (op : ShiftOp32) → ((shift32_code op).0 < 128) × ((shift32_code op).1 < 8)
unfolding shift32_code
shift32_small Slliw = (omega arith, omega arith)
shift32_small Srliw = (omega arith, omega arith)
shift32_small Sraiw = (omega arith, omega arith)

reg_small : (op : RegOp) → ((reg_code op).0 < 128) × ((reg_code op).1 < 8)
unfolding reg_code
reg_small Add = (omega arith, omega arith)
reg_small Sub = (omega arith, omega arith)
reg_small Sll = (omega arith, omega arith)
reg_small Slt = (omega arith, omega arith)
reg_small Sltu = (omega arith, omega arith)
reg_small Xor = (omega arith, omega arith)
reg_small Srl = (omega arith, omega arith)
reg_small Sra = (omega arith, omega arith)
reg_small Or = (omega arith, omega arith)
reg_small And = (omega arith, omega arith)
reg_small Mul = (omega arith, omega arith)
reg_small Mulh = (omega arith, omega arith)
reg_small Mulhsu = (omega arith, omega arith)
reg_small Mulhu = (omega arith, omega arith)
reg_small Div = (omega arith, omega arith)
reg_small Divu = (omega arith, omega arith)
reg_small Rem = (omega arith, omega arith)
reg_small Remu = (omega arith, omega arith)

reg32_small : (op : RegOp32) → ((reg32_code op).0 < 128) × ((reg32_code op).1 < 8)
unfolding reg32_code
reg32_small Addw = (omega arith, omega arith)
reg32_small Subw = (omega arith, omega arith)
reg32_small Sllw = (omega arith, omega arith)
reg32_small Srlw = (omega arith, omega arith)
reg32_small Sraw = (omega arith, omega arith)
reg32_small Mulw = (omega arith, omega arith)
reg32_small Divw = (omega arith, omega arith)
reg32_small Divuw = (omega arith, omega arith)
reg32_small Remw = (omega arith, omega arith)
reg32_small Remuw = (omega arith, omega arith)

pub word_small : (i : Instr) → IsOfTable i → word_of i < 2 ^ 32
unfolding word_of
word_small (Lui rd imm) h = omega (arith, h.0, h.1)
word_small (Auipc rd imm) h = omega (arith, h.0, h.1)
word_small (Jal rd imm) h = omega (arith, h.0, h.1)
word_small (Jalr rd rs1 imm) h = omega (arith, h.0, h.1, h.2)
word_small (Branch op rs1 rs2 imm) h = omega (arith, h.0, h.1, h.2, branch_small op)
word_small (Load op rd rs1 imm) h = omega (arith, h.0, h.1, h.2, load_small op)
word_small (Store op rs1 rs2 imm) h = omega (arith, h.0, h.1, h.2, store_small op)
word_small (OpImm op rd rs1 imm) h = omega (arith, h.0, h.1, h.2, imm_small op)
word_small (ShiftImm op rd rs1 shamt) h =
    let s = shift_small op in omega (arith, h.0, h.1, h.2, s.0, s.1)
word_small (Addiw rd rs1 imm) h = omega (arith, h.0, h.1, h.2)
word_small (ShiftImm32 op rd rs1 shamt) h =
    let s = shift32_small op in omega (arith, h.0, h.1, h.2, s.0, s.1)
word_small (Op op rd rs1 rs2) h = let s = reg_small op in omega (arith, h.0, h.1, h.2, s.0, s.1)
word_small (Op32 op rd rs1 rs2) h = let s = reg32_small op in omega (arith, h.0, h.1, h.2, s.0, s.1)
word_small (Fence rd rs1 fields) h = omega (arith, h.0, h.1, h.2)
word_small Ecall h = omega arith
word_small Ebreak h = omega arith

pub words_small : (is : List Instr) → AllOfTable is → AreWords32 (map word_of is)
words_small [] h k w e = cc
words_small (i ∷ is) h zero w e = let same : word_of i ≡ w = cc in omega (arith, same, word_small i h.0)
words_small (i ∷ is) h (suc k) w e = words_small is h.1 k w e

pub both_small : (xs ys : List ℕ) → AreWords32 xs → AreWords32 ys → AreWords32 (xs ++ ys)
both_small [] ys h g k w e = g k w e
both_small (x ∷ xs) ys h g zero w e = h zero w e
both_small (x ∷ xs) ys h g (suc k) w e = both_small xs ys (λ j. h (suc j)) g k w e
