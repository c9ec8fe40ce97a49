-- What the word of an instruction is decoded to. One lemma for each constructor: that the opcode and each field are
-- read back from the word is linear arithmetic, and each table read backwards gives back the operation.
use Rattle.std.proofs.Common.{◌≡◌, ℕ, ◌+◌, ◌*◌, ◌%◌, ◌^◌, ◌<◌, refl, ap, ◌∙◌, arith, lit<}
use Rattle.std.specs.Prelude.{option_map, Option, Some, None, if◌then◌else◌, ◌==◌}
use Rattle.rv_isa.specs.declared.instruction.BranchOp.{BranchOp}
use Rattle.rv_isa.specs.declared.instruction.BranchOp.TheVariants.{Beq, Bne, Blt, Bge, Bltu, Bgeu}
use Rattle.rv_isa.specs.declared.instruction.LoadOp.{LoadOp}
use Rattle.rv_isa.specs.declared.instruction.LoadOp.TheVariants.{Lb, Lh, Lw, Ld, Lbu, Lhu, Lwu}
use Rattle.rv_isa.specs.declared.instruction.StoreOp.{StoreOp}
use Rattle.rv_isa.specs.declared.instruction.StoreOp.TheVariants.{Sb, Sh, Sw, Sd}
use Rattle.rv_isa.specs.declared.instruction.ImmOp.{ImmOp}
use Rattle.rv_isa.specs.declared.instruction.ImmOp.TheVariants.{Addi, Slti, Sltiu, Xori, Ori, Andi}
use Rattle.rv_isa.specs.declared.instruction.ShiftOp.{ShiftOp}
use Rattle.rv_isa.specs.declared.instruction.ShiftOp.TheVariants.{Slli, Srli, Srai}
use Rattle.rv_isa.specs.declared.instruction.ShiftOp32.{ShiftOp32}
use Rattle.rv_isa.specs.declared.instruction.ShiftOp32.TheVariants.{Slliw, Srliw, Sraiw}
use Rattle.rv_isa.specs.declared.instruction.RegOp.{RegOp}
use Rattle.rv_isa.specs.declared.instruction.RegOp.TheVariants.{Add, Sub, Sll, Slt, Sltu, Xor, Srl, Sra, Or, And, Mul}
use Rattle.rv_isa.specs.declared.instruction.RegOp.TheVariants.{Mulh, Mulhsu, Mulhu, Div, Divu, Rem, Remu}
use Rattle.rv_isa.specs.declared.instruction.RegOp32.{RegOp32}
use Rattle.rv_isa.specs.declared.instruction.RegOp32.TheVariants.{Addw, Subw, Sllw, Srlw, Sraw, Mulw, Divw, Divuw}
use Rattle.rv_isa.specs.declared.instruction.RegOp32.TheVariants.{Remw, Remuw}
use Rattle.rv_isa.specs.declared.instruction.Instr.{Instr}
use Rattle.rv_isa.specs.declared.instruction.Instr.TheVariants.{Lui, Auipc, Jal, Jalr, Branch, Load, Store, OpImm}
use Rattle.rv_isa.specs.declared.instruction.Instr.TheVariants.{ShiftImm, Addiw, ShiftImm32, Op, Op32, Fence, Ecall}
use Rattle.rv_isa.specs.declared.instruction.Instr.TheVariants.{Ebreak}
use Rattle.rv_isa.specs.Table.{bits, r_word, i_word, s_word, b_word, u_word, j_word, word_of, IsOfTable, IsReg}
use Rattle.rv_isa.specs.Table.{branch_code, load_code, store_code, imm_code, shift_code, shift32_code, reg_code}
use Rattle.rv_isa.specs.Table.{reg32_code}
use Rattle.rv_isa.specs.Decoding.{decoded, by_opcode, jalr_of, branch_of, load_of, store_of, shift_imm_of, imm_of}
use Rattle.rv_isa.specs.Decoding.{op_imm_of, op_imm32_of, op_of, op32_of, fence_of, system_of, branch_at, load_at}
use Rattle.rv_isa.specs.Decoding.{store_at, imm_at, shift_at, shift32_at, reg_at, reg32_at, rd_of, rs1_of, rs2_of}
use Rattle.rv_isa.specs.Decoding.{funct3_of, funct7_of, i_imm, s_imm, b_imm, u_imm, j_imm}

-- each table read backwards
branch_at-code : (op : BranchOp) → branch_at (branch_code op) ≡ Some op
unfolding branch_at branch_code
branch_at-code Beq = refl
branch_at-code Bne = refl
branch_at-code Blt = refl
branch_at-code Bge = refl
branch_at-code Bltu = refl
branch_at-code Bgeu = refl

load_at-code : (op : LoadOp) → load_at (load_code op) ≡ Some op
unfolding load_at load_code
load_at-code Lb = refl
load_at-code Lh = refl
load_at-code Lw = refl
load_at-code Ld = refl
load_at-code Lbu = refl
load_at-code Lhu = refl
load_at-code Lwu = refl

store_at-code : (op : StoreOp) → store_at (store_code op) ≡ Some op
unfolding store_at store_code
store_at-code Sb = refl
store_at-code Sh = refl
store_at-code Sw = refl
store_at-code Sd = refl

imm_at-code : (op : ImmOp) → imm_at (imm_code op) ≡ Some op
unfolding imm_at imm_code
imm_at-code Addi = refl
imm_at-code Slti = refl
imm_at-code Sltiu = refl
imm_at-code Xori = refl
imm_at-code Ori = refl
imm_at-code Andi = refl

shift_at-code : (op : ShiftOp) → shift_at (shift_code op).0 (shift_code op).1 ≡ Some op
unfolding shift_at shift_code
shift_at-code Slli = refl
shift_at-code Srli = refl
shift_at-code Srai = refl

shift32_at-code : (op : ShiftOp32) → shift32_at (shift32_code op).0 (shift32_code op).1 ≡ Some op
unfolding shift32_at shift32_code
shift32_at-code Slliw = refl
shift32_at-code Srliw = refl
shift32_at-code Sraiw = refl

reg_at-code : (op : RegOp) → reg_at (reg_code op).0 (reg_code op).1 ≡ Some op
unfolding reg_at reg_code
reg_at-code Add = refl
reg_at-code Sub = refl
reg_at-code Sll = refl
reg_at-code Slt = refl
reg_at-code Sltu = refl
reg_at-code Xor = refl
reg_at-code Srl = refl
reg_at-code Sra = refl
reg_at-code Or = refl
reg_at-code And = refl
reg_at-code Mul = refl
reg_at-code Mulh = refl
reg_at-code Mulhsu = refl
reg_at-code Mulhu = refl
reg_at-code Div = refl
reg_at-code Divu = refl
reg_at-code Rem = refl
reg_at-code Remu = refl

reg32_at-code : (op : RegOp32) → reg32_at (reg32_code op).0 (reg32_code op).1 ≡ Some op
unfolding reg32_at reg32_code
reg32_at-code Addw = refl
reg32_at-code Subw = refl
reg32_at-code Sllw = refl
reg32_at-code Srlw = refl
reg32_at-code Sraw = refl
reg32_at-code Mulw = refl
reg32_at-code Divw = refl
reg32_at-code Divuw = refl
reg32_at-code Remw = refl
reg32_at-code Remuw = refl

-- the codes fit their fields
branch_code_fits : (op : BranchOp) → branch_code op < 2 ^ 3
unfolding branch_code
branch_code_fits Beq = lit< tt
branch_code_fits Bne = lit< tt
branch_code_fits Blt = lit< tt
branch_code_fits Bge = lit< tt
branch_code_fits Bltu = lit< tt
branch_code_fits Bgeu = lit< tt

load_code_fits : (op : LoadOp) → load_code op < 2 ^ 3
unfolding load_code
load_code_fits Lb = lit< tt
load_code_fits Lh = lit< tt
load_code_fits Lw = lit< tt
load_code_fits Ld = lit< tt
load_code_fits Lbu = lit< tt
load_code_fits Lhu = lit< tt
load_code_fits Lwu = lit< tt

store_code_fits : (op : StoreOp) → store_code op < 2 ^ 3
unfolding store_code
store_code_fits Sb = lit< tt
store_code_fits Sh = lit< tt
store_code_fits Sw = lit< tt
store_code_fits Sd = lit< tt

imm_code_fits : (op : ImmOp) → imm_code op < 2 ^ 3
unfolding imm_code
imm_code_fits Addi = lit< tt
imm_code_fits Slti = lit< tt
imm_code_fits Sltiu = lit< tt
imm_code_fits Xori = lit< tt
imm_code_fits Ori = lit< tt
imm_code_fits Andi = lit< tt

shift_code_fits : (op : ShiftOp) → ((shift_code op).0 < 2 ^ 6) × ((shift_code op).1 < 2 ^ 3)
unfolding shift_code
shift_code_fits Slli = (lit< tt, lit< tt)
shift_code_fits Srli = (lit< tt, lit< tt)
shift_code_fits Srai = (lit< tt, lit< tt)

shift32_code_fits : (op : ShiftOp32) → ((shift32_code op).0 < 2 ^ 7) × ((shift32_code op).1 < 2 ^ 3)
unfolding shift32_code
shift32_code_fits Slliw = (lit< tt, lit< tt)
shift32_code_fits Srliw = (lit< tt, lit< tt)
shift32_code_fits Sraiw = (lit< tt, lit< tt)

reg_code_fits : (op : RegOp) → ((reg_code op).0 < 2 ^ 7) × ((reg_code op).1 < 2 ^ 3)
unfolding reg_code
reg_code_fits Add = (lit< tt, lit< tt)
reg_code_fits Sub = (lit< tt, lit< tt)
reg_code_fits Sll = (lit< tt, lit< tt)
reg_code_fits Slt = (lit< tt, lit< tt)
reg_code_fits Sltu = (lit< tt, lit< tt)
reg_code_fits Xor = (lit< tt, lit< tt)
reg_code_fits Srl = (lit< tt, lit< tt)
reg_code_fits Sra = (lit< tt, lit< tt)
reg_code_fits Or = (lit< tt, lit< tt)
reg_code_fits And = (lit< tt, lit< tt)
reg_code_fits Mul = (lit< tt, lit< tt)
reg_code_fits Mulh = (lit< tt, lit< tt)
reg_code_fits Mulhsu = (lit< tt, lit< tt)
reg_code_fits Mulhu = (lit< tt, lit< tt)
reg_code_fits Div = (lit< tt, lit< tt)
reg_code_fits Divu = (lit< tt, lit< tt)
reg_code_fits Rem = (lit< tt, lit< tt)
reg_code_fits Remu = (lit< tt, lit< tt)

reg32_code_fits : (op : RegOp32) → ((reg32_code op).0 < 2 ^ 7) × ((reg32_code op).1 < 2 ^ 3)
unfolding reg32_code
reg32_code_fits Addw = (lit< tt, lit< tt)
reg32_code_fits Subw = (lit< tt, lit< tt)
reg32_code_fits Sllw = (lit< tt, lit< tt)
reg32_code_fits Srlw = (lit< tt, lit< tt)
reg32_code_fits Sraw = (lit< tt, lit< tt)
reg32_code_fits Mulw = (lit< tt, lit< tt)
reg32_code_fits Divw = (lit< tt, lit< tt)
reg32_code_fits Divuw = (lit< tt, lit< tt)
reg32_code_fits Remw = (lit< tt, lit< tt)
reg32_code_fits Remuw = (lit< tt, lit< tt)

-- each constructor
lui : (w rd imm : ℕ) → w ≡ u_word 0b0110111 rd imm → IsReg rd → imm < 2 ^ 20 → decoded w ≡ Some (Lui rd imm)
unfolding decoded by_opcode
lui w rd imm e h0 h1 =
    let f_rd : rd_of w ≡ rd = omega arith in
    let f_imm : u_imm w ≡ imm = omega arith in
    let o : bits w 6 0 ≡ 0b0110111 = omega arith in
    ap (λ k. by_opcode k w) o ∙ cc

auipc : (w rd imm : ℕ) → w ≡ u_word 0b0010111 rd imm → IsReg rd → imm < 2 ^ 20 → decoded w ≡ Some (Auipc rd imm)
unfolding decoded by_opcode
auipc w rd imm e h0 h1 =
    let f_rd : rd_of w ≡ rd = omega arith in
    let f_imm : u_imm w ≡ imm = omega arith in
    let o : bits w 6 0 ≡ 0b0010111 = omega arith in
    ap (λ k. by_opcode k w) o ∙ cc

jal : (w rd imm : ℕ) → w ≡ j_word 0b1101111 rd imm → IsReg rd → imm < 2 ^ 21 → imm % 2 ≡ 0
    → decoded w ≡ Some (Jal rd imm)
unfolding decoded by_opcode
jal w rd imm e h0 h1 h2 =
    let f_rd : rd_of w ≡ rd = omega arith in
    let f_imm : j_imm w ≡ imm = omega arith in
    let o : bits w 6 0 ≡ 0b1101111 = omega arith in
    ap (λ k. by_opcode k w) o ∙ cc

jalr : (w rd rs1 imm : ℕ) → w ≡ i_word 0b1100111 0b000 rd rs1 imm → IsReg rd → IsReg rs1 → imm < 2 ^ 12
    → decoded w ≡ Some (Jalr rd rs1 imm)
unfolding decoded by_opcode jalr_of
jalr w rd rs1 imm e h0 h1 h2 =
    let f_rd : rd_of w ≡ rd = omega arith in
    let f_rs1 : rs1_of w ≡ rs1 = omega arith in
    let f_imm : i_imm w ≡ imm = omega arith in
    let f3 : funct3_of w ≡ 0b000 = omega arith in
    let o : bits w 6 0 ≡ 0b1100111 = omega arith in
    ap (λ k. by_opcode k w) o ∙ (ap (λ k. if k == 0b000 then Some
    (Jalr (rd_of w) (rs1_of w) (i_imm w)) else None) f3 ∙ cc)

fence : (w rd rs1 fields : ℕ) → w ≡ i_word 0b0001111 0b000 rd rs1 fields → IsReg rd → IsReg rs1 → fields < 2 ^ 12
    → decoded w ≡ Some (Fence rd rs1 fields)
unfolding decoded by_opcode fence_of
fence w rd rs1 fields e h0 h1 h2 =
    let f_rd : rd_of w ≡ rd = omega arith in
    let f_rs1 : rs1_of w ≡ rs1 = omega arith in
    let f_imm : i_imm w ≡ fields = omega arith in
    let f3 : funct3_of w ≡ 0b000 = omega arith in
    let o : bits w 6 0 ≡ 0b0001111 = omega arith in
    ap (λ k. by_opcode k w) o ∙ (ap (λ k. if k == 0b000 then Some
    (Fence (rd_of w) (rs1_of w) (i_imm w)) else None) f3 ∙ cc)

branch : (w : ℕ) (op : BranchOp) (rs1 rs2 imm : ℕ) → w ≡ b_word 0b1100011 (branch_code op) rs1 rs2 imm → IsReg rs1
    → IsReg rs2 → imm < 2 ^ 13 → imm % 2 ≡ 0 → decoded w ≡ Some (Branch op rs1 rs2 imm)
unfolding decoded by_opcode branch_of
branch w op rs1 rs2 imm e h0 h1 h2 h3 =
    let fits = branch_code_fits op in
    let f3 : funct3_of w ≡ branch_code op = omega arith in
    let f_rs1 : rs1_of w ≡ rs1 = omega arith in
    let f_rs2 : rs2_of w ≡ rs2 = omega arith in
    let f_imm : b_imm w ≡ imm = omega arith in
    let o : bits w 6 0 ≡ 0b1100011 = omega arith in
    ap (λ k. by_opcode k w) o ∙ (
    ap (λ k. option_map (λ op. Branch op (rs1_of w) (rs2_of w) (b_imm w)) (branch_at k)) f3 ∙ (
    ap (option_map (λ op. Branch op (rs1_of w) (rs2_of w) (b_imm w))) (branch_at-code op) ∙ cc))

load : (w : ℕ) (op : LoadOp) (rd rs1 imm : ℕ) → w ≡ i_word 0b0000011 (load_code op) rd rs1 imm → IsReg rd
    → IsReg rs1 → imm < 2 ^ 12 → decoded w ≡ Some (Load op rd rs1 imm)
unfolding decoded by_opcode load_of
load w op rd rs1 imm e h0 h1 h2 =
    let fits = load_code_fits op in
    let f3 : funct3_of w ≡ load_code op = omega arith in
    let f_rd : rd_of w ≡ rd = omega arith in
    let f_rs1 : rs1_of w ≡ rs1 = omega arith in
    let f_imm : i_imm w ≡ imm = omega arith in
    let o : bits w 6 0 ≡ 0b0000011 = omega arith in
    ap (λ k. by_opcode k w) o ∙ (
    ap (λ k. option_map (λ op. Load op (rd_of w) (rs1_of w) (i_imm w)) (load_at k)) f3 ∙ (
    ap (option_map (λ op. Load op (rd_of w) (rs1_of w) (i_imm w))) (load_at-code op) ∙ cc))

store : (w : ℕ) (op : StoreOp) (rs1 rs2 imm : ℕ) → w ≡ s_word 0b0100011 (store_code op) rs1 rs2 imm → IsReg rs1
    → IsReg rs2 → imm < 2 ^ 12 → decoded w ≡ Some (Store op rs1 rs2 imm)
unfolding decoded by_opcode store_of
store w op rs1 rs2 imm e h0 h1 h2 =
    let fits = store_code_fits op in
    let f3 : funct3_of w ≡ store_code op = omega arith in
    let f_rs1 : rs1_of w ≡ rs1 = omega arith in
    let f_rs2 : rs2_of w ≡ rs2 = omega arith in
    let f_imm : s_imm w ≡ imm = omega arith in
    let o : bits w 6 0 ≡ 0b0100011 = omega arith in
    ap (λ k. by_opcode k w) o ∙ (
    ap (λ k. option_map (λ op. Store op (rs1_of w) (rs2_of w) (s_imm w)) (store_at k)) f3 ∙ (
    ap (option_map (λ op. Store op (rs1_of w) (rs2_of w) (s_imm w))) (store_at-code op) ∙ cc))

reg_reg : (w : ℕ) (op : RegOp) (rd rs1 rs2 : ℕ) → w ≡ r_word 0b0110011 (reg_code op).0 (reg_code op).1 rd rs1 rs2
    → IsReg rd → IsReg rs1 → IsReg rs2 → decoded w ≡ Some (Op op rd rs1 rs2)
unfolding decoded by_opcode op_of
reg_reg w op rd rs1 rs2 e h0 h1 h2 =
    let fits = reg_code_fits op in
    let f3 : funct3_of w ≡ (reg_code op).1 = omega arith in
    let f7 : funct7_of w ≡ (reg_code op).0 = omega arith in
    let f_rd : rd_of w ≡ rd = omega arith in
    let f_rs1 : rs1_of w ≡ rs1 = omega arith in
    let f_rs2 : rs2_of w ≡ rs2 = omega arith in
    let o : bits w 6 0 ≡ 0b0110011 = omega arith in
    ap (λ k. by_opcode k w) o ∙ (
    ap (λ k. option_map (λ op. Op op (rd_of w) (rs1_of w) (rs2_of w)) (reg_at (funct7_of w) k)) f3 ∙ (
    ap (λ k. option_map (λ op. Op op (rd_of w) (rs1_of w) (rs2_of w)) (reg_at k (reg_code op).1)) f7 ∙ (
    ap (option_map (λ op. Op op (rd_of w) (rs1_of w) (rs2_of w))) (reg_at-code op) ∙ cc)))

reg_reg32 : (w : ℕ) (op : RegOp32) (rd rs1 rs2 : ℕ) → w ≡ r_word 0b0111011 (reg32_code op).0
    (reg32_code op).1 rd rs1 rs2 → IsReg rd → IsReg rs1 → IsReg rs2 → decoded w ≡ Some (Op32 op rd rs1 rs2)
unfolding decoded by_opcode op32_of
reg_reg32 w op rd rs1 rs2 e h0 h1 h2 =
    let fits = reg32_code_fits op in
    let f3 : funct3_of w ≡ (reg32_code op).1 = omega arith in
    let f7 : funct7_of w ≡ (reg32_code op).0 = omega arith in
    let f_rd : rd_of w ≡ rd = omega arith in
    let f_rs1 : rs1_of w ≡ rs1 = omega arith in
    let f_rs2 : rs2_of w ≡ rs2 = omega arith in
    let o : bits w 6 0 ≡ 0b0111011 = omega arith in
    ap (λ k. by_opcode k w) o ∙ (
    ap (λ k. option_map (λ op. Op32 op (rd_of w) (rs1_of w) (rs2_of w)) (reg32_at (funct7_of w) k)) f3 ∙ (
    ap (λ k. option_map (λ op. Op32 op (rd_of w) (rs1_of w) (rs2_of w)) (reg32_at k (reg32_code op).1)) f7 ∙ (
    ap (option_map (λ op. Op32 op (rd_of w) (rs1_of w) (rs2_of w))) (reg32_at-code op) ∙ cc)))

-- which part of OP-IMM and of OP-IMM-32 the code of funct3 names
imm_part : (op : ImmOp) (a b : Option Instr) → (if imm_code op == 0b001 then a else
    (if imm_code op == 0b101 then a else b)) ≡ b
unfolding imm_code
imm_part Addi a b = refl
imm_part Slti a b = refl
imm_part Sltiu a b = refl
imm_part Xori a b = refl
imm_part Ori a b = refl
imm_part Andi a b = refl

shift_part : (op : ShiftOp) (a b : Option Instr) → (if (shift_code op).1 == 0b001 then a else
    (if (shift_code op).1 == 0b101 then a else b)) ≡ a
unfolding shift_code
shift_part Slli a b = refl
shift_part Srli a b = refl
shift_part Srai a b = refl

shift32_part : (op : ShiftOp32) (a b : Option Instr) → (if (shift32_code op).1 == 0b000 then a else b) ≡ b
unfolding shift32_code
shift32_part Slliw a b = refl
shift32_part Srliw a b = refl
shift32_part Sraiw a b = refl

op_imm : (w : ℕ) (op : ImmOp) (rd rs1 imm : ℕ) → w ≡ i_word 0b0010011 (imm_code op) rd rs1 imm → IsReg rd
    → IsReg rs1 → imm < 2 ^ 12 → decoded w ≡ Some (OpImm op rd rs1 imm)
unfolding decoded by_opcode op_imm_of imm_of
op_imm w op rd rs1 imm e h0 h1 h2 =
    let fits = imm_code_fits op in
    let f3 : funct3_of w ≡ imm_code op = omega arith in
    let f_rd : rd_of w ≡ rd = omega arith in
    let f_rs1 : rs1_of w ≡ rs1 = omega arith in
    let f_imm : i_imm w ≡ imm = omega arith in
    let o : bits w 6 0 ≡ 0b0010011 = omega arith in
    ap (λ k. by_opcode k w) o ∙ (
    ap (λ k. if k == 0b001 then shift_imm_of w else (if k == 0b101 then shift_imm_of w else imm_of w)) f3 ∙ (
    imm_part op _ _ ∙ (
    ap (λ k. option_map (λ op. OpImm op (rd_of w) (rs1_of w) (i_imm w)) (imm_at k)) f3 ∙ (
    ap (option_map (λ op. OpImm op (rd_of w) (rs1_of w) (i_imm w))) (imm_at-code op) ∙ cc))))

shift_imm : (w : ℕ) (op : ShiftOp) (rd rs1 shamt : ℕ) → w ≡ i_word 0b0010011 (shift_code op).1 rd rs1
    ((shift_code op).0 * 2 ^ 6 + shamt) → IsReg rd → IsReg rs1 → shamt < 2 ^ 6
    → decoded w ≡ Some (ShiftImm op rd rs1 shamt)
unfolding decoded by_opcode op_imm_of shift_imm_of
shift_imm w op rd rs1 shamt e h0 h1 h2 =
    let fits = shift_code_fits op in
    let f3 : funct3_of w ≡ (shift_code op).1 = omega arith in
    let f6 : bits w 31 26 ≡ (shift_code op).0 = omega arith in
    let f_rd : rd_of w ≡ rd = omega arith in
    let f_rs1 : rs1_of w ≡ rs1 = omega arith in
    let f_imm : bits w 25 20 ≡ shamt = omega arith in
    let o : bits w 6 0 ≡ 0b0010011 = omega arith in
    ap (λ k. by_opcode k w) o ∙ (
    ap (λ k. if k == 0b001 then shift_imm_of w else (if k == 0b101 then shift_imm_of w else imm_of w)) f3 ∙ (
    shift_part op _ _ ∙ (
    ap (λ k. option_map (λ op. ShiftImm op (rd_of w) (rs1_of w) (bits w 25 20)) (shift_at (bits w 31 26) k)) f3 ∙ (
    ap (λ k. option_map (λ op. ShiftImm op (rd_of w) (rs1_of w) (bits w 25 20)) (shift_at k (shift_code op).1)) f6 ∙ (
    ap (option_map (λ op. ShiftImm op (rd_of w) (rs1_of w) (bits w 25 20))) (shift_at-code op) ∙ cc)))))

addiw : (w rd rs1 imm : ℕ) → w ≡ i_word 0b0011011 0b000 rd rs1 imm → IsReg rd → IsReg rs1 → imm < 2 ^ 12
    → decoded w ≡ Some (Addiw rd rs1 imm)
unfolding decoded by_opcode op_imm32_of
addiw w rd rs1 imm e h0 h1 h2 =
    let f_rd : rd_of w ≡ rd = omega arith in
    let f_rs1 : rs1_of w ≡ rs1 = omega arith in
    let f_imm : i_imm w ≡ imm = omega arith in
    let f3 : funct3_of w ≡ 0b000 = omega arith in
    let o : bits w 6 0 ≡ 0b0011011 = omega arith in
    ap (λ k. by_opcode k w) o ∙ (ap (λ k. if k == 0b000 then Some
    (Addiw (rd_of w) (rs1_of w) (i_imm w)) else option_map (λ op. ShiftImm32 op (rd_of w) (rs1_of w) (rs2_of w))
    (shift32_at (funct7_of w) (funct3_of w))) f3 ∙ cc)

shift_imm32 : (w : ℕ) (op : ShiftOp32) (rd rs1 shamt : ℕ) → w
    ≡ r_word 0b0011011 (shift32_code op).0 (shift32_code op).1 rd rs1 shamt → IsReg rd → IsReg rs1 → shamt < 2 ^ 5
    → decoded w ≡ Some (ShiftImm32 op rd rs1 shamt)
unfolding decoded by_opcode op_imm32_of
shift_imm32 w op rd rs1 shamt e h0 h1 h2 =
    let fits = shift32_code_fits op in
    let f3 : funct3_of w ≡ (shift32_code op).1 = omega arith in
    let f7 : funct7_of w ≡ (shift32_code op).0 = omega arith in
    let f_rd : rd_of w ≡ rd = omega arith in
    let f_rs1 : rs1_of w ≡ rs1 = omega arith in
    let f_imm : rs2_of w ≡ shamt = omega arith in
    let o : bits w 6 0 ≡ 0b0011011 = omega arith in
    ap (λ k. by_opcode k w) o ∙ (
    ap (λ k. if k == 0b000 then Some (Addiw (rd_of w) (rs1_of w) (i_imm w)) else option_map
    (λ op. ShiftImm32 op (rd_of w) (rs1_of w) (rs2_of w)) (shift32_at (funct7_of w) (funct3_of w))) f3 ∙ (
    shift32_part op _ _ ∙ (
    ap (λ k. option_map (λ op. ShiftImm32 op (rd_of w) (rs1_of w) (rs2_of w)) (shift32_at (funct7_of w) k)) f3 ∙ (
    ap (λ k. option_map (λ op. ShiftImm32 op (rd_of w) (rs1_of w) (rs2_of w)) (shift32_at k (shift32_code op).1)) f7 ∙ (
    ap (option_map (λ op. ShiftImm32 op (rd_of w) (rs1_of w) (rs2_of w))) (shift32_at-code op) ∙ cc)))))

-- the word of an instruction whose operands fit is decoded to it
pub decoded-word : (i : Instr) → IsOfTable i → decoded (word_of i) ≡ Some i
unfolding word_of decoded by_opcode system_of
decoded-word (Lui rd imm) t = lui _ rd imm refl t.0 t.1
decoded-word (Auipc rd imm) t = auipc _ rd imm refl t.0 t.1
decoded-word (Jal rd imm) t = jal _ rd imm refl t.0 t.1 t.2
decoded-word (Jalr rd rs1 imm) t = jalr _ rd rs1 imm refl t.0 t.1 t.2
decoded-word (Branch op rs1 rs2 imm) t = branch _ op rs1 rs2 imm refl t.0 t.1 t.2 t.3
decoded-word (Load op rd rs1 imm) t = load _ op rd rs1 imm refl t.0 t.1 t.2
decoded-word (Store op rs1 rs2 imm) t = store _ op rs1 rs2 imm refl t.0 t.1 t.2
decoded-word (OpImm op rd rs1 imm) t = op_imm _ op rd rs1 imm refl t.0 t.1 t.2
decoded-word (ShiftImm op rd rs1 shamt) t = shift_imm _ op rd rs1 shamt refl t.0 t.1 t.2
decoded-word (Addiw rd rs1 imm) t = addiw _ rd rs1 imm refl t.0 t.1 t.2
decoded-word (ShiftImm32 op rd rs1 shamt) t = shift_imm32 _ op rd rs1 shamt refl t.0 t.1 t.2
decoded-word (Op o rd rs1 rs2) t = reg_reg _ o rd rs1 rs2 refl t.0 t.1 t.2
decoded-word (Op32 o rd rs1 rs2) t = reg_reg32 _ o rd rs1 rs2 refl t.0 t.1 t.2
decoded-word (Fence rd rs1 fields) t = fence _ rd rs1 fields refl t.0 t.1 t.2
decoded-word Ecall t = refl
decoded-word Ebreak t = refl
