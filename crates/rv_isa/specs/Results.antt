-- What the instructions compute, by the RISC-V unprivileged ISA manual ("Integer Computational Instructions" of
-- RV32I and RV64I; "M Extension"), by the operations on words of k bits. A register is a word of 64 bits.
use Rattle.std.specs.Prelude.{ℕ, ◌-◌, ◌*◌, ◌/◌, ◌%◌, ◌^◌, Bool, not, ◌==◌, nat_lt, if◌then◌else◌, bit_and, bit_or}
use Rattle.std.specs.Prelude.{bit_xor}
use Rattle.rv_isa.specs.declared.instruction.BranchOp.{BranchOp}
use Rattle.rv_isa.specs.declared.instruction.BranchOp.TheVariants.{Beq, Bne, Blt, Bge, Bltu, Bgeu}
use Rattle.rv_isa.specs.declared.instruction.ImmOp.{ImmOp}
use Rattle.rv_isa.specs.declared.instruction.ImmOp.TheVariants.{Addi, Slti, Sltiu, Xori, Ori, Andi}
use Rattle.rv_isa.specs.declared.instruction.ShiftOp.{ShiftOp}
use Rattle.rv_isa.specs.declared.instruction.ShiftOp.TheVariants.{Slli, Srli, Srai}
use Rattle.rv_isa.specs.declared.instruction.ShiftOp32.{ShiftOp32}
use Rattle.rv_isa.specs.declared.instruction.ShiftOp32.TheVariants.{Slliw, Srliw, Sraiw}
use Rattle.rv_isa.specs.declared.instruction.RegOp.{RegOp}
use Rattle.rv_isa.specs.declared.instruction.RegOp.TheVariants.{Add, Sub, Sll, Slt, Sltu, Xor, Srl, Sra, Or, And, Mul}
use Rattle.rv_isa.specs.declared.instruction.RegOp.TheVariants.{Mulh, Mulhsu, Mulhu, Div, Divu, Rem, Remu}
use Rattle.rv_isa.specs.declared.instruction.RegOp32.{RegOp32}
use Rattle.rv_isa.specs.declared.instruction.RegOp32.TheVariants.{Addw, Subw, Sllw, Srlw, Sraw, Mulw, Divw, Divuw}
use Rattle.rv_isa.specs.declared.instruction.RegOp32.TheVariants.{Remw, Remuw}
use Rattle.rv_isa.specs.declared.instruction.LoadOp.{LoadOp}
use Rattle.rv_isa.specs.declared.instruction.LoadOp.TheVariants.{Lb, Lh, Lw, Ld, Lbu, Lhu, Lwu}
use Rattle.rv_isa.specs.declared.instruction.StoreOp.{StoreOp}
use Rattle.rv_isa.specs.declared.instruction.StoreOp.TheVariants.{Sb, Sh, Sw, Sd}
use Rattle.rv_isa.specs.Word.{sext}
use Rattle.words.specs.TwosComplement.{low_bits, sign_extended}
use Rattle.words.specs.Operations.{sum, difference, product, shifted_left, shifted_right_signed, is_less_signed}
use Rattle.words.specs.Operations.{signed_quotient, signed_remainder}

-- a result of 64 bits: overflow is passed over
abbrev pub wrap : ℕ → ℕ
wrap n = low_bits 64 n

-- the low 32 bits
abbrev pub low_word : ℕ → ℕ
low_word n = low_bits 32 n

abbrev pub bit_of : Bool → ℕ
bit_of b = if b then 1 else 0

-- bits 127 to 64 of a product
abbrev pub high_half : ℕ → ℕ
high_half n = low_bits 128 n / 2 ^ 64

-- division by zero gives all ones, and the dividend as remainder
abbrev pub quotient_or_ones : (k divisor quotient : ℕ) → ℕ
quotient_or_ones k b q = if b == 0 then 2 ^ k - 1 else q

abbrev pub remainder_or_dividend : (dividend divisor remainder : ℕ) → ℕ
remainder_or_dividend a b r = if b == 0 then a else r

-- BRANCH: whether it is taken, of rs1 and rs2
unfoldable pub branch_taken : BranchOp → ℕ → ℕ → Bool
branch_taken Beq a b = a == b
branch_taken Bne a b = not (a == b)
branch_taken Blt a b = is_less_signed 64 a b
branch_taken Bge a b = not (is_less_signed 64 a b)
branch_taken Bltu a b = nat_lt a b
branch_taken Bgeu a b = not (nat_lt a b)

-- OP-IMM, of rs1 and the immediate sign-extended to 64 bits
unfoldable pub imm_result : ImmOp → ℕ → ℕ → ℕ
imm_result Addi a b = sum 64 a b
imm_result Slti a b = bit_of (is_less_signed 64 a b)
imm_result Sltiu a b = bit_of (nat_lt a b)
imm_result Xori a b = bit_xor a b
imm_result Ori a b = bit_or a b
imm_result Andi a b = bit_and a b

-- the shifts of OP-IMM, of rs1 by shamt
unfoldable pub shift_result : ShiftOp → ℕ → ℕ → ℕ
shift_result Slli a by = shifted_left 64 a by
shift_result Srli a by = a / 2 ^ by
shift_result Srai a by = shifted_right_signed 64 a by

-- the shifts of OP-IMM-32, of the low 32 bits of rs1 by shamt
unfoldable pub shift32_result : ShiftOp32 → ℕ → ℕ → ℕ
shift32_result Slliw a by = sext 32 (shifted_left 32 a by)
shift32_result Srliw a by = sext 32 (a / 2 ^ by)
shift32_result Sraiw a by = sext 32 (shifted_right_signed 32 a by)

-- OP, of rs1 and rs2
unfoldable pub reg_result : RegOp → ℕ → ℕ → ℕ
reg_result Add a b = sum 64 a b
reg_result Sub a b = difference 64 a b
reg_result Sll a b = shifted_left 64 a (b % 64)
reg_result Slt a b = bit_of (is_less_signed 64 a b)
reg_result Sltu a b = bit_of (nat_lt a b)
reg_result Xor a b = bit_xor a b
reg_result Srl a b = a / 2 ^ (b % 64)
reg_result Sra a b = shifted_right_signed 64 a (b % 64)
reg_result Or a b = bit_or a b
reg_result And a b = bit_and a b
reg_result Mul a b = product 64 a b
reg_result Mulh a b = high_half (sign_extended 64 128 a * sign_extended 64 128 b)
reg_result Mulhsu a b = high_half (sign_extended 64 128 a * b)
reg_result Mulhu a b = high_half (a * b)
reg_result Div a b = quotient_or_ones 64 b (signed_quotient 64 a b)
reg_result Divu a b = quotient_or_ones 64 b (a / b)
reg_result Rem a b = remainder_or_dividend a b (signed_remainder 64 a b)
reg_result Remu a b = remainder_or_dividend a b (a % b)

-- OP-32, of the low 32 bits of rs1 and rs2
unfoldable pub reg32_result : RegOp32 → ℕ → ℕ → ℕ
reg32_result Addw a b = sext 32 (sum 32 a b)
reg32_result Subw a b = sext 32 (difference 32 a b)
reg32_result Sllw a b = sext 32 (shifted_left 32 a (b % 32))
reg32_result Srlw a b = sext 32 (a / 2 ^ (b % 32))
reg32_result Sraw a b = sext 32 (shifted_right_signed 32 a (b % 32))
reg32_result Mulw a b = sext 32 (product 32 a b)
reg32_result Divw a b = sext 32 (quotient_or_ones 32 b (signed_quotient 32 a b))
reg32_result Divuw a b = sext 32 (quotient_or_ones 32 b (a / b))
reg32_result Remw a b = sext 32 (remainder_or_dividend a b (signed_remainder 32 a b))
reg32_result Remuw a b = sext 32 (remainder_or_dividend a b (a % b))

-- LOAD and STORE: how many bytes are loaded and stored, and how those that are loaded fill a register
abbrev pub load_bytes : LoadOp → ℕ
load_bytes Lb = 1
load_bytes Lh = 2
load_bytes Lw = 4
load_bytes Ld = 8
load_bytes Lbu = 1
load_bytes Lhu = 2
load_bytes Lwu = 4

unfoldable pub extended : LoadOp → ℕ → ℕ
extended Lb n = sext 8 n
extended Lh n = sext 16 n
extended Lw n = sext 32 n
extended Ld n = n
extended Lbu n = n
extended Lhu n = n
extended Lwu n = n

abbrev pub store_bytes : StoreOp → ℕ
store_bytes Sb = 1
store_bytes Sh = 2
store_bytes Sw = 4
store_bytes Sd = 8
