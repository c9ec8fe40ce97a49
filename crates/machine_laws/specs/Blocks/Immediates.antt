-- Which operators on a register and a number have an instruction that has the number in itself (RISC-V unprivileged
-- ISA, "Integer Register-Immediate Instructions" of RV32I and of RV64I), and for which numbers.
use Rattle.std.specs.Prelude.{ℕ, ◌-◌, ◌%◌, ◌^◌, Bool, ◌||◌, nat_lt, nat_le, if◌then◌else◌, Option, Some, None}
use Rattle.words.specs.TwosComplement.{low_bits, negated}
use Rattle.rv_isa.specs.declared.instruction.ImmOp.{ImmOp}
use Rattle.rv_isa.specs.declared.instruction.ImmOp.TheVariants.{Addi, Slti, Sltiu, Xori, Ori, Andi}
use Rattle.rv_isa.specs.declared.instruction.ShiftOp.{ShiftOp}
use Rattle.rv_isa.specs.declared.instruction.ShiftOp.TheVariants.{Slli, Srli, Srai}
use Rattle.rv_isa.specs.declared.instruction.ShiftOp32.{ShiftOp32}
use Rattle.rv_isa.specs.declared.instruction.ShiftOp32.TheVariants.{Slliw, Srliw, Sraiw}
use Rattle.rv_isa.specs.declared.instruction.RegOp.{RegOp}
use Rattle.rv_isa.specs.declared.instruction.RegOp.TheVariants.{Add, Sub, Sll, Slt, Sltu, Xor, Srl, Sra, Or, And}
use Rattle.rv_isa.specs.declared.instruction.RegOp32.{RegOp32}
use Rattle.rv_isa.specs.declared.instruction.RegOp32.TheVariants.{Addw, Subw, Sllw, Srlw, Sraw}
use Rattle.rv_isa.specs.declared.instruction.Instr.{Instr}
use Rattle.rv_isa.specs.declared.instruction.Instr.TheVariants.{OpImm, ShiftImm, Addiw, ShiftImm32}
use Rattle.flat_code.specs.declared.instruction.RightOperand.{RightOperand}
use Rattle.flat_code.specs.declared.instruction.RightOperand.TheVariants as right

-- a word that the 12 bits of an immediate give, sign-extended: -2048 to 2047
abbrev pub is_immediate : ℕ → Bool
is_immediate n = nat_lt n (2 ^ 11) || nat_le (2 ^ 64 - 2 ^ 11) n

abbrev pub with_immediate : ImmOp → (rd rs1 n : ℕ) → Option Instr
with_immediate op rd rs1 n = if is_immediate n then Some (OpImm op rd rs1 (n % 2 ^ 12)) else None

abbrev pub with_shift : ShiftOp → (rd rs1 n : ℕ) → Option Instr
with_shift op rd rs1 n = if nat_lt n 64 then Some (ShiftImm op rd rs1 (n % 2 ^ 6)) else None

abbrev pub with_immediate32 : (rd rs1 n : ℕ) → Option Instr
with_immediate32 rd rs1 n = if is_immediate n then Some (Addiw rd rs1 (n % 2 ^ 12)) else None

abbrev pub with_shift32 : ShiftOp32 → (rd rs1 n : ℕ) → Option Instr
with_shift32 op rd rs1 n = if nat_lt n 32 then Some (ShiftImm32 op rd rs1 (n % 2 ^ 5)) else None

-- the instruction of OP-IMM for one of OP whose right operand is a word; a difference is the sum with the word negated
unfoldable pub immediate : RegOp → (rd rs1 n : ℕ) → Option Instr
immediate Add rd rs1 n = with_immediate Addi rd rs1 n
immediate Sub rd rs1 n = with_immediate Addi rd rs1 (negated 64 n)
immediate Slt rd rs1 n = with_immediate Slti rd rs1 n
immediate Sltu rd rs1 n = with_immediate Sltiu rd rs1 n
immediate Xor rd rs1 n = with_immediate Xori rd rs1 n
immediate Or rd rs1 n = with_immediate Ori rd rs1 n
immediate And rd rs1 n = with_immediate Andi rd rs1 n
immediate Sll rd rs1 n = with_shift Slli rd rs1 n
immediate Srl rd rs1 n = with_shift Srli rd rs1 n
immediate Sra rd rs1 n = with_shift Srai rd rs1 n
immediate op rd rs1 n = None

-- the instruction of OP-IMM-32 for one of OP-32
unfoldable pub immediate32 : RegOp32 → (rd rs1 n : ℕ) → Option Instr
immediate32 Addw rd rs1 n = with_immediate32 rd rs1 n
immediate32 Subw rd rs1 n = with_immediate32 rd rs1 (negated 64 n)
immediate32 Sllw rd rs1 n = with_shift32 Slliw rd rs1 n
immediate32 Srlw rd rs1 n = with_shift32 Srliw rd rs1 n
immediate32 Sraw rd rs1 n = with_shift32 Sraiw rd rs1 n
immediate32 op rd rs1 n = None

-- a right operand in a register has none
abbrev pub immediate_of : RegOp → (rd rs1 : ℕ) → RightOperand → Option Instr
immediate_of op rd rs1 (right.Register z) = None
immediate_of op rd rs1 (right.Number n) = immediate op rd rs1 (low_bits 64 n)

abbrev pub immediate32_of : RegOp32 → (rd rs1 : ℕ) → RightOperand → Option Instr
immediate32_of op rd rs1 (right.Register z) = None
immediate32_of op rd rs1 (right.Number n) = immediate32 op rd rs1 (low_bits 64 n)
