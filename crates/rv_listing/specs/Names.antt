-- The names of the instructions of RV64IM and the form of their operands: one table, to be held beside the RISC-V
-- unprivileged ISA manual, chapter "RV32/64G Instruction Set Listings".
use Rattle.std.specs.Prelude.{ℕ, ◌^◌, List, Option, codes}
use Rattle.std.specs.List.{find}
use Rattle.std.specs.Str.{bytes_eq}
use Rattle.rv_isa.specs.declared.instruction.BranchOp.{BranchOp}
use Rattle.rv_isa.specs.declared.instruction.BranchOp.TheVariants.{Beq, Bne, Blt, Bge, Bltu, Bgeu}
use Rattle.rv_isa.specs.declared.instruction.LoadOp.{LoadOp}
use Rattle.rv_isa.specs.declared.instruction.LoadOp.TheVariants.{Lb, Lh, Lw, Ld, Lbu, Lhu, Lwu}
use Rattle.rv_isa.specs.declared.instruction.StoreOp.{StoreOp}
use Rattle.rv_isa.specs.declared.instruction.StoreOp.TheVariants.{Sb, Sh, Sw, Sd}
use Rattle.rv_isa.specs.declared.instruction.ImmOp.{ImmOp}
use Rattle.rv_isa.specs.declared.instruction.ImmOp.TheVariants.{Addi, Slti, Sltiu, Xori, Ori, Andi}
use Rattle.rv_isa.specs.declared.instruction.ShiftOp.{ShiftOp}
use Rattle.rv_isa.specs.declared.instruction.ShiftOp.TheVariants.{Slli, Srli, Srai}
use Rattle.rv_isa.specs.declared.instruction.ShiftOp32.{ShiftOp32}
use Rattle.rv_isa.specs.declared.instruction.ShiftOp32.TheVariants.{Slliw, Srliw, Sraiw}
use Rattle.rv_isa.specs.declared.instruction.RegOp.{RegOp}
use Rattle.rv_isa.specs.declared.instruction.RegOp.TheVariants.{Add, Sub, Sll, Slt, Sltu, Xor, Srl, Sra, Or, And, Mul}
use Rattle.rv_isa.specs.declared.instruction.RegOp.TheVariants.{Mulh, Mulhsu, Mulhu, Div, Divu, Rem, Remu}
use Rattle.rv_isa.specs.declared.instruction.RegOp32.{RegOp32}
use Rattle.rv_isa.specs.declared.instruction.RegOp32.TheVariants.{Addw, Subw, Sllw, Srlw, Sraw, Mulw, Divw, Divuw}
use Rattle.rv_isa.specs.declared.instruction.RegOp32.TheVariants.{Remw, Remuw}
use Rattle.rv_listing.specs.declared.mnemonic.Mnemonic.{Mnemonic}
use Rattle.rv_listing.specs.declared.mnemonic.Mnemonic.TheVariants as mnemonic
use Rattle.rv_listing.specs.declared.mnemonic.TheConstants.{MNEMONICS}
use Rattle.rv_listing.specs.declared.operands.Field.TheVariants as field
use Rattle.rv_listing.specs.declared.operands.Shape.{Shape}
use Rattle.rv_listing.specs.declared.operands.Shape.TheVariants as shape

unfoldable pub branch_name : BranchOp → List ℕ
branch_name Beq = codes "beq"
branch_name Bne = codes "bne"
branch_name Blt = codes "blt"
branch_name Bge = codes "bge"
branch_name Bltu = codes "bltu"
branch_name Bgeu = codes "bgeu"

unfoldable pub load_name : LoadOp → List ℕ
load_name Lb = codes "lb"
load_name Lh = codes "lh"
load_name Lw = codes "lw"
load_name Ld = codes "ld"
load_name Lbu = codes "lbu"
load_name Lhu = codes "lhu"
load_name Lwu = codes "lwu"

unfoldable pub store_name : StoreOp → List ℕ
store_name Sb = codes "sb"
store_name Sh = codes "sh"
store_name Sw = codes "sw"
store_name Sd = codes "sd"

unfoldable pub imm_name : ImmOp → List ℕ
imm_name Addi = codes "addi"
imm_name Slti = codes "slti"
imm_name Sltiu = codes "sltiu"
imm_name Xori = codes "xori"
imm_name Ori = codes "ori"
imm_name Andi = codes "andi"

unfoldable pub shift_name : ShiftOp → List ℕ
shift_name Slli = codes "slli"
shift_name Srli = codes "srli"
shift_name Srai = codes "srai"

unfoldable pub shift32_name : ShiftOp32 → List ℕ
shift32_name Slliw = codes "slliw"
shift32_name Srliw = codes "srliw"
shift32_name Sraiw = codes "sraiw"

unfoldable pub reg_name : RegOp → List ℕ
reg_name Add = codes "add"
reg_name Sub = codes "sub"
reg_name Sll = codes "sll"
reg_name Slt = codes "slt"
reg_name Sltu = codes "sltu"
reg_name Xor = codes "xor"
reg_name Srl = codes "srl"
reg_name Sra = codes "sra"
reg_name Or = codes "or"
reg_name And = codes "and"
reg_name Mul = codes "mul"
reg_name Mulh = codes "mulh"
reg_name Mulhsu = codes "mulhsu"
reg_name Mulhu = codes "mulhu"
reg_name Div = codes "div"
reg_name Divu = codes "divu"
reg_name Rem = codes "rem"
reg_name Remu = codes "remu"

unfoldable pub reg32_name : RegOp32 → List ℕ
reg32_name Addw = codes "addw"
reg32_name Subw = codes "subw"
reg32_name Sllw = codes "sllw"
reg32_name Srlw = codes "srlw"
reg32_name Sraw = codes "sraw"
reg32_name Mulw = codes "mulw"
reg32_name Divw = codes "divw"
reg32_name Divuw = codes "divuw"
reg32_name Remw = codes "remw"
reg32_name Remuw = codes "remuw"

unfoldable pub name_of : Mnemonic → List ℕ
name_of mnemonic.Lui = codes "lui"
name_of mnemonic.Auipc = codes "auipc"
name_of mnemonic.Jal = codes "jal"
name_of mnemonic.Jalr = codes "jalr"
name_of (mnemonic.Branch op) = branch_name op
name_of (mnemonic.Load op) = load_name op
name_of (mnemonic.Store op) = store_name op
name_of (mnemonic.OpImm op) = imm_name op
name_of (mnemonic.ShiftImm op) = shift_name op
name_of mnemonic.Addiw = codes "addiw"
name_of (mnemonic.ShiftImm32 op) = shift32_name op
name_of (mnemonic.Op op) = reg_name op
name_of (mnemonic.Op32 op) = reg32_name op
name_of mnemonic.Fence = codes "fence"
name_of mnemonic.Ecall = codes "ecall"
name_of mnemonic.Ebreak = codes "ebreak"

-- what stands behind each name
unfoldable pub shape_of : Mnemonic → Shape
shape_of mnemonic.Lui = shape.Pair (field.Unsigned (2 ^ 20))
shape_of mnemonic.Auipc = shape.Pair (field.Unsigned (2 ^ 20))
shape_of mnemonic.Jal = shape.Pair (field.Offset (2 ^ 20))
shape_of mnemonic.Jalr = shape.Based
shape_of (mnemonic.Branch op) = shape.Triple (field.Offset (2 ^ 12))
shape_of (mnemonic.Load op) = shape.Based
shape_of (mnemonic.Store op) = shape.Based
shape_of (mnemonic.OpImm op) = shape.Triple (field.Signed (2 ^ 11))
shape_of (mnemonic.ShiftImm op) = shape.Triple (field.Unsigned (2 ^ 6))
shape_of mnemonic.Addiw = shape.Triple (field.Signed (2 ^ 11))
shape_of (mnemonic.ShiftImm32 op) = shape.Triple (field.Unsigned (2 ^ 5))
shape_of (mnemonic.Op op) = shape.Triple field.Register
shape_of (mnemonic.Op32 op) = shape.Triple field.Register
shape_of mnemonic.Fence = shape.Triple (field.Unsigned (2 ^ 12))
shape_of mnemonic.Ecall = shape.Empty
shape_of mnemonic.Ebreak = shape.Empty

-- the one that a text names
unfoldable pub named : List ℕ → Option Mnemonic
named text = find (λ m. bytes_eq (name_of m) text) MNEMONICS
