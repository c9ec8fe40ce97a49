-- Each name is of lower-case letters, and is found in the table.
use Rattle.std.proofs.Common.{◌≡◌, ℕ, Bool, true, false, ◌&&◌, List, [], ◌∷◌, refl, Some}
use Rattle.std.specs.Prelude.{nat_le}
use Rattle.rv_isa.specs.declared.instruction.BranchOp.{BranchOp}
use Rattle.rv_isa.specs.declared.instruction.BranchOp.TheVariants.{Beq, Bne, Blt, Bge, Bltu, Bgeu}
use Rattle.rv_isa.specs.declared.instruction.LoadOp.{LoadOp}
use Rattle.rv_isa.specs.declared.instruction.LoadOp.TheVariants.{Lb, Lh, Lw, Ld, Lbu, Lhu, Lwu}
use Rattle.rv_isa.specs.declared.instruction.StoreOp.{StoreOp}
use Rattle.rv_isa.specs.declared.instruction.StoreOp.TheVariants.{Sb, Sh, Sw, Sd}
use Rattle.rv_isa.specs.declared.instruction.ImmOp.{ImmOp}
use Rattle.rv_isa.specs.declared.instruction.ImmOp.TheVariants.{Addi, Slti, Sltiu, Xori, Ori, Andi}
use Rattle.rv_isa.specs.declared.instruction.ShiftOp.{ShiftOp}
use Rattle.rv_isa.specs.declared.instruction.ShiftOp.TheVariants.{Slli, Srli, Srai}
use Rattle.rv_isa.specs.declared.instruction.ShiftOp32.{ShiftOp32}
use Rattle.rv_isa.specs.declared.instruction.ShiftOp32.TheVariants.{Slliw, Srliw, Sraiw}
use Rattle.rv_isa.specs.declared.instruction.RegOp.{RegOp}
use Rattle.rv_isa.specs.declared.instruction.RegOp.TheVariants.{Add, Sub, Sll, Slt, Sltu, Xor, Srl, Sra, Or, And, Mul}
use Rattle.rv_isa.specs.declared.instruction.RegOp.TheVariants.{Mulh, Mulhsu, Mulhu, Div, Divu, Rem, Remu}
use Rattle.rv_isa.specs.declared.instruction.RegOp32.{RegOp32}
use Rattle.rv_isa.specs.declared.instruction.RegOp32.TheVariants.{Addw, Subw, Sllw, Srlw, Sraw, Mulw, Divw, Divuw, Remw, Remuw}
use Rattle.rv_listing.specs.declared.mnemonic.Mnemonic.{Mnemonic}
use Rattle.rv_listing.specs.declared.mnemonic.Mnemonic.TheVariants as mnemonic
use Rattle.rv_listing.specs.Names.{name_of, branch_name, load_name, store_name, imm_name, shift_name, shift32_name}
use Rattle.rv_listing.specs.Names.{reg_name, reg32_name, named}

-- some bytes, none below `a`
abbrev pub are_letters : List ℕ → Bool
are_letters [] = true
are_letters (c ∷ cs) = nat_le 97 c && are_letters cs

abbrev pub is_word : List ℕ → Bool
is_word [] = false
is_word (c ∷ cs) = are_letters (c ∷ cs)

pub record IsName (m : Mnemonic) : Type 0 where
  pub found : named (name_of m) ≡ Some m
  pub word : is_word (name_of m) ≡ true

branch_is : (op : BranchOp) → IsName (mnemonic.Branch op)
unfolding named name_of branch_name load_name store_name imm_name shift_name shift32_name reg_name reg32_name
branch_is Beq = record { found = refl; word = refl }
branch_is Bne = record { found = refl; word = refl }
branch_is Blt = record { found = refl; word = refl }
branch_is Bge = record { found = refl; word = refl }
branch_is Bltu = record { found = refl; word = refl }
branch_is Bgeu = record { found = refl; word = refl }

load_is : (op : LoadOp) → IsName (mnemonic.Load op)
unfolding named name_of branch_name load_name store_name imm_name shift_name shift32_name reg_name reg32_name
load_is Lb = record { found = refl; word = refl }
load_is Lh = record { found = refl; word = refl }
load_is Lw = record { found = refl; word = refl }
load_is Ld = record { found = refl; word = refl }
load_is Lbu = record { found = refl; word = refl }
load_is Lhu = record { found = refl; word = refl }
load_is Lwu = record { found = refl; word = refl }

store_is : (op : StoreOp) → IsName (mnemonic.Store op)
unfolding named name_of branch_name load_name store_name imm_name shift_name shift32_name reg_name reg32_name
store_is Sb = record { found = refl; word = refl }
store_is Sh = record { found = refl; word = refl }
store_is Sw = record { found = refl; word = refl }
store_is Sd = record { found = refl; word = refl }

imm_is : (op : ImmOp) → IsName (mnemonic.OpImm op)
unfolding named name_of branch_name load_name store_name imm_name shift_name shift32_name reg_name reg32_name
imm_is Addi = record { found = refl; word = refl }
imm_is Slti = record { found = refl; word = refl }
imm_is Sltiu = record { found = refl; word = refl }
imm_is Xori = record { found = refl; word = refl }
imm_is Ori = record { found = refl; word = refl }
imm_is Andi = record { found = refl; word = refl }

shift_is : (op : ShiftOp) → IsName (mnemonic.ShiftImm op)
unfolding named name_of branch_name load_name store_name imm_name shift_name shift32_name reg_name reg32_name
shift_is Slli = record { found = refl; word = refl }
shift_is Srli = record { found = refl; word = refl }
shift_is Srai = record { found = refl; word = refl }

shift32_is : (op : ShiftOp32) → IsName (mnemonic.ShiftImm32 op)
unfolding named name_of branch_name load_name store_name imm_name shift_name shift32_name reg_name reg32_name
shift32_is Slliw = record { found = refl; word = refl }
shift32_is Srliw = record { found = refl; word = refl }
shift32_is Sraiw = record { found = refl; word = refl }

reg_is : (op : RegOp) → IsName (mnemonic.Op op)
unfolding named name_of branch_name load_name store_name imm_name shift_name shift32_name reg_name reg32_name
reg_is Add = record { found = refl; word = refl }
reg_is Sub = record { found = refl; word = refl }
reg_is Sll = record { found = refl; word = refl }
reg_is Slt = record { found = refl; word = refl }
reg_is Sltu = record { found = refl; word = refl }
reg_is Xor = record { found = refl; word = refl }
reg_is Srl = record { found = refl; word = refl }
reg_is Sra = record { found = refl; word = refl }
reg_is Or = record { found = refl; word = refl }
reg_is And = record { found = refl; word = refl }
reg_is Mul = record { found = refl; word = refl }
reg_is Mulh = record { found = refl; word = refl }
reg_is Mulhsu = record { found = refl; word = refl }
reg_is Mulhu = record { found = refl; word = refl }
reg_is Div = record { found = refl; word = refl }
reg_is Divu = record { found = refl; word = refl }
reg_is Rem = record { found = refl; word = refl }
reg_is Remu = record { found = refl; word = refl }

reg32_is : (op : RegOp32) → IsName (mnemonic.Op32 op)
unfolding named name_of branch_name load_name store_name imm_name shift_name shift32_name reg_name reg32_name
reg32_is Addw = record { found = refl; word = refl }
reg32_is Subw = record { found = refl; word = refl }
reg32_is Sllw = record { found = refl; word = refl }
reg32_is Srlw = record { found = refl; word = refl }
reg32_is Sraw = record { found = refl; word = refl }
reg32_is Mulw = record { found = refl; word = refl }
reg32_is Divw = record { found = refl; word = refl }
reg32_is Divuw = record { found = refl; word = refl }
reg32_is Remw = record { found = refl; word = refl }
reg32_is Remuw = record { found = refl; word = refl }

pub is_name : (m : Mnemonic) → IsName m
unfolding named name_of branch_name load_name store_name imm_name shift_name shift32_name reg_name reg32_name
is_name mnemonic.Lui = record { found = refl; word = refl }
is_name mnemonic.Auipc = record { found = refl; word = refl }
is_name mnemonic.Jal = record { found = refl; word = refl }
is_name mnemonic.Jalr = record { found = refl; word = refl }
is_name (mnemonic.Branch op) = branch_is op
is_name (mnemonic.Load op) = load_is op
is_name (mnemonic.Store op) = store_is op
is_name (mnemonic.OpImm op) = imm_is op
is_name (mnemonic.ShiftImm op) = shift_is op
is_name mnemonic.Addiw = record { found = refl; word = refl }
is_name (mnemonic.ShiftImm32 op) = shift32_is op
is_name (mnemonic.Op op) = reg_is op
is_name (mnemonic.Op32 op) = reg32_is op
is_name mnemonic.Fence = record { found = refl; word = refl }
is_name mnemonic.Ecall = record { found = refl; word = refl }
is_name mnemonic.Ebreak = record { found = refl; word = refl }
