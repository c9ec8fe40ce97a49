-- What is seen of a machine: registers and memory as functions, and the accesses so far; and what an instruction that
-- goes on to the next does to it.
use Rattle.std.specs.Prelude.{◌≡◌, ℕ, zero, suc, ◌+◌, ◌*◌, ◌^◌, ◌<◌, ◌≤◌, ◌==◌, if◌then◌else◌, List, [], ◌∷◌, ◌++◌}
use Rattle.std.specs.Prelude.{length, Bool, Option, Some, None}
use Rattle.addr_map.specs.Places.{functions_begin, code_begin, objects_begin, spaces_begin, is_code_address}
use Rattle.behaviours.specs.Shown.{Access, Read, Write}
use Rattle.rv_isa.specs.declared.instruction.Instr.{Instr}
use Rattle.rv_isa.specs.declared.instruction.Instr.TheVariants.{Lui, Auipc, Jal, Jalr, Branch, Load, Store, OpImm}
use Rattle.rv_isa.specs.declared.instruction.Instr.TheVariants.{ShiftImm}
use Rattle.rv_isa.specs.declared.instruction.Instr.TheVariants.{Addiw, ShiftImm32, Op, Op32, Fence, Ecall, Ebreak}
use Rattle.rv_isa.specs.Table.{word_of, IsOfTable}
use Rattle.rv_isa.specs.Word.{sext}
use Rattle.rv_isa.specs.Results.{wrap, low_word, imm_result, shift_result, shift32_result, reg_result, reg32_result}
use Rattle.rv_isa.specs.Results.{load_bytes, extended, store_bytes}
use Rattle.flat_code.specs.Memory.{Bytes, put, load, store}
use Rattle.rv_sim.specs.Memory.{fetch}
use Rattle.rv_sim.specs.State.{register}
use Rattle.rv_sim.specs.Run.{Configuration}
use Rattle.rv_sim.specs.Accesses.{objects_only}
use Rattle.machine_laws.specs.View.Segments.{segments, AreApart, Hold, IsOfData}

pub record View : Type 0 where
  pub pc : ℕ
  pub registers : ℕ → ℕ
  pub memory : Bytes
  pub accesses : List Access

-- x0 stays zero
abbrev pub with_value : (ℕ → ℕ) → (register value : ℕ) → ℕ → ℕ
with_value x r v = if r == 0 then x else put x r v

abbrev pub gets : View → (register value : ℕ) → View
gets v rd n = record v { pc = v.pc + 4; registers = with_value v.registers rd n }

-- a jump that links, and a branch
abbrev pub links : View → (register target : ℕ) → View
links v rd target = record v { pc = target; registers = with_value v.registers rd (v.pc + 4) }

abbrev pub branches : View → (taken : Bool) → (target : ℕ) → View
branches v taken target = record v { pc = if taken then target else v.pc + 4 }

abbrev pub address_in : View → (register imm : ℕ) → ℕ
address_in v rs1 imm = wrap (v.registers rs1 + sext 12 imm)

-- the load or store that an instruction makes
abbrev pub access_in : Instr → View → Option Access
access_in (Load op rd rs1 imm) v = Some record { address = address_in v rs1 imm; size = load_bytes op; kind = Read }
access_in (Store op rs1 rs2 imm) v = Some record { address = address_in v rs1 imm; size = store_bytes op; kind = Write }
access_in i v = None

-- what it does but for its access
abbrev pub performed : Instr → View → View
performed (Lui rd imm) v = gets v rd (sext 32 (imm * 2 ^ 12))
performed (Auipc rd imm) v = gets v rd (wrap (v.pc + sext 32 (imm * 2 ^ 12)))
performed (Load op rd rs1 imm) v = gets v rd (extended op (load (load_bytes op) v.memory (address_in v rs1 imm)))
performed (Store op rs1 rs2 imm) v =
    record v { pc = v.pc + 4; memory = store (store_bytes op) v.memory (address_in v rs1 imm) (v.registers rs2) }
performed (OpImm op rd rs1 imm) v = gets v rd (imm_result op (v.registers rs1) (sext 12 imm))
performed (ShiftImm op rd rs1 shamt) v = gets v rd (shift_result op (v.registers rs1) shamt)
performed (Addiw rd rs1 imm) v = gets v rd (sext 32 (low_word (v.registers rs1 + sext 12 imm)))
performed (ShiftImm32 op rd rs1 shamt) v = gets v rd (shift32_result op (low_word (v.registers rs1)) shamt)
performed (Op op rd rs1 rs2) v = gets v rd (reg_result op (v.registers rs1) (v.registers rs2))
performed (Op32 op rd rs1 rs2) v = gets v rd (reg32_result op (low_word (v.registers rs1)) (low_word (v.registers rs2)))
performed (Fence rd rs1 fields) v = record v { pc = v.pc + 4 }
performed i v = v

-- an access of objects is one by an instruction of compiled code
abbrev pub accesses_by : (pc : ℕ) → Option Access → List Access
accesses_by pc o = if is_code_address pc then objects_only o else []

abbrev pub perform : Instr → View → View
perform i v = record (performed i v) { accesses = v.accesses ++ accesses_by v.pc (access_in i v) }

abbrev pub performs : List Instr → View → View
performs [] v = v
performs (i ∷ is) v = performs is (perform i v)

-- An instruction goes on to the next, and its access, if it makes one, is of the data.
abbrev pub GoesOn : (object_bytes space_bytes : ℕ) → Instr → View → Type 0
GoesOn o s (Load op rd rs1 imm) v = IsOfData o s (address_in v rs1 imm) (load_bytes op)
GoesOn o s (Store op rs1 rs2 imm) v = IsOfData o s (address_in v rs1 imm) (store_bytes op)
GoesOn o s (Jal rd imm) v = ⊥
GoesOn o s (Jalr rd rs1 imm) v = ⊥
GoesOn o s (Branch op rs1 rs2 imm) v = ⊥
GoesOn o s Ecall v = ⊥
GoesOn o s Ebreak v = ⊥
GoesOn o s i v = Unit {0}

abbrev pub AllGoOn : (object_bytes space_bytes : ℕ) → List Instr → View → Type 0
AllGoOn o s [] v = Unit {0}
AllGoOn o s (i ∷ is) v = GoesOn o s i v × AllGoOn o s is (perform i v)

-- the bytes of the segments of a program
pub record Layout : Type 0 where
  pub table : List ℕ
  pub code : List ℕ
  pub object_bytes : ℕ
  pub space_bytes : ℕ

pub record Fits (layout : Layout) : Type 0 where
  pub table_fits : functions_begin + length layout.table ≤ code_begin
  pub code_fits : code_begin + length layout.code ≤ objects_begin
  pub objects_fit : objects_begin + layout.object_bytes ≤ spaces_begin
  pub spaces_fit : spaces_begin + layout.space_bytes ≤ 2 ^ 63

-- an instruction stands at an address of the code, whatever the data is
pub record StandsAt (layout : Layout) (pc : ℕ) (instruction : Instr) : Type 0 where
  pub of_table : IsOfTable instruction
  pub small : pc + 4 < 2 ^ 64
  pub fetched : (objects spaces : List ℕ) → AreApart layout.table layout.code objects spaces
      → fetch (segments layout.table layout.code objects spaces) pc ≡ Some (word_of instruction)

abbrev pub AllStand : Layout → (pc : ℕ) → List Instr → Type 0
AllStand l pc [] = Unit {0}
AllStand l pc (i ∷ is) = StandsAt l pc i × AllStand l (pc + 4) is

-- the machine is what the view shows
pub record Shows (layout : Layout) (machine : Configuration) (view : View) : Type 0 where
  pub objects : List ℕ
  pub spaces : List ℕ
  pub memory_is : machine.state.memory ≡ segments layout.table layout.code objects spaces
  pub hold : Hold layout.object_bytes layout.space_bytes view.memory objects spaces
  pub pc_is : machine.state.pc ≡ view.pc
  pub count : length machine.state.registers ≡ 32
  pub registers_are : (r : ℕ) → r < 32 → register machine.state r ≡ view.registers r
  pub accesses_are : machine.accesses ≡ view.accesses

-- input and output stay
pub record StaysOutside (before after : Configuration) : Type 0 where
  pub input : after.input ≡ before.input
  pub output : after.output ≡ before.output
  pub errors : after.errors ≡ before.errors
  pub taken : after.taken ≡ before.taken

-- so many bytes of a memory from an address on
abbrev pub bytes_from : Bytes → (address size : ℕ) → List ℕ
bytes_from m a zero = []
bytes_from m a (suc n) = m a ∷ bytes_from m (suc a) n

-- bytes went to the output, and what else is outside stays
pub record Sends (before after : Configuration) (bytes : List ℕ) : Type 0 where
  pub output : after.output ≡ before.output ++ bytes
  pub input : after.input ≡ before.input
  pub errors : after.errors ≡ before.errors
  pub taken : after.taken ≡ before.taken

-- the same of the error output
pub record SendsErrors (before after : Configuration) (bytes : List ℕ) : Type 0 where
  pub errors : after.errors ≡ before.errors ++ bytes
  pub output : after.output ≡ before.output
  pub input : after.input ≡ before.input
  pub taken : after.taken ≡ before.taken

-- a byte of the input was taken, and what else is outside stays
pub record Takes (before after : Configuration) (rest : List ℕ) : Type 0 where
  pub input : after.input ≡ rest
  pub taken : after.taken ≡ before.taken + 1
  pub output : after.output ≡ before.output
  pub errors : after.errors ≡ before.errors
