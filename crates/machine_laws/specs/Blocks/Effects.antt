-- What lists of instructions do to the machine, as functions of registers and memory.
use Rattle.std.specs.Prelude.{◌≡◌, ◌≢◌, ℕ, ◌+◌, ◌-◌, ◌*◌, ◌^◌, ◌<◌, ◌≤◌, ◌⊎◌, List, length}
use Rattle.behaviours.specs.Shown.{Access}
use Rattle.addr_map.specs.Places.{spaces_begin}
use Rattle.rv_isa.specs.declared.instruction.Instr.{Instr}
use Rattle.flat_code.specs.declared.instruction.RightOperand.{RightOperand}
use Rattle.flat_code.specs.declared.instruction.RightOperand.TheVariants as right
use Rattle.flat_code.specs.Memory.{Bytes, load, KeepsBut}
use Rattle.flat_code.specs.State.{Values}
use Rattle.machine_laws.specs.View.Views.{View, performs, AllGoOn}
use Rattle.machine_laws.specs.declared.location.Location.{Location}
use Rattle.machine_laws.specs.declared.location.Location.TheVariants.{Register, Frame}

-- a register that the plans give out: none that the back end keeps for itself or an environment call needs
pub record IsSaved (r : ℕ) : Type 0 where
  pub low : 8 ≤ r
  pub high : r < 27
  pub gap : (r < 10) ⊎ (18 ≤ r)
  pub a0 : r ≢ 10
  pub a1 : r ≢ 11
  pub a2 : r ≢ 12
  pub a7 : r ≢ 17

-- a place of an activation record of so many bytes, behind its first word
abbrev pub IsIn : (room : ℕ) → Location → Type 0
IsIn room (Register r) = IsSaved r
IsIn room (Frame o) = (8 ≤ o) × (o + 8 ≤ room)

-- two places that have nothing in common
abbrev pub AreApart : Location → Location → Type 0
AreApart (Register a) (Register b) = a ≢ b
AreApart (Register a) (Frame b) = Unit {0}
AreApart (Frame a) (Register b) = Unit {0}
AreApart (Frame a) (Frame b) = (a + 8 ≤ b) ⊎ (b + 8 ≤ a)

-- what is kept in a place of the activation record that begins at an address
abbrev pub kept : (frame : ℕ) → View → Location → ℕ
kept fp v (Register r) = v.registers r
kept fp v (Frame o) = load 8 v.memory (fp + o)

-- the same of a right operand: it is a number, or kept in a place of the record and has its value there
abbrev pub RightIsIn : (room : ℕ) → (place : ℕ → Location) → RightOperand → Type 0
RightIsIn room place (right.Register z) = IsIn room (place z)
RightIsIn room place (right.Number n) = Unit {0}

-- a register that is none of those for results, operands and addresses
abbrev pub IsNoScratch : (register : ℕ) → Type 0
IsNoScratch r = (r ≢ 5) × (r ≢ 6) × (r ≢ 7)

abbrev pub RightIsKept : (frame : ℕ) → (place : ℕ → Location) → View → RightOperand → Values → Type 0
RightIsKept fp place v (right.Register z) values = kept fp v (place z) ≡ values z
RightIsKept fp place v (right.Number n) values = Unit {0}

-- so many bytes from an address on lie in the runtime's spaces
pub record IsOfSpaces (space_bytes address size : ℕ) : Type 0 where
  pub low : spaces_begin ≤ address
  pub high : address + size ≤ spaces_begin + space_bytes
  pub small : spaces_begin + space_bytes < 2 ^ 31 - 2 ^ 11

-- what all of the following say: the instructions go on, one after another, to what stands behind them
module _ (object_bytes space_bytes : ℕ) where
  -- they put a number into one register, and change nothing else
  pub record Gives (is : List Instr) (v : View) (rd n : ℕ) : Type 0 where
    pub go : AllGoOn object_bytes space_bytes is v
    pub pc : (performs is v).pc ≡ v.pc + 4 * length is
    pub value : (performs is v).registers rd ≡ n
    pub others : (r : ℕ) → r ≢ rd → (performs is v).registers r ≡ v.registers r
    pub memory : (performs is v).memory ≡ v.memory
    pub accesses : (performs is v).accesses ≡ v.accesses

  -- they change scratch registers alone
  pub record Readies (is : List Instr) (v : View) : Type 0 where
    pub go : AllGoOn object_bytes space_bytes is v
    pub pc : (performs is v).pc ≡ v.pc + 4 * length is
    pub others : (r : ℕ) → IsNoScratch r → (performs is v).registers r ≡ v.registers r
    pub memory : (performs is v).memory ≡ v.memory
    pub accesses : (performs is v).accesses ≡ v.accesses

  -- they put a number into one register, make these accesses, and change no other register but scratch registers
  pub record Computes (is : List Instr) (v : View) (rd n : ℕ) (accesses : List Access) : Type 0 where
    pub go : AllGoOn object_bytes space_bytes is v
    pub pc : (performs is v).pc ≡ v.pc + 4 * length is
    pub value : (performs is v).registers rd ≡ n
    pub others : (r : ℕ) → r ≢ rd → IsNoScratch r → (performs is v).registers r ≡ v.registers r
    pub memory : (performs is v).memory ≡ v.memory
    pub accesses_are : (performs is v).accesses ≡ accesses

  -- they put a word into memory, and change no other memory and no register but the one for addresses
  pub record Stores (is : List Instr) (v : View) (memory : Bytes) : Type 0 where
    pub go : AllGoOn object_bytes space_bytes is v
    pub pc : (performs is v).pc ≡ v.pc + 4 * length is
    pub others : (r : ℕ) → r ≢ 7 → (performs is v).registers r ≡ v.registers r
    pub memory_is : (performs is v).memory ≡ memory
    pub accesses : (performs is v).accesses ≡ v.accesses

  -- they put a number into a place of the activation record, and change no other place, none of the first registers,
  -- and no memory outside the record's homes
  pub record Puts (fp room : ℕ) (is : List Instr) (v : View) (x : Location) (n : ℕ) (accesses : List Access) : Type
      0 where
    pub go : AllGoOn object_bytes space_bytes is v
    pub pc : (performs is v).pc ≡ v.pc + 4 * length is
    pub value : kept fp (performs is v) x ≡ n
    pub others : (y : Location) → IsIn room y → AreApart y x → kept fp (performs is v) y ≡ kept fp v y
    pub low : (r : ℕ) → r < 5 → (performs is v).registers r ≡ v.registers r
    pub memory : KeepsBut (fp + 8) (room - 8) v.memory (performs is v).memory
    pub accesses_are : (performs is v).accesses ≡ accesses

-- the register of an activation record has its first address, and the record lies in the runtime's spaces; it is none
-- of those for operands and results
pub record HasFrame (space_bytes base fp room : ℕ) (view : View) : Type 0 where
  pub is : view.registers base ≡ fp
  pub base_low : 0 < base
  pub base_high : base < 5
  pub low : spaces_begin ≤ fp
  pub high : fp + room ≤ spaces_begin + space_bytes
  pub small : spaces_begin + space_bytes < 2 ^ 31 - 2 ^ 11
