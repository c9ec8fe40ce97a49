-- One instruction of the machine, up to the environment. A step that is not done leaves the state as it was.
use Rattle.std.specs.Prelude.{ℕ, ◌+◌, ◌*◌, ◌/◌, ◌%◌, ◌^◌, Bool, ◌==◌, if◌then◌else◌, List, Option, Some, None, ◌≡◌}
use Rattle.rv_isa.specs.declared.instruction.LoadOp.{LoadOp}
use Rattle.rv_isa.specs.declared.instruction.StoreOp.{StoreOp}
use Rattle.rv_isa.specs.declared.instruction.Instr.{Instr}
use Rattle.rv_isa.specs.declared.instruction.Instr.TheVariants.{Lui, Auipc, Jal, Jalr, Branch, Load, Store, OpImm}
use Rattle.rv_isa.specs.declared.instruction.Instr.TheVariants.{ShiftImm, Addiw, ShiftImm32, Op, Op32, Fence, Ecall}
use Rattle.rv_isa.specs.declared.instruction.Instr.TheVariants.{Ebreak}
use Rattle.rv_isa.specs.Decoding.{decoded}
use Rattle.rv_isa.specs.Word.{sext}
use Rattle.rv_isa.specs.Results.{load_bytes, extended, store_bytes}
use Rattle.rv_sim.specs.declared.trap.TrapKind.{TrapKind}
use Rattle.rv_sim.specs.declared.trap.TrapKind.TheVariants.{Illegal, Access, Jump, Break}
use Rattle.rv_sim.specs.declared.trap.Action.{Action}
use Rattle.rv_sim.specs.declared.trap.Action.TheVariants.{Done, Ask, Refuse}
use Rattle.rv_sim.specs.Memory.{SegmentState, load, fetch, store}
use Rattle.rv_sim.specs.State.{MachineState, register, with_register}
use Rattle.rv_isa.specs.Results.{wrap, low_word, branch_taken, imm_result, shift_result, shift32_result, reg_result}
use Rattle.rv_isa.specs.Results.{reg32_result}

-- the state after it, and what the step comes to
abbrev pub Stepped : Type 0
Stepped = MachineState × Action

abbrev pub refused : MachineState → TrapKind → Stepped
refused s kind = (s, Refuse kind)

-- the address behind this instruction
abbrev pub next_pc : MachineState → ℕ
next_pc s = wrap (s.pc + 4)

-- v goes to rd
unfoldable pub gives : MachineState → ℕ → ℕ → Stepped
gives s rd v = (record s { pc = next_pc s; registers = with_register s.registers rd v }, Done)

-- nothing but the program counter changes
unfoldable pub passes : MachineState → Stepped
passes s = (record s { pc = next_pc s }, Done)

-- a jump that links: a target that is no multiple of 4 is refused ("instruction-address-misaligned")
unfoldable pub jumps : MachineState → ℕ → ℕ → Stepped
jumps s rd target =
    if target % 4 == 0
    then (record s { pc = target; registers = with_register s.registers rd (next_pc s) }, Done)
    else refused s Jump

-- the target of a branch that is not taken does not matter
unfoldable pub branches : MachineState → Bool → ℕ → Stepped
branches s taken target =
    if taken then (if target % 4 == 0 then (record s { pc = target }, Done) else refused s Jump) else passes s

abbrev pub loaded : MachineState → LoadOp → ℕ → Option ℕ → Stepped
loaded s op rd None = refused s Access
loaded s op rd (Some n) = gives s rd (extended op n)

unfoldable pub loads : MachineState → LoadOp → ℕ → ℕ → Stepped
loads s op rd a = loaded s op rd (load s.memory a (load_bytes op))

abbrev pub stored : MachineState → Option (List SegmentState) → Stepped
stored s None = refused s Access
stored s (Some memory) = (record s { pc = next_pc s; memory = memory }, Done)

unfoldable pub stores : MachineState → StoreOp → ℕ → ℕ → Stepped
stores s op a v = stored s (store s.memory a (store_bytes op) v)

-- the address of a load, of a store and of JALR, and of what stands so far from this instruction
abbrev pub address_of : MachineState → ℕ → ℕ → ℕ
address_of s rs1 imm = wrap (register s rs1 + sext 12 imm)

abbrev pub from_pc : MachineState → ℕ → ℕ
from_pc s distance = wrap (s.pc + distance)

-- what each instruction does
unfoldable pub executes : Instr → MachineState → Stepped
executes (Lui rd imm) s = gives s rd (sext 32 (imm * 2 ^ 12))
executes (Auipc rd imm) s = gives s rd (from_pc s (sext 32 (imm * 2 ^ 12)))
executes (Jal rd imm) s = jumps s rd (from_pc s (sext 21 imm))
executes (Jalr rd rs1 imm) s = jumps s rd (address_of s rs1 imm / 2 * 2)
executes (Branch op rs1 rs2 imm) s = branches s (branch_taken op (register s rs1) (register s rs2))
    (from_pc s (sext 13 imm))
executes (Load op rd rs1 imm) s = loads s op rd (address_of s rs1 imm)
executes (Store op rs1 rs2 imm) s = stores s op (address_of s rs1 imm) (register s rs2)
executes (OpImm op rd rs1 imm) s = gives s rd (imm_result op (register s rs1) (sext 12 imm))
executes (ShiftImm op rd rs1 shamt) s = gives s rd (shift_result op (register s rs1) shamt)
executes (Addiw rd rs1 imm) s = gives s rd (sext 32 (low_word (register s rs1 + sext 12 imm)))
executes (ShiftImm32 op rd rs1 shamt) s = gives s rd (shift32_result op (low_word (register s rs1)) shamt)
executes (Op op rd rs1 rs2) s = gives s rd (reg_result op (register s rs1) (register s rs2))
executes (Op32 op rd rs1 rs2) s = gives s rd (reg32_result op (low_word (register s rs1)) (low_word (register s rs2)))
executes (Fence rd rs1 fields) s = passes s
executes Ecall s = (s, Ask)
executes Ebreak s = refused s Break

-- a word that is no instruction is refused ("illegal-instruction"), and so is a fetch
abbrev pub executes_decoded : MachineState → Option Instr → Stepped
executes_decoded s None = refused s Illegal
executes_decoded s (Some i) = executes i s

abbrev pub executes_word : MachineState → Option ℕ → Stepped
executes_word s None = refused s Access
executes_word s (Some word) = executes_decoded s (decoded word)

-- the step of the instruction at pc
unfoldable pub step : MachineState → Stepped
step s = executes_word s (fetch s.memory s.pc)

-- a step that is not done leaves the state
abbrev pub KeepsUnlessDone : Action → MachineState → MachineState → Type 0
KeepsUnlessDone Done old new = Unit {0}
KeepsUnlessDone Ask old new = new ≡ old
KeepsUnlessDone (Refuse kind) old new = new ≡ old
