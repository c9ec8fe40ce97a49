-- The accesses of objects that compiled code makes, by the regions of a compiled program's memory.
use Rattle.std.specs.Prelude.{ℕ, if◌then◌else◌, List, [], ◌∷◌, Option, Some, None}
use Rattle.addr_map.specs.Places.{is_code_address, is_object_address}
use Rattle.behaviours.specs.Shown.{Access, Read, Write}
use Rattle.rv_isa.specs.declared.instruction.Instr.{Instr}
use Rattle.rv_isa.specs.declared.instruction.Instr.TheVariants.{Lui, Auipc, Jal, Jalr, Branch, Load, Store, OpImm}
use Rattle.rv_isa.specs.declared.instruction.Instr.TheVariants.{ShiftImm, Addiw, ShiftImm32, Op, Op32, Fence, Ecall}
use Rattle.rv_isa.specs.declared.instruction.Instr.TheVariants.{Ebreak}
use Rattle.rv_isa.specs.Decoding.{decoded}
use Rattle.rv_sim.specs.Memory.{◌>>=◌, fetch}
use Rattle.rv_sim.specs.State.{MachineState}
use Rattle.rv_sim.specs.Step.{address_of}
use Rattle.rv_isa.specs.Results.{load_bytes, store_bytes}

-- the load or store that an instruction makes in this state
abbrev pub access_of : Instr → MachineState → Option Access
access_of (Load op rd rs1 imm) s = Some record { address = address_of s rs1 imm; size = load_bytes op; kind = Read }
access_of (Store op rs1 rs2 imm) s = Some record { address = address_of s rs1 imm; size = store_bytes op; kind = Write }
access_of (Lui rd imm) s = None
access_of (Auipc rd imm) s = None
access_of (Jal rd imm) s = None
access_of (Jalr rd rs1 imm) s = None
access_of (Branch op rs1 rs2 imm) s = None
access_of (OpImm op rd rs1 imm) s = None
access_of (ShiftImm op rd rs1 shamt) s = None
access_of (Addiw rd rs1 imm) s = None
access_of (ShiftImm32 op rd rs1 shamt) s = None
access_of (Op op rd rs1 rs2) s = None
access_of (Op32 op rd rs1 rs2) s = None
access_of (Fence rd rs1 fields) s = None
access_of Ecall s = None
access_of Ebreak s = None

-- that of the instruction at pc
unfoldable pub next_access : MachineState → Option Access
next_access s = fetch s.memory s.pc >>= λ word. decoded word >>= λ i. access_of i s

-- an access, where it is one of objects
abbrev pub objects_only : Option Access → List Access
objects_only None = []
objects_only (Some a) = if is_object_address a.address then a ∷ [] else []

-- the access of objects that the instruction at pc makes, where it is of the compiled code and can be done
unfoldable pub object_access : MachineState → List Access
object_access s = if is_code_address s.pc then objects_only (next_access s) else []
