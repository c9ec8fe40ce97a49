-- Where a program begins on the machine, and when its image can.
use Rattle.std.specs.Prelude.{◌≡◌, ℕ, ◌<◌, ◌≤◌, true, false, List, [], ◌∷◌, ◌++◌, Some, replicate}
use Rattle.addr_map.specs.Places.{MapSizes, region_start, region_size}
use Rattle.addr_map.specs.declared.region.Region.TheVariants.{Arguments, Calls, RuntimeCalls}
use Rattle.rv_isa.specs.declared.instruction.Instr.{Instr}
use Rattle.rv_isa.specs.declared.instruction.Instr.TheVariants.{Jalr}
use Rattle.rv_sim.specs.State.{MachineState}
use Rattle.machine_laws.specs.View.Segments.{segments}
use Rattle.machine_laws.specs.View.Views.{Layout}
use Rattle.flat_code.specs.declared.function.FlatFunction.{FlatFunction}
use Rattle.flat_code.specs.declared.function.FlatProgram.{FlatProgram}
use Rattle.flat_code.specs.declared.instruction.FlatInstruction.TheVariants.{Turn}
use Rattle.flat_code.specs.Calls.{function_in, room_if}
use Rattle.flat_code.specs.Meaning.{instruction_at}
use Rattle.machine_laws.specs.Blocks.Places.{program_frame, argument_words, runtime_frame, callee_scratch}
use Rattle.machine_laws.specs.Blocks.Blocks.{wide}
use Rattle.machine_laws.specs.Calls.Table.{row_address}
use Rattle.machine_laws.specs.Following.Matching.{object_bytes, space_bytes}

-- the registers of the back end, and the call of the entry
abbrev pub start_block : MapSizes → FlatProgram → List Instr
start_block m p =
    wide program_frame (region_start m Calls)
    ++ (wide argument_words (region_start m Arguments)
    ++ (wide runtime_frame (region_start m RuntimeCalls)
    ++ (wide callee_scratch (row_address p p.entry) ++ (Jalr 1 callee_scratch 0 ∷ []))))

-- The entry takes no arguments, its activation record fits, and it begins with three turns: they count as much as the
-- instructions take that are done before the first of the entry.
pub record IsStartable (map : MapSizes) (program : FlatProgram) : Type 0 where
  pub function : FlatFunction
  pub there : function_in program program.entry ≡ Some function
  pub takes_nothing : function.parameters ≡ 0
  pub turns : (k : ℕ) → k < 3 → instruction_at program program.entry k ≡ Some Turn
  pub program_fits : room_if false (function_in program program.entry) ≤ map.budgets.calls
  pub runtime_fits : room_if true (function_in program program.entry) ≤ region_size map RuntimeCalls

-- the segments of a program with these two lists of code
abbrev pub layout_of : MapSizes → (table code : List ℕ) → Layout
layout_of m table code = record {
  table = table;
  code = code;
  object_bytes = object_bytes m;
  space_bytes = space_bytes m;
}

-- the machine at the first instruction, every register zero
abbrev pub begins : (start : ℕ) → (table code objects spaces : List ℕ) → MachineState
begins start table code objects spaces = record {
  pc = start;
  registers = replicate 32 0;
  memory = segments table code objects spaces;
}
