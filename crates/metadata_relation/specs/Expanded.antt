-- When a flat program is the expansion of any program in three-address code.
use Rattle.std.specs.Prelude.{◌≡◌, ℕ, ◌+◌, ◌^◌, ◌≤◌, List, length, Option, Some, None, true, false, slice_get}
use Rattle.addr_map.specs.declared.region.Region.TheVariants.{RuntimeCalls}
use Rattle.addr_map.specs.Places.{MapSizes, region_size}
use Rattle.tac_ir.specs.declared.instruction.Instruction.{Instruction}
use Rattle.tac_ir.specs.declared.function.CodeFunction.{CodeFunction}
use Rattle.tac_ir.specs.Edges.{successors}
use Rattle.flat_code.specs.declared.instruction.FlatInstruction.{FlatInstruction}
use Rattle.flat_code.specs.declared.function.FlatFunction.{FlatFunction}
use Rattle.flat_code.specs.Calls.{function_in}
use Rattle.flat_code.specs.Memory.{Bytes}
use Rattle.flat_code.specs.Routines.Metadata.{View}
use Rattle.flat_code.specs.Routines.Routine.{HasAt}
use Rattle.runtime_functions.specs.declared.runtime.RuntimeFunction.{RuntimeFunction}
use Rattle.runtime_functions.specs.Runtime.{runtime_list, IsOfRuntime}
use Rattle.metadata_plan.specs.Entries.{AreAllClosed}
use Rattle.metadata_plan.specs.Expanded.{Leads, LeadOn}
use Rattle.metadata_relation.specs.Contents.{AreKept}
use Rattle.metadata_relation.specs.FunctionTypes.{HaveTypeKeys}
use Rattle.metadata_relation.specs.Registers.{parameters_end, result_words}
use Rattle.metadata_relation.specs.Blocks.{Expansion, block, prologue, entry_code, result_of, runtime_number}
use Rattle.metadata_relation.specs.Waiting.{Layout}

-- the block of an instruction stands at a place
pub record IsPut (e : Expansion) (function : ℕ) (c : CodeFunction) (body : List FlatInstruction) (address : ℕ → ℕ)
    (place : ℕ) (instruction : Instruction) : Type 0 where
  pub has : HasAt body place (block e function c instruction)
  pub leads : LeadOn body address (place + length (block e function c instruction)) (successors instruction)

-- a function and its expansion, with the place of each node's block
pub record IsExpandedFunction (e : Expansion) (function : ℕ) (c : CodeFunction) (address : ℕ → ℕ) (f : FlatFunction)
    : Type 0 where
  pub parameters : f.parameters ≡ parameters_end c
  pub results : f.results ≡ result_words (result_of e.code c)
  pub room : f.room ≡ c.room
  pub of_program : f.is_runtime ≡ false
  pub begun : HasAt f.body 0 (prologue e c)
  pub begins : Leads f.body (length (prologue e c)) (address c.entry)
  pub blocks : (n : ℕ) (i : Instruction) → slice_get c.code n ≡ Some i → IsPut e function c f.body address (address n) i

abbrev pub ExpandsAt : Expansion → (function : ℕ) → CodeFunction → (address : ℕ → ℕ) → Option FlatFunction → Type 0
ExpandsAt e u c address None = ⊥
ExpandsAt e u c address (Some f) = IsExpandedFunction e u c address f

-- a function of the runtime has its number
abbrev pub IsRuntimeAt : MapSizes → View → (Bytes → Type 0) → RuntimeFunction → Option FlatFunction → Type 0
IsRuntimeAt m entry IsGood f None = ⊥
IsRuntimeAt m entry IsGood f (Some function) =
    IsOfRuntime m entry IsGood f function × (function.room ≤ region_size m RuntimeCalls)

-- the function with which a run begins is one of the runtime; its record and any other of the runtime fit into their region
pub record IsEntry (e : Expansion) (f : FlatFunction) : Type 0 where
  pub parameters : f.parameters ≡ 0
  pub of_runtime : f.is_runtime ≡ true
  pub room : f.room + 2 ^ 11 ≤ region_size e.map RuntimeCalls
  pub body : f.body ≡ entry_code e.map e.code

abbrev pub EntersAt : Expansion → Option FlatFunction → Type 0
EntersAt e None = ⊥
EntersAt e (Some f) = IsEntry e f

-- The functions of the text have their numbers, and those of the runtime stand behind them. Pointers to functions tell
-- their types by their keys.
pub record IsExpanded (l : Layout) (entry : View) (IsGood : Bytes → Type 0) : Type 0 where
  pub functions : (u : ℕ) (c : CodeFunction) → slice_get l.expansion.code.functions u ≡ Some c
      → ExpandsAt l.expansion u c (l.address u) (function_in l.program u)
  pub runtime : (k : ℕ) (f : RuntimeFunction) → slice_get runtime_list k ≡ Some f
      → IsRuntimeAt l.expansion.map entry IsGood f (function_in l.program (runtime_number l.expansion.code k))
  pub enters : EntersAt l.expansion (function_in l.program l.program.entry)
  pub types : HaveTypeKeys l.expansion.code.functions l.expansion.types
  pub closed : AreAllClosed l.expansion.code l.expansion.entries
  pub kept : (u : ℕ) (c : CodeFunction) → slice_get l.expansion.code.functions u ≡ Some c
      → AreKept l.expansion.code c (l.expansion.contents u)
