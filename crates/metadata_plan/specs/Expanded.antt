-- When a flat program is the expansion of a program in three-address code.
use Rattle.std.specs.Prelude.{◌≡◌, ℕ, ◌+◌, ◌-◌, ◌≤◌, List, [], ◌∷◌, length, Option, Some, None, true, false, slice_get}
use Rattle.addr_map.specs.declared.region.Region.TheVariants.{RuntimeCalls}
use Rattle.addr_map.specs.Places.{MapSizes, region_size}
use Rattle.tac_ir.specs.declared.instruction.Instruction.{Instruction}
use Rattle.tac_ir.specs.declared.function.CodeFunction.{CodeFunction}
use Rattle.tac_ir.specs.declared.function.Tac.{Tac}
use Rattle.tac_ir.specs.Edges.{successors}
use Rattle.flat_code.specs.declared.instruction.FlatInstruction.{FlatInstruction}
use Rattle.flat_code.specs.declared.instruction.FlatInstruction.TheVariants.{JumpForward, JumpBack}
use Rattle.flat_code.specs.declared.function.FlatFunction.{FlatFunction}
use Rattle.flat_code.specs.declared.function.FlatProgram.{FlatProgram}
use Rattle.flat_code.specs.Calls.{function_in}
use Rattle.flat_code.specs.Routines.Routine.{HasAt}
use Rattle.metadata_plan.specs.Registers.{words_in}
use Rattle.metadata_plan.specs.Operators.{OperatorCode}
use Rattle.metadata_plan.specs.Blocks.{block, prologue, entry_code}

-- code at a place leads to another: it is this one, or a jump there stands at the first
pub data Leads (body : List FlatInstruction) (place target : ℕ) : Type 0 where
  Falls : place ≡ target → Leads body place target
  Forward : (past : ℕ) → slice_get body place ≡ Some (JumpForward past) → place + 1 + past ≡ target
      → Leads body place target
  Back : (back : ℕ) → slice_get body place ≡ Some (JumpBack back) → place - back ≡ target → Leads body place target

-- Behind a block the code leads to the block of the node that comes next. Of two nodes the second stands behind the
-- block, and the first one instruction further on, to which the branch at its end leads.
abbrev pub LeadOn : (body : List FlatInstruction) → (address : ℕ → ℕ) → (place : ℕ) → (nodes : List ℕ) → Type 0
LeadOn body address pc [] = Unit {0}
LeadOn body address pc (n ∷ []) = Leads body pc (address n)
LeadOn body address pc (x ∷ y ∷ ns) = Leads body pc (address y) × Leads body (pc + 1) (address x)

-- the block of an instruction stands at a place
pub record IsPut (operators : OperatorCode) (map : MapSizes) (code : Tac) (function : CodeFunction)
    (body : List FlatInstruction)
    (address : ℕ → ℕ) (place : ℕ) (instruction : Instruction) : Type 0 where
  pub has : HasAt body place (block operators map code function instruction)
  pub leads : LeadOn body address (place + length (block operators map code function instruction))
      (successors instruction)

-- a function and its expansion, with the place of each node's block
pub record IsExpandedFunction (operators : OperatorCode) (map : MapSizes) (code : Tac) (function : CodeFunction)
    (address : ℕ → ℕ)
    (f : FlatFunction) : Type 0 where
  pub parameters : f.parameters ≡ words_in function.parameters
  pub results : f.results ≡ 1
  pub room : f.room ≡ function.room
  pub of_program : f.is_runtime ≡ false
  pub zeroed : HasAt f.body 0 (prologue function)
  pub begins : Leads f.body (length (prologue function)) (address function.entry)
  pub blocks : (n : ℕ) (i : Instruction) → slice_get function.code n ≡ Some i
      → IsPut operators map code function f.body address (address n) i

abbrev pub ExpandsAt : OperatorCode → MapSizes → Tac → CodeFunction → (address : ℕ → ℕ) → Option FlatFunction → Type 0
ExpandsAt o m t c address None = ⊥
ExpandsAt o m t c address (Some f) = IsExpandedFunction o m t c address f

-- the function with which a run begins is one of the runtime
pub record IsEntry (map : MapSizes) (code : Tac) (function : FlatFunction) : Type 0 where
  pub parameters : function.parameters ≡ 0
  pub of_runtime : function.is_runtime ≡ true
  pub room : function.room ≤ region_size map RuntimeCalls
  pub body : function.body ≡ entry_code map code

abbrev pub EntersAt : MapSizes → Tac → Option FlatFunction → Type 0
EntersAt m t None = ⊥
EntersAt m t (Some f) = IsEntry m t f

-- The functions of the text have their numbers. The address is the place of each node's block in its function.
pub record IsExpanded (operators : OperatorCode) (map : MapSizes) (code : Tac) (address : (function node : ℕ) → ℕ)
    (program : FlatProgram) : Type 0 where
  pub functions : (u : ℕ) (c : CodeFunction) → slice_get code.functions u ≡ Some c
      → ExpandsAt operators map code c (address u) (function_in program u)
  pub entry : EntersAt map code (function_in program program.entry)
