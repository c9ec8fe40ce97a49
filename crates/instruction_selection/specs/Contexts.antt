-- What the flat code of the instructions of a function is made from.
use Rattle.std.specs.Prelude.{◌≡◌, ℕ, ◌^◌, ◌<◌, ◌≤◌, get_or, length, Some, slice_get}
use Rattle.c_tree.specs.Kinds.{size_of_kind}
use Rattle.c_tree.specs.Valid.{at_number}
use Rattle.tac_ir.specs.declared.function.CodeFunction.{CodeFunction}
use Rattle.tac_ir.specs.Meaning.{objects_in}
use Rattle.lib_wrappers.specs.AllocatingRoutines.Entering.{block_bytes}
use Rattle.metadata_plan.specs.Registers.{all_variables}
use Rattle.metadata_relation.specs.Registers.{parameter_words, total}
use Rattle.metadata_relation.specs.Blocks.{objects_of_body}
use Rattle.instruction_selection.specs.declared.context.FunctionContext.{FunctionContext}
use Rattle.instruction_selection.specs.Areas.{HasTable}
use Rattle.instruction_selection.specs.Blocks.{AreObjectsAmong}
use Rattle.instruction_selection.specs.Registers.{AreRegisters}
use Rattle.instruction_selection.specs.Statics.{AreStaticPlaces}

-- the numbers of the registers are those of the function
abbrev pub HasRegisters : FunctionContext → Type 0
HasRegisters x = AreRegisters x.registers.now x.function.now

-- static objects stand where the table says
abbrev pub HasStatics : FunctionContext → Type 0
HasStatics x = AreStaticPlaces x.map.now x.program.now x.statics.now

-- what the key of a pointer to a function tells of its type, by the number of the function
abbrev pub type_at : FunctionContext → (function : ℕ) → ℕ
type_at x f = get_or x.types.now f 0

-- bytes of objects, and registers of arguments, whose sums do not wrap
pub record CanBeCalled (function : CodeFunction) : Type 0 where
  pub bytes : block_bytes (objects_of_body function) ≤ 2 ^ 62
  pub words : total parameter_words function.parameters < 2 ^ 31

-- All of this; functions have addresses in the jump table; the objects that a block or the body declares are objects of the
-- function; and a table tells where its areas are.
pub record IsPrepared (context : FunctionContext) : Type 0 where
  pub registers : HasRegisters context
  pub statics : HasStatics context
  pub types : (f : ℕ) → type_at context f < 2 ^ 63
  pub few : length context.program.now.functions ≤ 2 ^ 12
  pub callees : (f : ℕ) (c : CodeFunction) → slice_get context.program.now.functions f ≡ Some c → CanBeCalled c
  pub variables : length (all_variables context.function.now) < 2 ^ 64
  pub body : block_bytes (objects_of_body context.function.now) ≤ 2 ^ 62
  pub among : AreObjectsAmong (all_variables context.function.now) (objects_of_body context.function.now)
  pub sizes : (x : ℕ) → size_of_kind (at_number (all_variables context.function.now) x).kind ≤ 2 ^ 62
  pub blocks : (b : ℕ) → block_bytes (objects_in (Some context.function.now) b) ≤ 2 ^ 62
  pub areas : HasTable context.areas.now context.program.now context.function.now
