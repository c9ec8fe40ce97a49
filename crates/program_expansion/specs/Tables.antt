-- What the code of all functions of a program is made from.
use Rattle.std.specs.Prelude.{ℕ, ◌<◌, ◌^◌}
use Rattle.tac_ir.specs.declared.function.CodeFunction.{CodeFunction}
use Rattle.shadow_space.specs.Form.{EntryCode}
use Rattle.metadata_relation.specs.FunctionTypes.{HaveTypeKeys}
use Rattle.instruction_selection.specs.Statics.{AreStaticPlaces}
use Rattle.program_expansion.specs.declared.error.ExpandError.{ExpandError}
use Rattle.program_expansion.specs.declared.error.ExpandError.TheVariants as error
use Rattle.program_expansion.specs.declared.tables.Tables.{Tables}
use Rattle.program_expansion.specs.Expansions.{HasLongBody, types_by}
use Rattle.program_expansion.specs.Limits.{AreWithinLimits}

-- they are those of the program, which is within limits
pub record AreTables (tables : Tables) : Type 0 where
  pub limits : AreWithinLimits tables.program.now
  pub statics : AreStaticPlaces tables.map.now tables.program.now tables.statics.now
  pub keys : HaveTypeKeys tables.program.now.functions (types_by tables.types.now)
  pub low : (f : ℕ) → types_by tables.types.now f < 2 ^ 63

-- why a function of a program within limits has no expansion
abbrev pub FunctionRefusal : (read write : EntryCode) → Tables → CodeFunction → ExpandError → Type 0
FunctionRefusal read write x c error.OutsideLimits = ⊥
FunctionRefusal read write x c error.TooManyInstructions =
    HasLongBody read write x.map.now x.program.now (types_by x.types.now) c
FunctionRefusal read write x c error.Memory = Unit {0}
