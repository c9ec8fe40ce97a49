-- What is built of a program, and when nothing is.
use Rattle.std.specs.Prelude.{◌≡◌, ℕ, ◌+◌, ◌<◌, ◌^◌, List, [], length, Result, Ok, Err}
use Rattle.addr_map.specs.Places.{MapSizes}
use Rattle.c_tree.specs.Programs.{Program}
use Rattle.tac_ir.specs.declared.function.Tac.{Tac}
use Rattle.tac_ir.specs.Bodies.{HaveClosedBodies, KeepVariables}
use Rattle.check_insert.specs.Counting.{checks}
use Rattle.check_insert.specs.Inserted.{Inserted}
use Rattle.check_elim.specs.Available.{IsDroppable}
use Rattle.check_elim.specs.Dropped.{Dropped}
use Rattle.metadata_expansion.specs.Numbers.{AreAllSmall}
use Rattle.flat_code.specs.declared.function.FlatProgram.{FlatProgram}
use Rattle.reg_plan.specs.declared.plan.FunctionPlan.{FunctionPlan}
use Rattle.reg_plan.specs.Planned.{ArePlannable, ArePlanned, IsPlanOfRegisters}
use Rattle.machine_laws.specs.Following.Code.{IsEncodable}
use Rattle.rv_codegen.specs.declared.code.GenerateError.{GenerateError}
use Rattle.rv_codegen.specs.declared.code.GenerateError.TheVariants as generate
use Rattle.rv_codegen.specs.Generated.{IsCause}
use Rattle.rv_codegen.specs.MachineImages.Image.{IsImage}
use Rattle.image_laws.specs.Images.Images.{flat_code}
use Rattle.image_laws.specs.Sizes.Nodes.{program_nodes}
use Rattle.image_compiler.specs.declared.error.CompileError.{CompileError}
use Rattle.image_compiler.specs.declared.error.CompileError.TheVariants.{NumbersTooLarge, TooLarge, Memory}
use Rattle.image_compiler.specs.declared.compiler.Built.{Built}

-- what is asked of checked code: its flat code can be planned, and is of instructions that the machine has
pub record IsExpandable (map : MapSizes) (code : Tac) : Type 0 where
  pub plannable : AreAllSmall map code → ArePlannable (flat_code map code)
  pub encodable : AreAllSmall map code → IsEncodable (flat_code map code)

-- the plans that give out registers, for all functions of a program
abbrev pub ArePlans : FlatProgram → List FunctionPlan → Type 0
ArePlans code plans = ArePlanned code plans (length code.functions) (IsPlanOfRegisters code)

-- the image of flat code under such plans, with no data at the start
pub record IsPlannedImage (map : MapSizes) (code : FlatProgram) (file : List ℕ) : Type 0 where
  pub plans : List FunctionPlan
  pub planned : ArePlans code plans
  pub image : IsImage map code plans [] [] file

-- that of checked code
pub record IsImageOf (map : MapSizes) (code : Tac) (file : List ℕ) : Type 0 where
  pub small : AreAllSmall map code
  pub image : IsPlannedImage map (flat_code map code) file

-- no machine code is generated for flat code under such plans, for a cause
pub record HasCause (map : MapSizes) (code : FlatProgram) (error : GenerateError) : Type 0 where
  pub plans : List FunctionPlan
  pub planned : ArePlans code plans
  pub cause : IsCause map code plans error

-- memory may be wanting before there are plans
abbrev pub IsNotGenerated : MapSizes → FlatProgram → GenerateError → Type 0
IsNotGenerated m code generate.Memory = Unit {0}
IsNotGenerated m code e = HasCause m code e

-- none is generated for checked code
pub record HasNoCode (map : MapSizes) (code : Tac) (error : GenerateError) : Type 0 where
  pub small : AreAllSmall map code
  pub cause : HasCause map (flat_code map code) error

-- when each error comes of checked code
abbrev pub Refuses : MapSizes → Tac → CompileError → Type 0
Refuses m r NumbersTooLarge = AreAllSmall m r → ⊥
Refuses m r (TooLarge bytes) = HasNoCode m r (generate.TooLarge bytes)
Refuses m r Memory = Unit {0}

-- what was generated, with an error of its own; want of room before compiled code is none
abbrev pub IsErrorOf : GenerateError → CompileError → Type 0
IsErrorOf (generate.TooLarge bytes) e = e ≡ TooLarge bytes
IsErrorOf (generate.RuntimeTooLarge bytes) e = ⊥
IsErrorOf generate.Memory e = e ≡ Memory

abbrev pub IsCompiled : {A : Type 0} → Result A GenerateError → Result A CompileError → Type 0
IsCompiled (Ok file) (Ok same) = same ≡ file
IsCompiled (Err g) (Err e) = IsErrorOf g e
IsCompiled _ _ = ⊥

-- lowered code with its checks put in and the available ones dropped, where the bodies of counted loops are closed and
-- assign their variables nowhere
pub record HasChecks (lowered code : Tac) : Type 0 where
  pub checked : Tac
  pub inserted : Inserted lowered checked
  pub dropped : Dropped IsDroppable checked code
  pub closed : HaveClosedBodies code
  pub variables : KeepVariables code

-- what is built of some checked code: of all the checks of the text those are in it that are not counted as dropped
pub record IsBuilt (Is : Tac → Type 0) (all : ℕ) (map : MapSizes) (built : Built) : Type 0 where
  pub checked : Tac
  pub is : Is checked
  pub image : IsImageOf map checked built.image.items
  pub gone : all < 2 ^ 64 → checks checked + built.dropped ≡ all

-- or why nothing is
pub record IsRefused (Is : Tac → Type 0) (map : MapSizes) (error : CompileError) : Type 0 where
  pub checked : Tac
  pub is : Is checked
  pub refuses : Refuses map checked error

-- code is too large only of a text with so many nodes
abbrev pub NeedsNodes : CompileError → Program → Type 0
NeedsNodes (TooLarge bytes) p = 8192 < program_nodes p
NeedsNodes _ p = Unit {0}

abbrev pub UnlessMemory : CompileError → Type 0 → Type 0
UnlessMemory Memory P = Unit {0}
UnlessMemory _ P = P
