-- What is asked of the homes of virtual registers, so that a value may be needed longer than it was.
use Rattle.std.specs.Prelude.{◌≡◌, ℕ, ◌⊎◌, List, Some, slice_get}
use Rattle.flat_code.specs.declared.instruction.FlatInstruction.{FlatInstruction}
use Rattle.flat_code.specs.declared.function.FlatFunction.{FlatFunction}
use Rattle.flat_code.specs.declared.function.FlatProgram.{FlatProgram}
use Rattle.reg_plan.specs.Needs.{ReadsAt, MakesAt}
use Rattle.reg_plan.specs.Accepted.{HasHome}

-- an instruction of a function reads a virtual register, or makes it
abbrev pub IsUsed : FlatProgram → (number : ℕ) → List FlatInstruction → (y : ℕ) → Type 0
IsUsed p f body y = (pc : ℕ) × (ReadsAt p f body pc y ⊎ MakesAt p body pc y)

-- each has a home within the activation record, and no two the same one
pub record HasHomes (program : FlatProgram) (number : ℕ) (function : FlatFunction) : Type 0 where
  pub inside : (y : ℕ) → IsUsed program number function.body y → HasHome function y
  pub apart : (x y w : ℕ) → IsUsed program number function.body x → IsUsed program number function.body y
      → slice_get function.homes x ≡ Some w → slice_get function.homes y ≡ Some w → x ≡ y

abbrev pub HaveHomes : FlatProgram → Type 0
HaveHomes p = (k : ℕ) (f : FlatFunction) → slice_get p.functions k ≡ Some f → HasHomes p k f
