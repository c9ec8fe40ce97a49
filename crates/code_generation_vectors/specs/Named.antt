-- What a program must have to be planned, as it is tested.
use Rattle.std.specs.Prelude.{◌≡◌, ℕ, ◌^◌, ◌<◌, true, length, Some, slice_get}
use Rattle.flat_code.specs.declared.instruction.FlatInstruction.{FlatInstruction}
use Rattle.flat_code.specs.declared.function.FlatFunction.{FlatFunction}
use Rattle.flat_code.specs.declared.function.FlatProgram.{FlatProgram}
use Rattle.reg_plan.specs.Effects.{read_by, is_read, made_by, is_among}
use Rattle.reg_plan.specs.Flow.{IsNamed}
use Rattle.reg_plan.specs.declared.plan.FunctionPlan.{FunctionPlan}
use Rattle.reg_plan.specs.Needs.{IsNeeded}
use Rattle.reg_plan.specs.Accepted.{IsLive}

-- what an instruction reads and makes has numbers below a bound
pub record HasNames (program : FlatProgram) (function : ℕ) (instruction : FlatInstruction) (count : ℕ) : Type 0 where
  pub read : (y : ℕ) → is_read (read_by program function instruction) y ≡ true → y < count
  pub made : (y : ℕ) → is_among (made_by program instruction) y ≡ true → y < count

-- functions and instructions have numbers of 32 bits
pub record IsSmall (program : FlatProgram) : Type 0 where
  pub functions : length program.functions < 2 ^ 32
  pub bodies : (k : ℕ) (f : FlatFunction) → slice_get program.functions k ≡ Some f → length f.body < 2 ^ 32

abbrev pub AreNamed : FlatProgram → (number : ℕ) → Type 0
AreNamed p n = (k : ℕ) (f : FlatFunction) → k < n → slice_get p.functions k ≡ Some f
    → IsNamed p k f.body (length f.homes)

-- what a function needs its plan has live
abbrev pub HasNeeded : FlatProgram → (number : ℕ) → FlatFunction → FunctionPlan → Type 0
HasNeeded p k f plan = (pc y : ℕ) → IsNeeded p k f.body pc y → IsLive plan pc y
