-- Whether a program can be planned, as it is tested.
use Rattle.std.specs.Prelude.{◌≡◌, ℕ, ◌+◌, ◌*◌, ◌^◌, ◌<◌, ◌≤◌, true, List, length, Some, slice_get}
use Rattle.flat_code.specs.declared.instruction.FlatInstruction.{FlatInstruction}
use Rattle.flat_code.specs.declared.function.FlatFunction.{FlatFunction}
use Rattle.flat_code.specs.declared.function.FlatProgram.{FlatProgram}
use Rattle.flat_code.specs.Calls.{record_bytes}
use Rattle.reg_plan.specs.Effects.{read_by, is_read, made_by, is_among}
use Rattle.reg_plan.specs.Flow.{IsNamed}

-- what an instruction reads and makes has numbers below a bound
pub record HasNames (program : FlatProgram) (function : ℕ) (instruction : FlatInstruction) (count : ℕ) : Type 0 where
  pub read : (y : ℕ) → is_read (read_by program function instruction) y ≡ true → y < count
  pub made : (y : ℕ) → is_among (made_by program instruction) y ≡ true → y < count

-- homes differ, and all lie within so many bytes, behind the return address
pub record HomesStand (bytes : ℕ) (homes : List ℕ) : Type 0 where
  pub inside : (y w : ℕ) → slice_get homes y ≡ Some w → 8 * w + 16 ≤ bytes
  pub apart : (x y w : ℕ) → slice_get homes x ≡ Some w → slice_get homes y ≡ Some w → x ≡ y

-- what is tested before live ranges are computed
pub record IsReadable (program : FlatProgram) (number : ℕ) (function : FlatFunction) : Type 0 where
  pub count : length function.body < 2 ^ 32
  pub homes : HomesStand (record_bytes function) function.homes
  pub named : IsNamed program number function.body (length function.homes)
