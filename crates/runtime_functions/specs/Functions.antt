-- A routine as a function of the runtime. Its arguments are its first registers; the status stands in the next, and the
-- routine's results behind it. The function makes the registers behind its arguments 0 before the routine begins, so that
-- it needs nothing else of its caller.
use Rattle.std.specs.Prelude.{◌≡◌, ℕ, zero, suc, ◌+◌, ◌-◌, ◌*◌, ◌≤◌, ◌^◌, List, [], ◌∷◌, ◌++◌, length, true}
use Rattle.std.specs.Prelude.{Option, Some, None}
use Rattle.sb_base.specs.declared.ending.Ending.{Ending}
use Rattle.flat_code.specs.declared.instruction.FlatInstruction.{FlatInstruction}
use Rattle.flat_code.specs.declared.instruction.FlatInstruction.TheVariants.{Constant, JumpForward, Return, End}
use Rattle.flat_code.specs.declared.function.FlatFunction.{FlatFunction}
use Rattle.runtime_functions.specs.declared.status.ReturnStatus.{ReturnStatus}
use Rattle.runtime_functions.specs.Status.{return_status, status_number}

-- where the stub of a status stands behind a routine of so many instructions and its return
abbrev pub stub_place : (length : ℕ) → ReturnStatus → ℕ
stub_place n r = n + 1 + 2 * (status_number r - 1)

-- an instruction at a place of the routine: an ending with a status becomes a jump to its stub
abbrev pub with_status : (length place : ℕ) → Ending → Option ReturnStatus → FlatInstruction
with_status n q e None = End e
with_status n q e (Some r) = JumpForward (stub_place n r - suc q)

abbrev pub with_stub : (length place : ℕ) → FlatInstruction → FlatInstruction
with_stub n q (End e) = with_status n q e (return_status e)
with_stub n q i = i

abbrev pub with_stubs : (length place : ℕ) → List FlatInstruction → List FlatInstruction
with_stubs n q [] = []
with_stubs n q (i ∷ is) = with_stub n q i ∷ with_stubs n (suc q) is

-- so many stubs from a number on: each returns its number
abbrev pub stubs : (register number count : ℕ) → List FlatInstruction
stubs d k zero = []
stubs d k (suc n) = Constant d k ∷ Return d ∷ stubs d (suc k) n

-- so many registers from one on are made 0
abbrev pub zeros : (register count : ℕ) → List FlatInstruction
zeros d zero = []
zeros d (suc n) = Constant d 0 ∷ zeros (d + 1) n

-- how many: the status, at most five results, and two of the routine's own
abbrev pub cleared_registers : ℕ
cleared_registers = 8

abbrev pub with_zeros : (routine : List FlatInstruction) → (status : ℕ) → List FlatInstruction
with_zeros r d = zeros d cleared_registers ++ r

abbrev pub function_body : (routine : List FlatInstruction) → (status : ℕ) → List FlatInstruction
function_body r d = with_stubs (length r) 0 r ++ Return d ∷ stubs d 1 8

-- so many registers, each at home in the word with its number
abbrev pub own_homes : (count : ℕ) → List ℕ
own_homes zero = []
own_homes (suc n) = own_homes n ++ n ∷ []

pub record IsRuntimeFunction (routine : List FlatInstruction) (arguments results : ℕ) (f : FlatFunction) : Type 0
  where
    pub parameters : f.parameters ≡ arguments
    pub results_are : f.results ≡ 1 + results
    pub of_runtime : f.is_runtime ≡ true
    pub body : f.body ≡ function_body (with_zeros routine arguments) arguments
    pub room : f.room ≤ 2 ^ 11
