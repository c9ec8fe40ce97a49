-- Bytes of memory put out in flat code.
use Rattle.std.specs.Prelude.{◌≡◌, ℕ, zero, suc, ◌+◌, ◌*◌, ◌<◌, List, [], ◌∷◌, ◌++◌, true}
use Rattle.addr_map.specs.Places.{MapSizes}
use Rattle.rv_isa.specs.declared.instruction.BranchOp.TheVariants.{Beq}
use Rattle.rv_isa.specs.declared.instruction.RegOp.TheVariants.{Add}
use Rattle.rv_isa.specs.declared.instruction.LoadOp.TheVariants.{Lbu}
use Rattle.flat_code.specs.declared.instruction.RightOperand.TheVariants.{Register, Number}
use Rattle.flat_code.specs.declared.instruction.FlatInstruction.{FlatInstruction}
use Rattle.flat_code.specs.declared.instruction.FlatInstruction.TheVariants.{Constant, Move, Operate, Load, Put}
use Rattle.flat_code.specs.Memory.{Bytes}
use Rattle.flat_code.specs.Spaces.{is_allowed}
use Rattle.flat_code.specs.State.{State}
use Rattle.flat_code.specs.Routines.Registers.{OthersStay}
use Rattle.flat_code.specs.Routines.Routine.{until_code}
use Rattle.flat_actions.specs.Ranges.{DoesInRuntime}

-- so many bytes from an address on
abbrev pub bytes_from : (count : ℕ) → Bytes → (address : ℕ) → List ℕ
bytes_from zero m a = []
bytes_from (suc n) m a = m a ∷ bytes_from n m (a + 1)

-- registers hold where so many bytes begin and where they end, and flat code may use each of them
pub record IsToPut (map : MapSizes) (from to n : ℕ) (state : State) : Type 0 where
  pub end_is : state.values to ≡ state.values from + n
  pub allowed : (i : ℕ) → i < n → is_allowed map (state.values from + i) 1 ≡ true

-- just these were put out
pub record HasPut (from n scratch : ℕ) (before after : State) : Type 0 where
  pub output : after.output ≡ before.output ++ bytes_from n before.memory (before.values from)
  pub memory : after.memory ≡ before.memory
  pub input : after.input ≡ before.input
  pub taken : after.taken ≡ before.taken
  pub accesses : after.accesses ≡ before.accesses
  pub turns : after.turns ≡ before.turns
  pub others : OthersStay [] scratch before after

-- within 2 steps and 5 for each byte
abbrev pub IsPutRoutine : MapSizes → (from to scratch : ℕ) → List FlatInstruction → Type 0
IsPutRoutine map from to t r = (n : ℕ) → DoesInRuntime map r (IsToPut map from to n) (2 + 5 * n) (HasPut from n t)

abbrev pub put_body : (cursor byte : ℕ) → List FlatInstruction
put_body c b = Load Lbu b c 0 ∷ Put b ∷ Operate Add c c (Number 1) ∷ []

abbrev pub put_code : (from to scratch : ℕ) → List FlatInstruction
put_code from to t = Move t from ∷ until_code Beq t (Register to) (put_body t (t + 1))

-- a newline put out, and 0 given
abbrev pub newline_given : (into scratch : ℕ) → List FlatInstruction
newline_given into t = Constant t 10 ∷ Put t ∷ Constant into 0 ∷ []
