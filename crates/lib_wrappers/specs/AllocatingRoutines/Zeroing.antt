-- Ranges of object space that are made zero: bytes of zero, and no metadata in whole words. Births of objects, `calloc`
-- and initializers rest on it.
use Rattle.std.specs.Prelude.{◌≡◌, ℕ, ◌+◌, ◌*◌, ◌/◌, ◌%◌, ◌<◌, ◌≤◌, ◌⊎◌, List, [], ◌∷◌, ◌++◌}
use Rattle.rv_isa.specs.declared.instruction.BranchOp.TheVariants.{Bgeu}
use Rattle.rv_isa.specs.declared.instruction.RegOp.TheVariants.{Add, Sll, Srl}
use Rattle.rv_isa.specs.declared.instruction.StoreOp.{StoreOp}
use Rattle.rv_isa.specs.declared.instruction.StoreOp.TheVariants.{Sb, Sd}
use Rattle.rv_isa.specs.Results.{store_bytes}
use Rattle.addr_map.specs.declared.region.Region.TheVariants.{Locks}
use Rattle.addr_map.specs.Places.{MapSizes, spaces_begin, region_start}
use Rattle.flat_code.specs.declared.instruction.RightOperand.TheVariants.{Register, Number}
use Rattle.flat_code.specs.declared.instruction.FlatInstruction.{FlatInstruction}
use Rattle.flat_code.specs.declared.instruction.FlatInstruction.TheVariants.{Constant, Move, Operate, Store}
use Rattle.flat_code.specs.Memory.{Bytes, Beside}
use Rattle.flat_code.specs.State.{State}
use Rattle.flat_code.specs.Routines.Registers.{OthersStay}
use Rattle.flat_code.specs.Routines.Routine.{until_code}
use Rattle.flat_code.specs.Routines.Metadata.{View, no_metadata, IsObjectWord, ShowsNothing}
use Rattle.flat_actions.specs.Actions.{AreSpacesGood}
use Rattle.flat_actions.specs.Ranges.{IsObjectRange, DoesInRuntime}

-- registers hold where a range of object space begins, at a multiple of 8, and its bytes
pub record IsToZero (map : MapSizes) (first bytes n : ℕ) (state : State) : Type 0 where
  pub size : state.values bytes ≡ n
  pub aligned : state.values first % 8 ≡ 0
  pub range : IsObjectRange map (state.values first) n

-- the memory is zero from an address on, and all else is as it was
pub record IsZeroed (map : MapSizes) (entry : View) (address bytes : ℕ) (before after : Bytes) : Type 0 where
  pub zeros : (i : ℕ) → i < bytes → after (address + i) ≡ 0
  pub beside : (b : ℕ) → b < spaces_begin → Beside address bytes b → after b ≡ before b
  pub cleared : (w : ℕ) → w < bytes / 8 → entry after (address + 8 * w) ≡ no_metadata
  pub entries : (b : ℕ) → IsObjectWord map b → (b < address) ⊎ (address + 8 * (bytes / 8) ≤ b)
      → entry after b ≡ entry before b
  pub spaces : (b : ℕ) → region_start map Locks ≤ b → after b ≡ before b

pub record HasZeroed (map : MapSizes) (entry : View) (IsGood : Bytes
    → Type 0) (first n scratch : ℕ) (before after : State)
    : Type 0 where
  pub memory : IsZeroed map entry (before.values first) n before.memory after.memory
  pub good : AreSpacesGood map IsGood after.memory
  pub shows : ShowsNothing before after
  pub others : OthersStay [] scratch before after

-- within 16 steps and 4 for each byte
abbrev pub IsZeroRoutine : MapSizes → View → (Bytes → Type 0) → (first bytes scratch : ℕ) → List FlatInstruction →
    Type 0
IsZeroRoutine map entry IsGood first bytes t r =
    (n : ℕ)
    → DoesInRuntime map r (λ s. IsToZero map first bytes n s × AreSpacesGood map IsGood s.memory) (16 + 4 * n)
    (HasZeroed map entry IsGood first n t)

-- ---- its instructions

-- the bytes of whole words
abbrev pub word_bytes : (bytes words : ℕ) → List FlatInstruction
word_bytes bytes t = Operate Srl t bytes (Number 3) ∷ Operate Sll t t (Number 3) ∷ []

abbrev pub begin_zero : (first end cursor zero : ℕ) → List FlatInstruction
begin_zero first e c z = Move c first ∷ Operate Add e e (Register first) ∷ Constant z 0 ∷ []

-- so many bytes at once, as a store has
abbrev pub zero_one : StoreOp → (cursor zero : ℕ) → List FlatInstruction
zero_one op c z = Store op c 0 z ∷ Operate Add c c (Number (store_bytes op)) ∷ []

abbrev pub zero_until : StoreOp → (end cursor zero : ℕ) → List FlatInstruction
zero_until op e c z = until_code Bgeu c (Register e) (zero_one op c z)

abbrev pub to_the_end : (first bytes end : ℕ) → List FlatInstruction
to_the_end first bytes e = Operate Add e first (Register bytes) ∷ []

-- whole words first, and then the bytes behind them
abbrev pub zero_bytes : (first bytes end cursor zero : ℕ) → List FlatInstruction
zero_bytes first bytes e c z =
    begin_zero first e c z ++ (zero_until Sd e c z ++ (to_the_end first bytes e ++ zero_until Sb e c z))

-- the entries are cleared by the routine of the form
abbrev pub zero_code : (clear : List FlatInstruction) → (first bytes end cursor zero : ℕ) → List FlatInstruction
zero_code clear first bytes e c z = word_bytes bytes e ++ (clear ++ zero_bytes first bytes e c z)
