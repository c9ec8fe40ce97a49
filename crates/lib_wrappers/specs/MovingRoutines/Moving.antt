-- The instructions that move ranges.
use Rattle.std.specs.Prelude.{◌≡◌, ℕ, ◌+◌, ◌*◌, ◌^◌, ◌<◌, true, List, [], ◌∷◌, ◌++◌}
use Rattle.addr_map.specs.Places.{MapSizes}
use Rattle.rv_isa.specs.declared.instruction.LoadOp.TheVariants.{Lbu}
use Rattle.rv_isa.specs.declared.instruction.StoreOp.TheVariants.{Sb}
use Rattle.flat_code.specs.declared.instruction.FlatInstruction.{FlatInstruction}
use Rattle.flat_code.specs.declared.instruction.FlatInstruction.TheVariants.{Move, Load, Store}
use Rattle.flat_code.specs.Spaces.{is_allowed}
use Rattle.flat_code.specs.State.{State}
use Rattle.flat_actions.specs.Ranges.{DoesInRuntime, HasMovedBytes}
use Rattle.lib_wrappers.specs.MovingRoutines.Copying.{OneByte, move_cells}

-- ---- bytes

abbrev pub byte_body : ℕ → List FlatInstruction
byte_body t = Load Lbu (t + 4) (t + 2) 0 ∷ Store Sb (t + 1) 0 (t + 4) ∷ []

abbrev pub byte_places : (to from bytes t : ℕ) → List FlatInstruction
byte_places to from bytes t = Move t bytes ∷ Move (t + 1) to ∷ Move (t + 2) from ∷ []

abbrev pub move_bytes_code : (to from bytes t : ℕ) → List FlatInstruction
move_bytes_code to from bytes t = byte_places to from bytes t ++ move_cells OneByte t (byte_body t)

-- ---- wherever they may be used

-- so many bytes from an address on, each of which may be used
pub record IsUsableRange (map : MapSizes) (address bytes : ℕ) : Type 0 where
  pub usable : (i : ℕ) → i < bytes → is_allowed map (address + i) 1 ≡ true
  pub small : address + bytes < 2 ^ 62

-- registers hold where to, where from and how many
pub record IsToMoveUsable (map : MapSizes) (to from bytes n : ℕ) (state : State) : Type 0 where
  pub size_is : state.values bytes ≡ n
  pub to_range : IsUsableRange map (state.values to) n
  pub from_range : IsUsableRange map (state.values from) n

-- moved as by memmove, also where the ranges overlap, of object space or of the runtime's spaces
abbrev pub IsUsableMoveRoutine : MapSizes → (to from bytes scratch : ℕ) → List FlatInstruction → Type 0
IsUsableMoveRoutine map to from bytes t r =
    (n : ℕ) → DoesInRuntime map r (IsToMoveUsable map to from bytes n) (16 + 7 * n) (HasMovedBytes to from n t)
