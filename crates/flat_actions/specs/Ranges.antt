-- Ranges of object space that functions of the runtime move and fill. They show no access.
use Rattle.std.specs.Prelude.{◌≡◌, ℕ, ◌+◌, ◌*◌, ◌%◌, ◌<◌, ◌≤◌, List, [], true}
use Rattle.addr_map.specs.declared.region.Region.TheVariants.{Heap, StructureValues}
use Rattle.addr_map.specs.Places.{MapSizes, objects_begin, region_start, region_end}
use Rattle.flat_code.specs.declared.instruction.FlatInstruction.{FlatInstruction}
use Rattle.flat_code.specs.Memory.{Bytes, KeepsBut}
use Rattle.flat_code.specs.State.{State}
use Rattle.flat_code.specs.Routines.Registers.{OthersStay}
use Rattle.flat_code.specs.Routines.Routine.{Does, Either, Never}
use Rattle.flat_code.specs.Routines.Metadata.{View, ShowsNothing}
use Rattle.flat_code.specs.Routines.Objects.Changes.{IsMoved}
use Rattle.flat_actions.specs.Actions.{views_of, AreSpacesGood}

-- what a list of instructions does in functions of the runtime, within so many steps
abbrev pub DoesInRuntime : MapSizes → List FlatInstruction → (State → Type 0) → (steps : ℕ) → (State → State → Type 0)
    → Type 0
DoesInRuntime map r P steps Q =
    (charge weight : ℕ)
    → Does (record { sizes = map; is_runtime = true; charge = charge; weight = weight }) r P (λ s. steps)
    (λ s. Either (Q s) Never)

-- so many bytes of object space from an address on
pub record IsObjectRange (map : MapSizes) (address bytes : ℕ) : Type 0 where
  pub first : objects_begin ≤ address
  pub last : address + bytes ≤ region_end map Heap

-- ---- bytes alone

-- registers hold where to, where from and how many
pub record IsToMove (map : MapSizes) (to from bytes n : ℕ) (state : State) : Type 0 where
  pub size_is : state.values bytes ≡ n
  pub to_range : IsObjectRange map (state.values to) n
  pub from_range : IsObjectRange map (state.values from) n

-- moved as by memmove, also where the ranges overlap
pub record HasMovedBytes (to from n scratch : ℕ) (before after : State) : Type 0 where
  pub there : (i : ℕ) → i < n → after.memory (before.values to + i) ≡ before.memory (before.values from + i)
  pub beside : KeepsBut (before.values to) n before.memory after.memory
  pub shows : ShowsNothing before after
  pub others : OthersStay [] scratch before after

abbrev pub IsByteMoveRoutine : MapSizes → (to from bytes scratch : ℕ) → List FlatInstruction → Type 0
IsByteMoveRoutine map to from bytes t r =
    (n : ℕ) → DoesInRuntime map r (IsToMove map to from bytes n) (16 + 7 * n) (HasMovedBytes to from n t)

-- registers hold where to, a number whose low byte it is, and how many
pub record IsToFill (map : MapSizes) (to bytes n : ℕ) (state : State) : Type 0 where
  pub size_is : state.values bytes ≡ n
  pub to_range : IsObjectRange map (state.values to) n

pub record HasFilled (to byte n scratch : ℕ) (before after : State) : Type 0 where
  pub there : (i : ℕ) → i < n → after.memory (before.values to + i) ≡ before.values byte % 256
  pub beside : KeepsBut (before.values to) n before.memory after.memory
  pub shows : ShowsNothing before after
  pub others : OthersStay [] scratch before after

abbrev pub IsFillRoutine : MapSizes → (to byte bytes scratch : ℕ) → List FlatInstruction → Type 0
IsFillRoutine map to byte bytes t r =
    (n : ℕ) → DoesInRuntime map r (IsToFill map to bytes n) (8 + 5 * n) (HasFilled to byte n t)

-- ---- bytes with the entries of whole words

pub record HasMovedTagged (map : MapSizes) (entry : View) (IsGood : Bytes → Type 0) (to from n scratch : ℕ)
    (before after : State) : Type 0 where
  pub moved : (functions : ℕ) (types : ℕ → ℕ)
      → IsMoved (views_of map functions types entry) n (before.values to)
      (before.values from) before.memory after.memory
  pub good : AreSpacesGood map IsGood after.memory
  pub behind : (a : ℕ) → region_start map StructureValues ≤ a → after.memory a ≡ before.memory a
  pub shows : ShowsNothing before after
  pub others : OthersStay [] scratch before after

-- within 40 steps and 16 for each byte
abbrev pub IsTaggedMoveRoutine : MapSizes → View → (Bytes → Type 0) → (to from bytes scratch : ℕ)
    → List FlatInstruction → Type 0
IsTaggedMoveRoutine map entry IsGood to from bytes t r =
    (n : ℕ)
    → DoesInRuntime map r (λ s. IsToMove map to from bytes n s × AreSpacesGood map IsGood s.memory) (40 + 16 * n)
    (HasMovedTagged map entry IsGood to from n t)
