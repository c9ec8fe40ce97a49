-- What the routines of a form of the shadow space do.
use Rattle.std.specs.Prelude.{◌≡◌, ◌≢◌, ℕ, ◌+◌, ◌*◌, ◌%◌, ◌<◌, ◌≤◌, ◌⊎◌, List, [], ◌∷◌, Bool}
use Rattle.addr_map.specs.declared.region.Region.TheVariants.{Heap}
use Rattle.addr_map.specs.Places.{MapSizes, AreMapped, objects_begin, region_end}
use Rattle.flat_code.specs.declared.instruction.FlatInstruction.{FlatInstruction}
use Rattle.flat_code.specs.Memory.{Bytes}
use Rattle.flat_code.specs.State.{State}
use Rattle.flat_code.specs.declared.registers.Entry.{Entry}
use Rattle.flat_code.specs.Routines.Registers.{AreDistinct, AreBelow, OthersStay}
use Rattle.flat_code.specs.Routines.Routine.{Does, Either, Never}
use Rattle.flat_code.specs.Routines.Shape.{HasShape}
use Rattle.flat_code.specs.Routines.InputOutput.{IsWithoutInputOutput}
use Rattle.flat_code.specs.Routines.Metadata.{View, no_metadata, metadata_in, entry_registers, IsObjectWord}
use Rattle.flat_code.specs.Routines.Metadata.{KeepsButShadow, ShowsNothing}

-- a routine does the same in functions of the program and of the runtime, whatever the calls have taken
abbrev pub DoesAnywhere : MapSizes → List FlatInstruction → (State → Type 0) → (steps : ℕ) → (State → State → Type 0)
    → Type 0
DoesAnywhere map r P steps Q =
    (runtime : Bool) (charge weight : ℕ)
    → Does (record { sizes = map; is_runtime = runtime; charge = charge; weight = weight }) r P (λ s. steps)
    (λ s. Either (Q s) Never)

pub record HasRead (entry : View) (at : ℕ) (into : Entry) (scratch : ℕ) (before after : State) : Type 0 where
  pub read : metadata_in after.values into ≡ entry before.memory (before.values at)
  pub memory : after.memory ≡ before.memory
  pub shows : ShowsNothing before after
  pub others : OthersStay (entry_registers into) scratch before after

pub record HasWritten (map : MapSizes) (entry : View) (IsGood : Bytes → Type 0) (at : ℕ) (from : Entry) (scratch : ℕ)
    (before after : State) : Type 0 where
  pub written : entry after.memory (before.values at) ≡ metadata_in before.values from
  pub other_words : (a : ℕ) → IsObjectWord map a → a ≢ before.values at → entry after.memory a ≡ entry before.memory a
  pub good : IsGood after.memory
  pub memory : KeepsButShadow map before.memory after.memory
  pub shows : ShowsNothing before after
  pub others : OthersStay [] scratch before after

pub record HasCleared (map : MapSizes) (entry : View) (IsGood : Bytes → Type 0) (first count scratch : ℕ)
    (before after : State) : Type 0 where
  pub cleared : (k : ℕ) → k < count → entry after.memory (before.values first + 8 * k) ≡ no_metadata
  pub other_words : (a : ℕ) → IsObjectWord map a → (a < before.values first) ⊎ (before.values first + 8 * count ≤ a)
      → entry after.memory a ≡ entry before.memory a
  pub good : IsGood after.memory
  pub memory : KeepsButShadow map before.memory after.memory
  pub shows : ShowsNothing before after
  pub others : OthersStay [] scratch before after

-- so many words of object space, whose bytes are these
pub record IsWordRange (map : MapSizes) (first bytes count : ℕ) : Type 0 where
  pub begins : objects_begin ≤ first
  pub ends : first + 8 * count ≤ region_end map Heap
  pub bytes_of_words : bytes ≡ 8 * count
  pub aligned : first % 8 ≡ 0

-- the entry of the word at an address is read within 18 steps, or written within 24
abbrev pub IsReadRoutine : MapSizes → View → (Bytes → Type 0) → (at : ℕ) → Entry → (scratch : ℕ) → List FlatInstruction
    → Type 0
IsReadRoutine map entry IsGood at into scratch r =
    DoesAnywhere map r (λ s. IsObjectWord map (s.values at) × IsGood s.memory) 18 (HasRead entry at into scratch)

abbrev pub IsWriteRoutine : MapSizes → View → (Bytes → Type 0) → (at : ℕ) → Entry → (scratch : ℕ) → List FlatInstruction
    → Type 0
IsWriteRoutine map entry IsGood at from scratch r =
    DoesAnywhere map r (λ s. IsObjectWord map (s.values at) × IsGood s.memory) 24
    (HasWritten map entry IsGood at from scratch)

-- the entries of a range are cleared, within 8 steps and 16 for each word
abbrev pub IsClearRoutine : MapSizes → View → (Bytes → Type 0) → (first bytes scratch : ℕ) → List FlatInstruction
    → Type 0
IsClearRoutine map entry IsGood first bytes scratch r =
    (count : ℕ)
    → DoesAnywhere map r (λ s. IsWordRange map (s.values first) (s.values bytes) count × IsGood s.memory)
    (8 + 16 * count) (HasCleared map entry IsGood first count scratch)

-- ---- the instructions of a form

-- by the register with the address of the word, those of its entry, and the first that may be written besides
abbrev pub EntryCode : Type 0
EntryCode = MapSizes → (at : ℕ) → Entry → (scratch : ℕ) → List FlatInstruction

-- they read entries, whatever the registers: those of the entry differ from each other and from that of the address
abbrev pub ReadsEntries : View → (MapSizes → Bytes → Type 0) → EntryCode → Type 0
ReadsEntries entry IsGood code =
    (map : MapSizes) (at : ℕ) (into : Entry) (t : ℕ) → AreMapped map → AreDistinct (at ∷ entry_registers into)
    → AreBelow t (at ∷ entry_registers into) → IsReadRoutine map entry (IsGood map) at into t (code map at into t)

-- and write them
abbrev pub WritesEntries : View → (MapSizes → Bytes → Type 0) → EntryCode → Type 0
WritesEntries entry IsGood code =
    (map : MapSizes) (at : ℕ) (from : Entry) (t : ℕ) → AreMapped map → AreBelow t (at ∷ entry_registers from)
    → IsWriteRoutine map entry (IsGood map) at from t (code map at from t)

-- They are so many at most, over registers up to so many behind the first that may be written, and take no input and
-- put no output.
abbrev pub HasEntryShape : EntryCode → (most own : ℕ) → Type 0
HasEntryShape code most own =
    (map : MapSizes) (at : ℕ) (e : Entry) (t : ℕ) → AreMapped map → AreBelow t (at ∷ entry_registers e)
    → HasShape (code map at e t) most (t + own) × IsWithoutInputOutput (code map at e t)
