-- What the lists assign by which a form of the shadow space reads and writes the entry of a word.
use Rattle.std.specs.Prelude.{◌≡◌, ◌⊎◌, ℕ, ◌+◌, ◌<◌, ◌≤◌, List, [], ◌∷◌, length, Some, slice_get}
use Rattle.addr_map.specs.Places.{MapSizes}
use Rattle.flat_code.specs.declared.instruction.FlatInstruction.{FlatInstruction}
use Rattle.flat_code.specs.declared.function.FlatProgram.{FlatProgram}
use Rattle.flat_code.specs.declared.registers.Entry.{Entry}
use Rattle.flat_code.specs.Routines.Metadata.{entry_registers}
use Rattle.shadow_space.specs.Form.{EntryCode}
use Rattle.reg_plan.specs.Effects.{Leads}
use Rattle.reg_plan.specs.Needs.{AlwaysMakesAt}
use Rattle.image_laws.specs.Plans.Assignment.{IsOneOf, Assigns, Names}

-- the address of the word, the entry, and five registers from one on
pub record IsNamed (at : ℕ) (entry : Entry) (scratch : ℕ) (y : ℕ) : Type 0 where
  pub is : IsOneOf (at ∷ entry_registers entry) y ⊎ ((scratch ≤ y) × (y < scratch + 5))

-- what code makes where it leads to its end, whether or not it is needed, is among these
abbrev pub MakesLast : FlatProgram → (code : List FlatInstruction) → (made : List ℕ) → Type 0
MakesLast p code made =
    (pc q y : ℕ) (i : FlatInstruction) → slice_get code pc ≡ Some i → Leads i pc q → AlwaysMakesAt p code pc y
    → length code ≤ q → IsOneOf made y

-- Whatever the registers, those that read need the address alone and make the entry, and those that write need both.
pub record AssignEntries (read write : EntryCode) : Type 0 where
  pub reads : (p : FlatProgram) (u : ℕ) (map : MapSizes) (at : ℕ) (into : Entry) (t : ℕ)
      → Assigns p u (IsOneOf (at ∷ [])) (read map at into t) 0 (entry_registers into)
      × Names p u (read map at into t) (IsNamed at into t)
      × MakesLast p (read map at into t) (entry_registers into)
  pub writes : (p : FlatProgram) (u : ℕ) (map : MapSizes) (at : ℕ) (from : Entry) (t : ℕ)
      → Assigns p u (IsOneOf (at ∷ entry_registers from)) (write map at from t) 0 []
      × Names p u (write map at from t) (IsNamed at from t)
      × MakesLast p (write map at from t) []
