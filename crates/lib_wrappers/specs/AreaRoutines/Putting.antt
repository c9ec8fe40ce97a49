-- Contents put from an area to a place in an object.
use Rattle.std.specs.Prelude.{◌≡◌, ℕ, ◌+◌, ◌-◌, ◌*◌, ◌<◌, ◌≤◌, ◌⊎◌, List, [], ◌∷◌, ◌++◌}
use Rattle.addr_map.specs.declared.region.Region.TheVariants.{StructureValues}
use Rattle.addr_map.specs.Places.{MapSizes, spaces_begin, region_start}
use Rattle.rv_isa.specs.declared.instruction.RegOp.TheVariants.{Add, Sub, Sll}
use Rattle.flat_code.specs.declared.instruction.RightOperand.TheVariants.{Register, Number}
use Rattle.flat_code.specs.declared.instruction.FlatInstruction.{FlatInstruction}
use Rattle.flat_code.specs.declared.instruction.FlatInstruction.TheVariants.{Operate}
use Rattle.flat_code.specs.Memory.{Bytes}
use Rattle.flat_code.specs.State.{State}
use Rattle.flat_code.specs.declared.registers.Held.{Held}
use Rattle.flat_code.specs.Routines.Registers.{OthersStay}
use Rattle.flat_code.specs.Routines.Metadata.{View, metadata_at, IsObjectWord, ShowsNothing}
use Rattle.flat_code.specs.Routines.Objects.StandsFor.{Views}
use Rattle.flat_code.specs.Routines.Objects.Changes.{KeepsTables, IsMovedWord, IsKeptWord}
use Rattle.flat_actions.specs.Actions.{views_of, AreSpacesGood}
use Rattle.flat_actions.specs.Ranges.{IsObjectRange, DoesInRuntime}
use Rattle.lib_wrappers.specs.MovingRoutines.Tagged.{count_words}
use Rattle.lib_wrappers.specs.AreaRoutines.Areas.{IsAreaPlace, HoldsPart, entries_begin}
use Rattle.lib_wrappers.specs.AreaRoutines.Loops.{word_loop, entry_behind, load_entry}

-- A range of object space became the bytes from an offset of an area on, with the entries of whole words where both are
-- equal modulo 8; all else stays.
pub record IsPutIn (views : Views) (n d size offset a : ℕ) (before after : Bytes) : Type 0 where
  pub there : (i : ℕ) → i < n → after (d + i) ≡ before (a + offset + i)
  pub beside : (b : ℕ) → b < spaces_begin → (b < d) ⊎ (d + n ≤ b) → after b ≡ before b
  pub entries : (w : ℕ) → IsObjectWord views.sizes w → IsMovedWord n d (a + offset) w
      → views.entry after w ≡ metadata_at before (entries_begin a size + 4 * (w - d + offset))
  pub others : (w : ℕ) → IsObjectWord views.sizes w → IsKeptWord n d (a + offset) w
      → views.entry after w ≡ views.entry before w
  pub tables : KeepsTables views before after

-- registers hold where to, a part of contents in an area, and how many bytes of it
pub record IsToPut (map : MapSizes) (to : ℕ) (held : Held) (bytes n size offset a : ℕ) (state : State) : Type 0 where
  pub size_is : state.values bytes ≡ n
  pub range : IsObjectRange map (state.values to) n
  pub part : HoldsPart held size offset a state.values
  pub room : offset + n ≤ size
  pub place : IsAreaPlace map size a

pub record HasPutRange (map : MapSizes) (entry : View) (IsGood : Bytes → Type 0) (to n size offset a scratch : ℕ)
    (before after : State) : Type 0 where
  pub put : (functions : ℕ) (types : ℕ → ℕ)
      → IsPutIn (views_of map functions types entry) n (before.values to) size offset a before.memory after.memory
  pub good : AreSpacesGood map IsGood after.memory
  pub behind : (b : ℕ) → region_start map StructureValues ≤ b → after.memory b ≡ before.memory b
  pub shows : ShowsNothing before after
  pub others : OthersStay [] scratch before after

-- within 40 steps and 16 for each byte
abbrev pub IsPutRangeRoutine : MapSizes → View → (Bytes → Type 0) → (to : ℕ) → Held → (bytes scratch : ℕ)
    → List FlatInstruction → Type 0
IsPutRangeRoutine map entry IsGood to h bytes t r =
    (n size offset a : ℕ)
    → DoesInRuntime map r (λ s. IsToPut map to h bytes n size offset a s × AreSpacesGood map IsGood s.memory)
    (40 + 16 * n) (HasPutRange map entry IsGood to n size offset a t)

-- ---- its instructions

-- from the address of a word in the area to that of its entry
abbrev pub entry_place : Held → (place : ℕ) → List FlatInstruction
entry_place h p =
    Operate Sub p p (Register h.tag.base)
    ∷ Operate Sll p p (Number 2)
    ∷ Operate Add p p (Register h.tag.bound)
    ∷ []

abbrev pub put_entries : (write : List FlatInstruction) → (to : ℕ) → Held → (bytes t : ℕ) → List FlatInstruction
put_entries write to h bytes t =
    (count_words to h.value bytes t (t + 1) (t + 2) (t + 3) ++ entry_place h (t + 2))
    ++ word_loop t (load_entry (t + 2) (entry_behind t) ++ write)
