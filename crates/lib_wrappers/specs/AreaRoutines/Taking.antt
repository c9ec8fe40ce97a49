-- The contents of a structure taken to an area from its place in an object.
use Rattle.std.specs.Prelude.{◌≡◌, ◌≢◌, ℕ, ◌+◌, ◌*◌, ◌/◌, ◌%◌, ◌<◌, List, [], ◌∷◌, ◌++◌}
use Rattle.addr_map.specs.Places.{MapSizes}
use Rattle.rv_isa.specs.declared.instruction.RegOp.TheVariants.{Add, Sll, Sltu, Srl, Mul}
use Rattle.flat_code.specs.declared.instruction.RightOperand.TheVariants.{Register, Number}
use Rattle.flat_code.specs.declared.instruction.FlatInstruction.{FlatInstruction}
use Rattle.flat_code.specs.declared.instruction.FlatInstruction.TheVariants.{Move, Operate}
use Rattle.flat_code.specs.Memory.{Bytes, KeepsBut}
use Rattle.flat_code.specs.State.{State}
use Rattle.flat_code.specs.Routines.Registers.{OthersStay}
use Rattle.flat_code.specs.Routines.Metadata.{View, metadata_at, no_metadata, ShowsNothing}
use Rattle.flat_actions.specs.Ranges.{IsObjectRange, DoesInRuntime}
use Rattle.lib_wrappers.specs.AreaRoutines.Areas.{IsAreaPlace, area_bytes, entries_begin}
use Rattle.lib_wrappers.specs.AreaRoutines.Loops.{word_loop, entry_behind, store_entry}
use Rattle.lib_wrappers.specs.AreaRoutines.Zeroing.{zero_area_code}

-- registers hold where an area begins, where a range of object space does, and the bytes of both
pub record IsToTake (map : MapSizes) (to from bytes n : ℕ) (state : State) : Type 0 where
  pub size_is : state.values bytes ≡ n
  pub place : IsAreaPlace map n (state.values to)
  pub range : IsObjectRange map (state.values from) n

-- the bytes, and the entries of whole words where the range begins at a multiple of 8
pub record HasTaken (entry : View) (to from n scratch : ℕ) (before after : State) : Type 0 where
  pub bytes : (i : ℕ) → i < n → after.memory (before.values to + i) ≡ before.memory (before.values from + i)
  pub entries : before.values from % 8 ≡ 0 → (w : ℕ) → w < n / 8
      → metadata_at after.memory (entries_begin (before.values to) n + 32 * w)
      ≡ entry before.memory (before.values from + 8 * w)
  pub none : before.values from % 8 ≢ 0 → (w : ℕ) → w < n / 8
      → metadata_at after.memory (entries_begin (before.values to) n + 32 * w) ≡ no_metadata
  pub beside : KeepsBut (before.values to) (area_bytes n) before.memory after.memory
  pub shows : ShowsNothing before after
  pub others : OthersStay [] scratch before after

-- within 48 steps and 16 for each byte
abbrev pub IsTakeRangeRoutine : MapSizes → View → (Bytes → Type 0) → (to from bytes scratch : ℕ) → List FlatInstruction
    → Type 0
IsTakeRangeRoutine map entry IsGood to from bytes t r =
    (n : ℕ)
    → DoesInRuntime map r (λ s. IsToTake map to from bytes n s × IsGood s.memory) (48 + 16 * n)
    (HasTaken entry to from n t)

-- ---- its instructions

-- How many entries are taken, none where the range does not begin at a multiple of 8; the first word, and where the
-- entries of the area begin.
abbrev pub count_entries : (to from bytes count word entry work : ℕ) → List FlatInstruction
count_entries to from bytes t p e w =
    Operate Srl t bytes (Number 3)
    ∷ Operate Sll w from (Number 61)
    ∷ Operate Sltu w w (Number 1)
    ∷ Operate Mul t t (Register w)
    ∷ Move p from
    ∷ Operate Add e bytes (Number 7)
    ∷ Operate Srl e e (Number 3)
    ∷ Operate Sll e e (Number 3)
    ∷ Operate Add e e (Register to)
    ∷ []

abbrev pub take_entries : (read : List FlatInstruction) → (to from bytes t : ℕ) → List FlatInstruction
take_entries read to from bytes t =
    count_entries to from bytes t (t + 1) (t + 2) (t + 3)
    ++ word_loop t (read ++ store_entry (t + 2) (entry_behind t))

-- all of it is made zero first
abbrev pub take_code : (read move : List FlatInstruction) → (to from bytes t : ℕ) → List FlatInstruction
take_code read move to from bytes t = (zero_area_code to bytes t ++ move) ++ take_entries read to from bytes t
