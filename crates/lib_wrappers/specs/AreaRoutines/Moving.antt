-- A part of contents moved from one area to the beginning of another, or of the same.
use Rattle.std.specs.Prelude.{◌≡◌, ◌≢◌, ℕ, ◌+◌, ◌*◌, ◌/◌, ◌%◌, ◌<◌, ◌≤◌, ◌⊎◌, List, [], ◌∷◌, ◌++◌}
use Rattle.addr_map.specs.Places.{MapSizes}
use Rattle.rv_isa.specs.declared.instruction.RegOp.TheVariants.{Add, Sub, Sll, Sltu, Srl, Mul}
use Rattle.obj_memory.specs.Sound.{DoNotMeet}
use Rattle.flat_code.specs.declared.instruction.RightOperand.TheVariants.{Register, Number}
use Rattle.flat_code.specs.declared.instruction.FlatInstruction.{FlatInstruction}
use Rattle.flat_code.specs.declared.instruction.FlatInstruction.TheVariants.{Constant, Move, Operate}
use Rattle.flat_code.specs.Memory.{KeepsBut}
use Rattle.flat_code.specs.State.{State}
use Rattle.flat_code.specs.declared.registers.Held.{Held}
use Rattle.flat_code.specs.Routines.Registers.{OthersStay}
use Rattle.flat_code.specs.Routines.Metadata.{metadata_at, no_metadata, ShowsNothing}
use Rattle.flat_actions.specs.Ranges.{DoesInRuntime}
use Rattle.lib_wrappers.specs.AreaRoutines.Areas.{IsAreaPlace, HoldsPart, area_bytes, entries_begin}
use Rattle.lib_wrappers.specs.AreaRoutines.Loops.{word_loop, zero_body, entry_behind, load_entry, store_entry}

-- Registers hold where an area begins, a part of contents in an area, and how many bytes of it. It is the same area, or
-- one that does not meet it.
pub record IsToMoveArea (map : MapSizes) (to : ℕ) (held : Held) (bytes n size offset a : ℕ) (state : State) : Type 0
  where
    pub size_is : state.values bytes ≡ n
    pub place : IsAreaPlace map n (state.values to)
    pub part : HoldsPart held size offset a state.values
    pub room : offset + n ≤ size
    pub from_place : IsAreaPlace map size a
    pub apart : (state.values to ≡ a) ⊎ DoNotMeet (state.values to) (area_bytes n) a (area_bytes size)

-- the bytes, and the entries of whole words where the part begins with a word
pub record HasMovedArea (to n size offset a scratch : ℕ) (before after : State) : Type 0 where
  pub bytes : (i : ℕ) → i < n → after.memory (before.values to + i) ≡ before.memory (a + (offset + i))
  pub entries : offset % 8 ≡ 0 → (w : ℕ) → w < n / 8
      → metadata_at after.memory (entries_begin (before.values to) n + 32 * w)
      ≡ metadata_at before.memory (entries_begin a size + 32 * (offset / 8 + w))
  pub none : offset % 8 ≢ 0 → (w : ℕ) → w < n / 8
      → metadata_at after.memory (entries_begin (before.values to) n + 32 * w) ≡ no_metadata
  pub beside : KeepsBut (before.values to) (area_bytes n) before.memory after.memory
  pub shows : ShowsNothing before after
  pub others : OthersStay [] scratch before after

-- within 40 steps and 13 for each byte
abbrev pub IsMoveAreaRoutine : MapSizes → (to : ℕ) → Held → (bytes scratch : ℕ) → List FlatInstruction → Type 0
IsMoveAreaRoutine map to h bytes t r =
    (n size offset a : ℕ)
    → DoesInRuntime map r (IsToMoveArea map to h bytes n size offset a) (40 + 13 * n)
    (HasMovedArea to n size offset a t)

-- ---- its instructions

-- where the entries of the area begin, how many are moved, and from where
abbrev pub count_parts : (to : ℕ) → Held → (bytes first count word entry work : ℕ) → List FlatInstruction
count_parts to h bytes b k p e w =
    Operate Add b bytes (Number 7)
    ∷ Operate Srl b b (Number 3)
    ∷ Operate Sll b b (Number 3)
    ∷ Operate Add b b (Register to)
    ∷ Operate Srl k bytes (Number 3)
    ∷ Operate Sub e h.value (Register h.tag.base)
    ∷ Operate Sll w e (Number 61)
    ∷ Operate Sltu w w (Number 1)
    ∷ Operate Mul k k (Register w)
    ∷ Constant p 0
    ∷ Operate Sll e e (Number 2)
    ∷ Operate Add e e (Register h.tag.bound)
    ∷ []

-- from the address of a word, counted from 0, to that of its entry
abbrev pub entry_of_word : (first word into : ℕ) → List FlatInstruction
entry_of_word b p d = Operate Sll d p (Number 2) ∷ Operate Add d d (Register b) ∷ []

abbrev pub move_body : (first t : ℕ) → List FlatInstruction
move_body b t =
    load_entry (t + 2) (entry_behind t) ++ (entry_of_word b (t + 1) (t + 7) ++ store_entry (t + 7) (entry_behind t))

-- how many words are made zero: all of the entries where none is moved
abbrev pub count_rest : Held → (bytes first count word entry work : ℕ) → List FlatInstruction
count_rest h bytes b k p e w =
    Operate Srl k bytes (Number 3)
    ∷ Operate Sll k k (Number 2)
    ∷ Operate Sub w h.value (Register h.tag.base)
    ∷ Operate Sll w w (Number 61)
    ∷ Operate Sltu w w (Number 1)
    ∷ Constant e 1
    ∷ Operate Sub w e (Register w)
    ∷ Operate Mul k k (Register w)
    ∷ Move p b
    ∷ Constant e 0
    ∷ []

abbrev pub move_parts : (to : ℕ) → Held → (bytes t : ℕ) → List FlatInstruction
move_parts to h bytes t =
    count_parts to h bytes t (t + 1) (t + 2) (t + 3) (t + 4) ++ word_loop (t + 1) (move_body t (t + 1))

abbrev pub clear_rest : Held → (bytes t : ℕ) → List FlatInstruction
clear_rest h bytes t =
    count_rest h bytes t (t + 1) (t + 2) (t + 3) (t + 4) ++ word_loop (t + 1) (zero_body (t + 1))
